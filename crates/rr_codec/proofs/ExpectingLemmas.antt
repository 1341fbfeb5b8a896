-- The steps to some fields lead to these fields.
use Rattle.std.proofs.Common.{◌≡◌, ℕ, ◌/◌, refl, arith}
use Rattle.rr_codec.specs.declared.expecting.Before.{Before}
use Rattle.rr_codec.specs.declared.fields.Fields.{Fields}
use Rattle.rr_codec.specs.Expecting.{plus, apart, times, start, expected_version, expected_time, expected_min, expected_max, expected_sum, steps_to, fields_from}
use Rattle.rr_codec.proofs.StepLemmas.{step_from-step_to, step_to-wide}
use Rattle.rr_codec.proofs.StepsLemmas.{AreWide}

pub steps_wide : (span : ℕ) (b : Before) (f : Fields) → AreWide (steps_to span b f)
unfolding steps_to
steps_wide span b f = record {
  slot = step_to-wide _ _;
  origin = step_to-wide _ _;
  version = step_to-wide _ _;
  count = step_to-wide _ _;
  sum = step_to-wide _ _;
  min = step_to-wide _ _;
  max = step_to-wide _ _;
  last_time = step_to-wide _ _;
  last_value = step_to-wide _ _;
  mask = step_to-wide _ _;
}

pub fields_again : (span : ℕ) (b : Before) (f : Fields) → AreWide b.cell → AreWide f
    → fields_from span b (steps_to span b f) ≡ f
unfolding fields_from steps_to expected_version expected_time expected_min expected_max expected_sum
fields_again span b f before wide =
    let slot = step_from-step_to (plus b.cell.slot 1) f.slot (omega arith) wide.slot in
    let origin = step_from-step_to b.cell.origin f.origin before.origin wide.origin in
    let version = step_from-step_to (plus b.cell.version b.stride) f.version (omega arith) wide.version in
    let count = step_from-step_to b.cell.count f.count before.count wide.count in
    let last_value = step_from-step_to b.cell.last_value f.last_value before.last_value wide.last_value in
    let mask = step_from-step_to b.cell.mask f.mask before.mask wide.mask in
    let min = step_from-step_to (plus f.last_value (apart b.cell.min b.cell.last_value)) f.min (omega arith) wide.min in
    let max = step_from-step_to (plus f.last_value (apart b.cell.max b.cell.last_value)) f.max (omega arith) wide.max in
    let time = step_from-step_to (plus b.cell.last_time (times (apart f.slot b.cell.slot) span)) f.last_time
    (omega arith) wide.last_time in
    let sum = step_from-step_to (plus (times f.count f.min) (times f.count (apart f.max f.min) / 2)) f.sum (omega arith)
    wide.sum in
    rw (slot, origin, version, count, last_value, mask, min, max, time, sum) refl

pub start_wide : AreWide start.cell
start_wide = record {
  slot = omega arith;
  origin = omega arith;
  version = omega arith;
  count = omega arith;
  sum = omega arith;
  min = omega arith;
  max = omega arith;
  last_time = omega arith;
  last_value = omega arith;
  mask = omega arith;
}
