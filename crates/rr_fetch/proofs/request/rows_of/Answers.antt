use Rattle.std.proofs.Common.{◌≡◌, ◌<◌, ◌≤◌, pos, neg_ℤ, ◌-ℤ◌, rules}
use Rattle.std.specs.Prelude.{unsigned_abs}
use Rattle.std.specs.Int.{w64, int_div_euclid}
use Rattle.std.proofs.Math.Facts.{to_z-of_z}
use Rattle.rr_schema.specs.Schema.{span}
use Rattle.rr_text.specs.declared.limits.TheConstants.{MAX_FETCH_ROWS, MAX_SECOND}
use Rattle.rr_fetch.proofs.RequestLemmas.{few, many, floor_below_ceil, some_rows}
use Rattle.rr_fetch.proofs.request.rows_of.Goals as goal

pub returns-then-rows-from-clause-value : goal.returns-then-rows-from-clause-value
returns-then-rows-from-clause-value c =
    let s = c.args.schema.now in
    let first : c.first_slot-first.result ≡ int_div_euclid c.args.start (pos (span s c.args.archive)) = search rules in
    let last : c.slot_after-last.result ≡ neg_ℤ (int_div_euclid (neg_ℤ c.args.end) (pos (span s c.args.archive))) =
    search rules in
    let rows : c.slots_between-rows.result ≡ unsigned_abs (c.slot_after-last.result -ℤ c.first_slot-first.result) =
    search rules in
    let over : MAX_FETCH_ROWS < c.slots_between-rows.result = search rules in
    λ key function. many s key function c.args.archive c.args.start c.args.end c.first_slot-first.result
    c.slot_after-last.result c.slots_between-rows.result first last rows over

pub returns-clause-value : goal.returns-clause-value
returns-clause-value c =
    let s = c.args.schema.now in
    let first : c.first_slot-first.result ≡ int_div_euclid c.args.start (pos (span s c.args.archive)) = search rules in
    let last : c.slot_after-last.result ≡ neg_ℤ (int_div_euclid (neg_ℤ c.args.end) (pos (span s c.args.archive))) =
    search rules in
    let rows : c.slots_between-rows.result ≡ unsigned_abs (c.slot_after-last.result -ℤ c.first_slot-first.result) =
    search rules in
    let within : c.slots_between-rows.result ≤ MAX_FETCH_ROWS = search rules in
    let back = to_z-of_z {w = w64} {z = c.first_slot-first.result} (search rules) in
    λ key function. rw back (few s key function c.args.archive c.args.start c.args.end c.first_slot-first.result
    c.slot_after-last.result c.slots_between-rows.result first last rows within)

pub returns-clause-fetchable : goal.returns-clause-fetchable
returns-clause-fetchable c =
    let s = c.args.schema.now in
    let first : c.first_slot-first.result ≡ int_div_euclid c.args.start (pos (span s c.args.archive)) = search rules in
    let last : c.slot_after-last.result ≡ neg_ℤ (int_div_euclid (neg_ℤ c.args.end) (pos (span s c.args.archive))) =
    search rules in
    let rows : c.slots_between-rows.result ≡ unsigned_abs (c.slot_after-last.result -ℤ c.first_slot-first.result) =
    search rules in
    let wide : 0 < span s c.args.archive = search rules in
    let before = rw (← first, ← last) at (floor_below_ceil c.args.start c.args.end (span s c.args.archive) wide
    c.requires.start_before_end) in
    let back = to_z-of_z {w = w64} {z = c.first_slot-first.result} (search rules) in
    let near : unsigned_abs c.first_slot-first.result ≤ MAX_SECOND = search rules in
    λ key function. record {
      is_there = c.requires.archive_exists;
      near = rw back near;
      some = rw rows (some_rows c.first_slot-first.result c.slot_after-last.result before);
      few = search rules;
    }
