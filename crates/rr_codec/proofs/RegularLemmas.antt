-- The steps of a regular cell are 0 but for six.
use Rattle.std.proofs.Common.{◌≡◌, ℕ, ◌+◌, ◌*◌, ◌/◌, ◌%◌, ◌^◌, ◌<◌, ◌≤◌, true, false, List, [], ◌∷◌, ◌++◌, length, drop, take, get_or, Ok, refl, sym, ap, ◌∙◌, arith}
use Rattle.std.specs.Prelude.{◌==◌, nat_le, nat_lt, slice_set}
use Rattle.std.specs.List.{refill}
use Rattle.std.proofs.Math.Seq.{take-append_seam}
use Rattle.std.proofs.lemmas.List.{take_all}
use Rattle.std.proofs.lemmas.Bool.{lt-leb}
use Rattle.std.proofs.lemmas.Bool.Decides.{nat_tests}
use Rattle.rr_codec.specs.declared.expecting.Before.{Before}
use Rattle.rr_codec.specs.declared.fields.Fields.{Fields}
use Rattle.rr_codec.specs.declared.regular.RegularSteps.{RegularSteps}
use Rattle.rr_codec.specs.Numbers.{number_at}
use Rattle.rr_codec.specs.Steps.{flags_of, step_at, step_from, step_to, steps_at}
use Rattle.rr_codec.specs.Expecting.{after, expected_max, expected_min, expected_sum, expected_time, expected_version, fields_from, plus, steps_to}
use Rattle.rr_codec.specs.Recent.{KnownState, before_at, fields_at, is_of, known_after, known_fields, known_fields_at, known_steps, place_of}
use Rattle.rr_codec.specs.Regular.{GoesOn, IsLast, all_steps}
use Rattle.rr_codec.proofs.StepsLemmas.{AreWide}

-- ---- what is expected of the cell after the last one

pub regular_steps : (span : ℕ) (b : Before) (f : Fields) → GoesOn b.cell f
    → steps_to span b f ≡ record {
      slot = 0;
      origin = 0;
      version = step_to (expected_version b) f.version;
      count = 0;
      sum = step_to (expected_sum f.count f.min f.max) f.sum;
      min = step_to (expected_min b f.last_value) f.min;
      max = step_to (expected_max b f.last_value) f.max;
      last_time = step_to (expected_time span b f.slot) f.last_time;
      last_value = step_to b.cell.last_value f.last_value;
      mask = 0;
    }
unfolding steps_to
regular_steps span b f on = rw (on.slot, on.origin, on.count, on.mask) refl

-- ---- the steps of a regular cell, read

-- flags below 64 leave none for the last five
flags_end : (n n1 n2 n3 n4 n5 n6 : ℕ) → n < 64 → n1 ≡ n / 2 → n2 ≡ n1 / 2 → n3 ≡ n2 / 2 → n4 ≡ n3 / 2 → n5 ≡ n4 / 2
    → n6 ≡ n5 / 2 → n6 ≡ 0
flags_end n n1 n2 n3 n4 n5 n6 lt e1 e2 e3 e4 e5 e6 = omega arith

pub regular_read : (n n1 n2 n3 n4 n5 n6 : ℕ) (r0 r1 r2 r3 r4 r5 r6 bytes : List ℕ) (r : RegularSteps) → n < 64
    → n1 ≡ n / 2 → n2 ≡ n1 / 2 → n3 ≡ n2 / 2 → n4 ≡ n3 / 2 → n5 ≡ n4 / 2 → n6 ≡ n5 / 2
    → number_at bytes ≡ Ok (n, r0)
    → step_at n r0 ≡ Ok (r.last_value, n1, r1)
    → step_at n1 r1 ≡ Ok (r.version, n2, r2)
    → step_at n2 r2 ≡ Ok (r.last_time, n3, r3)
    → step_at n3 r3 ≡ Ok (r.min, n4, r4)
    → step_at n4 r4 ≡ Ok (r.max, n5, r5)
    → step_at n5 r5 ≡ Ok (r.sum, n6, r6)
    → steps_at bytes ≡ Ok (all_steps r, r6)
unfolding steps_at
regular_read n n1 n2 n3 n4 n5 n6 r0 r1 r2 r3 r4 r5 r6 bytes r lt e1 e2 e3 e4 e5 e6 first last_value version last_time
    min max sum =
    let few : nat_le (2 ^ 11) n ≡ false = lt-leb _ _ (omega (arith, lt)) in
    rw (first, few, last_value, version, last_time, min, max, sum, flags_end n n1 n2 n3 n4 n5 n6 lt e1 e2 e3 e4 e5 e6)
    refl

-- ---- what is known before a regular cell

pub last_place : (b : Before) (others : List Before) (origin : ℕ) → origin ≡ b.cell.origin
    → place_of (b ∷ others) origin ≡ 0
last_place b others origin same =
    let right : (b.cell.origin == origin) ≡ true = grind (arith, nat_tests) in rw right refl

pub steps_known : (k : KnownState) (b : Before) (f : Fields) (r : RegularSteps) → IsLast k b
    → f.origin ≡ b.cell.origin → steps_to k.span b f ≡ (all_steps r).fields → known_steps k f ≡ all_steps r
unfolding known_steps step_to
steps_known k b f r last same steps =
    rw (last.first, last_place b (drop 1 k.recent) f.origin same, last.place, steps) refl

-- the steps of a regular cell lead to fields of the same origin
pub fields_known : (k : KnownState) (b : Before) (r : RegularSteps) (f : Fields) (bytes rest : List ℕ) → IsLast k b
    → f ≡ fields_from k.span b (all_steps r).fields → f.origin ≡ b.cell.origin
    → steps_at bytes ≡ Ok (all_steps r, rest) → known_fields_at k bytes ≡ Ok (f, rest)
unfolding known_fields_at known_fields step_from
fields_known k b r f bytes rest last is same read =
    let right : (b.cell.origin == f.origin) ≡ true = grind (arith, nat_tests) in
    rw (read, last.place, last.first, sym is, right) refl

-- ---- what is known after a cell of the same origin

items_renewed : (b next : Before) (others : List Before)
    → refill (length (b ∷ others)) (b ∷ others) (slice_set (b ∷ others) 0 next) ≡ next ∷ others
items_renewed b next others =
    ap (λ (l : List Before). next ∷ l) (take-append_seam others (drop (length others) others))

after_last : (span place : ℕ) (b : Before) (others : List Before) (f : Fields) → length others ≤ 15
    → b.cell.origin ≡ f.origin
    → known_after (record { span = span; recent = b ∷ others; place = place }) f ≡ record {
      span = span;
      recent = after b f ∷ others;
      place = 0;
    }
unfolding known_after
after_last span place b others f few same =
    let right : (b.cell.origin == f.origin) ≡ true = grind (arith, nat_tests) in
    let left : take 15 others ≡ others = take_all 15 others few in
    rw (right, left) refl

-- the list of the origins that were seen last, of which the first has another cell now
pub renewed : (span place : ℕ) (items : List Before) (b next : Before) (f : Fields) → 0 < length items
    → length items ≤ 16 → b ≡ get_or items 0 b → b.cell.origin ≡ f.origin → next ≡ after b f
    → record { span = span; recent = refill (length items) items (slice_set items 0 next); place = 0 }
    ≡ known_after (record { span = span; recent = items; place = place }) f
renewed span place [] b next f some few first same is = absurd (omega arith)
renewed span place (b0 ∷ others) b next f some few first same is =
    let origin : b0.cell.origin ≡ f.origin = ap (λ (x : Before). x.cell.origin) (sym first) ∙ same in
    let renewed_is : next ≡ after b0 f = is ∙ ap (λ (x : Before). after x f) first in
    ap (λ (l : List Before). record { span = span; recent = l; place = 0 })
    (items_renewed b0 next others ∙ ap (λ (x : Before). x ∷ others) renewed_is)
    ∙ sym (after_last span place b0 others f (omega (arith, few)) origin)
