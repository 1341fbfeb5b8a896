-- How many bytes are written at most: ten for a step between numbers of 64 bits, with a sign or not, or sums of two or
-- three of them.
use Rattle.std.proofs.Common.{◌≡◌, ℕ, ℤ, pos, negsuc, zero, suc, ◌+◌, ◌-◌, ◌*◌, ◌/◌, ◌%◌, ◌^◌, ◌<◌, ◌≤◌, Bool, true, false, cond, List, [], ◌∷◌, ◌++◌, All, length, take, drop, inl, inr, ap, ◌∙◌, length-append, arith}
use Rattle.std.specs.Prelude.{FitsSigned, ◌==◌}
use Rattle.std.specs.Int.{w64, w128, cast_unsigned}
use Rattle.std.specs.List.{remove}
use Rattle.std.proofs.lemmas.Bool.{cases_lt}
use Rattle.std.proofs.lemmas.Bool.Decides.{nat_tests}
use Rattle.std.proofs.lemmas.Int.{ints}
use Rattle.std.proofs.lemmas.List.Elements.{All-nil, All-cons, All-head, All-tail, All-take, All-drop, All-append}
use Rattle.rr_codec.specs.declared.expecting.Before.{Before}
use Rattle.rr_codec.specs.declared.fields.Fields.{Fields}
use Rattle.rr_codec.specs.declared.steps.Steps.{Steps}
use Rattle.rr_codec.specs.Numbers.{number_text_within, number_text}
use Rattle.rr_codec.specs.Steps.{flags_of, step_text, step_to, steps_text}
use Rattle.rr_codec.specs.Expecting.{after, apart, expected_max, expected_min, expected_version, plus, start, steps_to}
use Rattle.rr_codec.specs.Fields.{SlotEntry, IsTyped, fields_of}
use Rattle.rr_codec.specs.Recent.{KnownState, before_at, known_after, known_steps, nothing_known, place_of}
use Rattle.rr_codec.specs.Text.{cell_text, cells_text, next_known, packed_text}
use Rattle.rr_codec.proofs.NumberLemmas.{text_last, text_more, next_below, some_more}
use Rattle.rr_codec.proofs.StepsLemmas.{AreWide, flags_below}
use Rattle.rr_codec.proofs.RecentLemmas.{AreKnown, known_on, nothing_is_known, place_most}
use Rattle.rr_codec.proofs.FieldsLemmas.{fields_wide}
use Rattle.rr_codec.proofs.ExpectingLemmas.{start_wide}

-- ---- numbers

-- with a byte more
more : (most k n : ℕ) → 128 ≤ n → length (number_text_within most (n / 128)) ≤ k
    → length (number_text_within (suc most) n) ≤ suc k
more most k n large le =
    let e = text_more (suc most) n (omega arith) large in
    let j : suc most - 1 ≡ most = omega arith in
    let len : length (number_text_within (suc most) n) ≡ suc (length (number_text_within most (n / 128))) =
    ap length e ∙ ap (λ (m : ℕ). suc (length (number_text_within m (n / 128)))) j in
    omega (arith, len, le)

-- a number below a power of 128 has as many bytes as that
number_len : (most k n : ℕ) → 0 < k → n < 128 ^ k → length (number_text_within most n) ≤ k
unfolding number_text_within
number_len zero k n some lt = omega arith
number_len (suc most) zero n some lt = absurd (omega arith)
number_len (suc most) (suc k) n some lt =
    elim (cases_lt n 128) [
      | inl small ↦ let e = text_last (suc most) n (omega arith) small in omega (arith, ap length e)
      | inr large ↦
          let below = next_below k n lt in
          let fewer = number_len most k (n / 128) (some_more k (n / 128) (omega arith) below) below in
          more most k n large fewer
    ]

number_most : (most n : ℕ) → length (number_text_within most n) ≤ most
unfolding number_text_within
number_most zero n = omega arith
number_most (suc most) n =
    elim (cases_lt n 128) [
      | inl small ↦ let e = text_last (suc most) n (omega arith) small in omega (arith, ap length e)
      | inr large ↦ more most most n large (number_most most (n / 128))
    ]

-- ---- steps

chosen : (t : Bool) (text : List ℕ) (most : ℕ) → length text ≤ most → length (cond t [] text) ≤ most
chosen true text most le = omega arith
chosen false text most le = le

step_most : (step : ℕ) → length (step_text step) ≤ 19
step_most step = chosen (step == 0) (number_text step) 19 (number_most 19 step)

step_len : (k step : ℕ) → 0 < k → step < 128 ^ k → length (step_text step) ≤ k
step_len k step some lt = chosen (step == 0) (number_text step) k (number_len 19 k step some lt)

-- among numbers of 128 bits, of which the greatest is followed by 0, these are at most so far from 0
abbrev IsNear : ℕ → ℕ → Type 0
IsNear far n = (n + far) % 2 ^ 128 < 2 * far

near_step : (expected n : ℕ) → expected < 2 ^ 128 → n < 2 ^ 128 → IsNear (2 ^ 66) expected → IsNear (2 ^ 66) n
    → step_to expected n < 2 ^ 70
unfolding step_to
near_step expected n e_fits n_fits e_near n_near = grind (arith, nat_tests)

small_step : (expected n : ℕ) → expected < 2 ^ 16 → n < 2 ^ 16 → step_to expected n < 2 ^ 21
unfolding step_to
small_step expected n e_lt n_lt = grind (arith, nat_tests)

place_step : (expected n : ℕ) → expected ≤ 16 → n ≤ 16 → step_to expected n < 2 ^ 7
unfolding step_to
place_step expected n e_le n_le = grind (arith, nat_tests)

-- ---- the fields of cells

-- numbers of 64 bits, with a sign or not
pub record AreNear (f : Fields) : Type 0 where
  pub slot : IsNear (2 ^ 64) f.slot
  pub origin : f.origin < 2 ^ 16
  pub version : f.version < 2 ^ 64
  pub count : f.count < 2 ^ 64
  pub min : IsNear (2 ^ 64) f.min
  pub max : IsNear (2 ^ 64) f.max
  pub last_value : IsNear (2 ^ 64) f.last_value

near_signed : (z : ℤ) → FitsSigned w64 z → IsNear (2 ^ 64) (cast_unsigned w128 z)
near_signed (pos n) fits = grind (arith, ints, nat_tests)
near_signed (negsuc n) fits = grind (arith, ints, nat_tests)

fields_near : (e : SlotEntry) → IsTyped e → AreNear (fields_of e)
unfolding fields_of
fields_near e typed = record {
  slot = near_signed e.0 typed.slot;
  origin = typed.origin;
  version = typed.version;
  count = typed.count;
  min = near_signed e.1.contribution.min typed.min;
  max = near_signed e.1.contribution.max typed.max;
  last_value = near_signed e.1.contribution.last_value typed.last_value;
}

-- a cell whose fields are near, and a stride between two versions
pub record IsNearBefore (b : Before) : Type 0 where
  pub cell : AreNear b.cell
  pub wide : AreWide b.cell
  pub stride : IsNear (2 ^ 64) b.stride
  pub stride_wide : b.stride < 2 ^ 128

start_near : IsNearBefore start
start_near = record {
  cell = record {
    slot = omega arith;
    origin = omega arith;
    version = omega arith;
    count = omega arith;
    min = omega arith;
    max = omega arith;
    last_value = omega arith;
  };
  wide = start_wide;
  stride = omega arith;
  stride_wide = omega arith;
}

-- from what is known of near cells
pub record AreAllNear (k : KnownState) : Type 0 where
  pub known : AreKnown k
  pub each : All IsNearBefore k.recent

nothing_near : (span : ℕ) → AreAllNear (nothing_known span)
nothing_near span = record { known = nothing_is_known span; each = All-nil _ }

before_near : (recent : List Before) (place : ℕ) → All IsNearBefore recent → IsNearBefore (before_at recent place)
before_near [] place each = start_near
before_near (b ∷ bs) zero each = All-head IsNearBefore b bs each
before_near (b ∷ bs) (suc place) each = before_near bs place (All-tail IsNearBefore b bs each)

apart_near : (later earlier : ℕ) → later < 2 ^ 64 → earlier < 2 ^ 64 → IsNear (2 ^ 64) (apart later earlier)
apart_near later earlier p q = grind (arith, nat_tests)

near_on : (k : KnownState) (e : SlotEntry) → AreAllNear k → IsTyped e → AreAllNear (next_known k e)
unfolding known_after after
near_on k e near typed =
    let place = place_of k.recent (fields_of e).origin in
    let b = before_near k.recent place near.each in
    let f = fields_near e typed in
    record {
      known = known_on k (fields_of e) near.known (fields_wide e typed);
      each = All-cons IsNearBefore _ _ (record {
        cell = f;
        wide = fields_wide e typed;
        stride = apart_near _ _ f.version b.cell.version;
        stride_wide = omega arith;
      }) (All-take IsNearBefore 15 (remove k.recent place)
          (All-append IsNearBefore (take place k.recent) (drop (suc place) k.recent)
          (All-take IsNearBefore place k.recent near.each)
          (All-drop IsNearBefore (suc place) k.recent near.each)));
    }

-- ---- the steps of a cell

-- what is expected of a slot, a version and the extremes is near
plus_one : (n : ℕ) → IsNear (2 ^ 64) n → IsNear (2 ^ 66) (plus n 1)
plus_one n near = grind (arith, nat_tests)

plus_stride : (n m : ℕ) → n < 2 ^ 64 → IsNear (2 ^ 64) m → m < 2 ^ 128 → IsNear (2 ^ 66) (plus n m)
plus_stride n m lt near wide = grind (arith, nat_tests)

plus_apart : (l a b : ℕ) → l < 2 ^ 128 → a < 2 ^ 128 → b < 2 ^ 128 → IsNear (2 ^ 64) l → IsNear (2 ^ 64) a
    → IsNear (2 ^ 64) b → IsNear (2 ^ 66) (plus l (apart a b))
plus_apart l a b l_wide a_wide b_wide l_near a_near b_near = grind (arith, nat_tests)

nearer : (n : ℕ) → IsNear (2 ^ 64) n → IsNear (2 ^ 66) n
nearer n near = grind (arith, nat_tests)

small_near : (n : ℕ) → n < 2 ^ 64 → IsNear (2 ^ 66) n
small_near n lt = grind (arith, nat_tests)

-- a bound on the bytes of the steps
pub record AreShort (s : Steps) : Type 0 where
  pub place : length (step_text s.place) ≤ 1
  pub slot : length (step_text s.fields.slot) ≤ 10
  pub origin : length (step_text s.fields.origin) ≤ 3
  pub version : length (step_text s.fields.version) ≤ 10
  pub count : length (step_text s.fields.count) ≤ 10
  pub min : length (step_text s.fields.min) ≤ 10
  pub max : length (step_text s.fields.max) ≤ 10
  pub last_value : length (step_text s.fields.last_value) ≤ 10

ten : (expected n : ℕ) → expected < 2 ^ 128 → n < 2 ^ 128 → IsNear (2 ^ 66) expected → IsNear (2 ^ 66) n
    → length (step_text (step_to expected n)) ≤ 10
ten expected n e_fits n_fits e_near n_near =
    step_len 10 _ (omega arith) (near_step expected n e_fits n_fits e_near n_near)

short_steps : (k : KnownState) (e : SlotEntry) → AreAllNear k → IsTyped e → AreShort (known_steps k (fields_of e))
unfolding known_steps steps_to expected_version expected_min expected_max
short_steps k e near typed =
    let f = fields_of e in
    let place = place_of k.recent f.origin in
    let b = before_at k.recent place in
    let before = before_near k.recent place near.each in
    let cell = before.cell in
    let wide = before.wide in
    let own = fields_near e typed in
    let own_wide = fields_wide e typed in
    record {
      place = step_len 1 _ (omega arith) (place_step k.place place near.known.place (place_most k f.origin near.known));
      slot = ten (plus b.cell.slot 1) f.slot (omega arith) own_wide.slot (plus_one b.cell.slot cell.slot)
          (nearer f.slot own.slot);
      origin = step_len 3 _ (omega arith) (small_step b.cell.origin f.origin cell.origin own.origin);
      version = ten (plus b.cell.version b.stride) f.version (omega arith) own_wide.version
          (plus_stride b.cell.version b.stride cell.version before.stride before.stride_wide)
          (small_near f.version own.version);
      count = ten b.cell.count f.count wide.count own_wide.count (small_near b.cell.count cell.count)
          (small_near f.count own.count);
      min = ten (plus f.last_value (apart b.cell.min b.cell.last_value)) f.min (omega arith) own_wide.min
          (plus_apart f.last_value b.cell.min b.cell.last_value own_wide.last_value wide.min wide.last_value
          own.last_value
          cell.min cell.last_value) (nearer f.min own.min);
      max = ten (plus f.last_value (apart b.cell.max b.cell.last_value)) f.max (omega arith) own_wide.max
          (plus_apart f.last_value b.cell.max b.cell.last_value own_wide.last_value wide.max wide.last_value
          own.last_value
          cell.max cell.last_value) (nearer f.max own.max);
      last_value = ten b.cell.last_value f.last_value wide.last_value own_wide.last_value
          (nearer b.cell.last_value cell.last_value) (nearer f.last_value own.last_value);
    }

two : (a b : List ℕ) (m n : ℕ) → length a ≤ m → length b ≤ n → length (a ++ b) ≤ m + n
two a b m n p q = omega (arith, length-append a b)

-- flags 2; last value, version, least, greatest, count and slot 10 each; last time, sum and mask 19 each; place 1;
-- origin 3
steps_len : (s : Steps) → AreShort s → length (steps_text s) ≤ 123
unfolding steps_text
steps_len s short =
    let f = s.fields in
    let l1 = two (step_text s.place) (step_text f.origin) 1 3 short.place short.origin in
    let l2 = two (step_text f.slot) _ 10 4 short.slot l1 in
    let l3 = two (step_text f.mask) _ 19 14 (step_most f.mask) l2 in
    let l4 = two (step_text f.count) _ 10 33 short.count l3 in
    let l5 = two (step_text f.sum) _ 19 43 (step_most f.sum) l4 in
    let l6 = two (step_text f.max) _ 10 62 short.max l5 in
    let l7 = two (step_text f.min) _ 10 72 short.min l6 in
    let l8 = two (step_text f.last_time) _ 19 82 (step_most f.last_time) l7 in
    let l9 = two (step_text f.version) _ 10 101 short.version l8 in
    let l10 = two (step_text f.last_value) _ 10 111 short.last_value l9 in
    two (number_text (flags_of s)) _ 2 121 (number_len 19 2 (flags_of s) (omega arith) (omega (arith, flags_below s)))
    l10

cells_len : (k : KnownState) (es : List SlotEntry) → AreAllNear k → All IsTyped es
    → length (cells_text k es) ≤ 123 * length es
cells_len k [] near typed = omega arith
cells_len k (e ∷ es) near typed =
    let first = All-head IsTyped e es typed in
    let rest = cells_len (next_known k e) es (near_on k e near first) (All-tail IsTyped e es typed) in
    let own = steps_len (known_steps k (fields_of e)) (short_steps k e near first) in
    omega (arith, length-append (cell_text k e) (cells_text (next_known k e) es), rest, own)

pub packed_len : (span : ℕ) (es : List SlotEntry) → length es < 2 ^ 32 → All IsTyped es
    → length (packed_text span es) ≤ 24 + 123 * length es
packed_len span es few typed =
    let count = number_len 19 5 (length es) (omega arith) (omega arith) in
    let cells = cells_len (nothing_known span) es (nothing_near span) typed in
    let text = two (number_text (length es)) _ 5 (19 + 123 * length es) count
    (two (number_text span) _ 19 (123 * length es) (number_most 19 span) cells) in
    omega (arith, text)
