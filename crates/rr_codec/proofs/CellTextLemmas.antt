-- What is read as some cells is their text.
use Rattle.std.proofs.Common.{◌≡◌, ℕ, ℤ, zero, suc, ◌+◌, ◌-◌, ◌/◌, ◌%◌, ◌^◌, ◌<◌, Bool, true, false, List, [], ◌∷◌, ◌++◌, length, Result, refl, sym, ap, subst, ◌∙◌, append_assoc, true≢false, arith}
use Rattle.std.specs.Prelude.{nat_le, not, ◌==◌}
use Rattle.std.specs.Int.{w128, cast_signed, cast_unsigned}
use Rattle.std.proofs.lemmas.Int.{of_z-to_z}
use Rattle.std.proofs.lemmas.Bool.{eqb-true}
use Rattle.std.proofs.lemmas.Bool.Decides.{nat_tests}
use Rattle.rr_text.specs.Results.{◌>>=◌}
use Rattle.rr_codec.specs.declared.fault.CodecFault.{CodecFault}
use Rattle.rr_codec.specs.declared.fault.CodecFault.TheVariants.{BadNumber, BadOrigin}
use Rattle.rr_codec.specs.Numbers.{number_text, number_at}
use Rattle.rr_codec.specs.Steps.{steps_at, steps_text, step_from, step_to, unzigzag, zigzag}
use Rattle.rr_codec.specs.declared.steps.Steps.{Steps}
use Rattle.rr_codec.specs.declared.expecting.Before.{Before}
use Rattle.rr_codec.specs.declared.fields.Fields.{Fields}
use Rattle.rr_codec.specs.Expecting.{apart, expected_max, expected_min, expected_sum, expected_time, expected_version, fields_from, plus, steps_to, times}
use Rattle.rr_codec.specs.Fields.{SlotEntry, cell_of, fields_of, number_below, origin_of, signed_of}
use Rattle.rr_codec.specs.Reading.{cell_at, cells_at, head_at, packed_at}
use Rattle.rr_codec.specs.Text.{cell_text, cells_text, next_known, packed_text}
use Rattle.rr_text.specs.Text.{fits_i64}
use Rattle.rr_codec.specs.Recent.{KnownState, before_at, known_after, known_fields, known_fields_at, known_steps, nothing_known, place_of}
use Rattle.rr_codec.proofs.RecentLemmas.{AreKnown, before_wide, known_on, nothing_is_known}
use Rattle.rr_codec.proofs.StepsLemmas.{AreWide, AreWideSteps}
use Rattle.rr_codec.proofs.TextLemmas.{then_ok, unless_ok, done, done_same, AreBytes, number_of, steps_of}

zigzag_back : (step : ℕ) → step < 2 ^ 128 → zigzag (unzigzag step) ≡ step
zigzag_back step fits = grind (arith, nat_tests)

unzigzag_wide : (step : ℕ) → step < 2 ^ 128 → unzigzag step < 2 ^ 128
unzigzag_wide step fits = grind (arith, nat_tests)

back_to : (expected difference : ℕ) → expected < 2 ^ 128 → difference < 2 ^ 128
    → ((expected + difference) % 2 ^ 128 + (2 ^ 128 - expected)) % 2 ^ 128 ≡ difference
back_to expected difference p q = omega arith

step_back : (expected step : ℕ) → expected < 2 ^ 128 → step < 2 ^ 128
    → step_to expected (step_from expected step) ≡ step
unfolding step_to step_from
step_back expected step p q =
    ap zigzag (back_to expected (unzigzag step) p (unzigzag_wide step q)) ∙ zigzag_back step q

step_from_wide : (expected step : ℕ) → step_from expected step < 2 ^ 128
unfolding step_from
step_from_wide expected step = omega arith

from_wide : (span : ℕ) (b : Before) (s : Fields) → AreWide (fields_from span b s)
unfolding fields_from
from_wide span b s = record {
  slot = step_from_wide _ _;
  origin = step_from_wide _ _;
  version = step_from_wide _ _;
  count = step_from_wide _ _;
  sum = step_from_wide _ _;
  min = step_from_wide _ _;
  max = step_from_wide _ _;
  last_time = step_from_wide _ _;
  last_value = step_from_wide _ _;
  mask = step_from_wide _ _;
}

fields_back : (span : ℕ) (b : Before) (s : Fields) → AreWide b.cell → AreWide s
    → steps_to span b (fields_from span b s) ≡ s
unfolding fields_from steps_to expected_version expected_time expected_min expected_max expected_sum
fields_back span b s before wide =
    let slot = step_from (plus b.cell.slot 1) s.slot in
    let value = step_from b.cell.last_value s.last_value in
    let count = step_from b.cell.count s.count in
    let least = plus value (apart b.cell.min b.cell.last_value) in
    let most = plus value (apart b.cell.max b.cell.last_value) in
    let min = step_from least s.min in
    let max = step_from most s.max in
    rw (
      step_back (plus b.cell.slot 1) s.slot (omega arith) wide.slot,
      step_back b.cell.origin s.origin before.origin wide.origin,
      step_back (plus b.cell.version b.stride) s.version (omega arith) wide.version,
      step_back b.cell.count s.count before.count wide.count,
      step_back b.cell.last_value s.last_value before.last_value wide.last_value,
      step_back b.cell.mask s.mask before.mask wide.mask,
      step_back least s.min (omega arith) wide.min,
      step_back most s.max (omega arith) wide.max,
      step_back (plus b.cell.last_time (times (apart slot b.cell.slot) span)) s.last_time (omega arith) wide.last_time,
      step_back (plus (times count min) (times count (apart max min) / 2)) s.sum (omega arith) wide.sum,
    ) refl

-- steps and the fields that they lead to
pub record LeadsTo (k : KnownState) (steps : Steps) (f : Fields) : Type 0 where
  pub steps_are : known_steps k f ≡ steps
  pub wide : AreWide f

pub no_not : (t : Bool) → not t ≡ false → t ≡ true
no_not true e = refl
no_not false e = absurd (true≢false e)

known_back : (k : KnownState) (steps : Steps) (f : Fields) → AreKnown k → AreWideSteps steps
    → known_fields k steps ≡ done f → LeadsTo k steps f
unfolding known_fields known_steps
known_back k steps f known wide e =
    let place = step_from k.place steps.place in
    let cell = fields_from k.span (before_at k.recent place) steps.fields in
    let kept = unless_ok BadNumber (not (place_of k.recent cell.origin == place)) _ f e in
    let right : place_of k.recent cell.origin ≡ place = eqb-true _ _ (no_not _ kept.0) in
    let step = step_back k.place steps.place (omega (arith, known.place)) wide.place in
    let back = fields_back k.span (before_at k.recent place) steps.fields (before_wide k.recent place known.each)
    wide.fields in
    subst (λ (x : Fields). LeadsTo k steps x) (done_same cell f kept.1) (record {
      steps_are = rw (right, step, back) refl;
      wide = from_wide k.span (before_at k.recent place) steps.fields;
    })

pub with_then : {A B P : Type 0} (r : Result A CodecFault) (next : A → Result B CodecFault) (y : B)
    → (r >>= next) ≡ done y
    → ((x : A) → r ≡ done x → next x ≡ done y → P) → P
with_then r next y e goes_on = let x = then_ok r next y e in goes_on x.0 x.1 x.2

signed_back : (n : ℕ) (z : ℤ) → n < 2 ^ 128 → signed_of n ≡ done z → cast_unsigned w128 z ≡ n
signed_back n z fits e =
    let kept = unless_ok BadNumber (not (fits_i64 (cast_signed w128 n))) _ z e in
    ap (cast_unsigned w128) (sym (done_same (cast_signed w128 n) z kept.1)) ∙ of_z-to_z w128 n fits

below_back : (bound n m : ℕ) → number_below bound n ≡ done m → m ≡ n
below_back bound n m e = sym (done_same n m (unless_ok BadNumber (nat_le bound n) _ m e).1)

origin_back : (n m : ℕ) → origin_of n ≡ done m → m ≡ n
origin_back n m e =
    with_then (number_below (2 ^ 16) n) _ m e (λ o below kept.
    sym (done_same o m (unless_ok BadOrigin (o == 0) _ m kept).1) ∙ below_back (2 ^ 16) n o below)

cell_back : (f : Fields) (e : SlotEntry) → AreWide f → cell_of f ≡ done e → fields_of e ≡ f
unfolding cell_of fields_of
cell_back f e wide read =
    with_then (signed_of f.slot) _ e read (λ slot slot_is e1.
    with_then (origin_of f.origin) _ e e1 (λ origin origin_is e2.
    with_then (number_below (2 ^ 64) f.version) _ e e2 (λ version version_is e3.
    with_then (number_below (2 ^ 64) f.count) _ e e3 (λ count count_is e4.
    with_then (signed_of f.min) _ e e4 (λ min min_is e5.
    with_then (signed_of f.max) _ e e5 (λ max max_is e6.
    with_then (signed_of f.last_time) _ e e6 (λ time time_is e7.
    with_then (signed_of f.last_value) _ e e7 (λ value value_is e8.
    let cell : SlotEntry = (
      slot,
      record {
        origin = origin;
        contribution = record {
          version = version;
          count = count;
          sum = cast_signed w128 f.sum;
          min = min;
          max = max;
          last_time = time;
          last_value = value;
          mask = f.mask;
        };
      },
    ) in
    subst (λ (x : SlotEntry). fields_of x ≡ f) (done_same cell e e8)
    (rw (
      signed_back f.slot slot wide.slot slot_is,
      origin_back f.origin origin origin_is,
      below_back (2 ^ 64) f.version version version_is,
      below_back (2 ^ 64) f.count count count_is,
      of_z-to_z w128 f.sum wide.sum,
      signed_back f.min min wide.min min_is,
      signed_back f.max max wide.max max_is,
      signed_back f.last_time time wide.last_time time_is,
      signed_back f.last_value value wide.last_value value_is,
    ) refl)))))))))

-- a cell, what is known after it, and what follows it are these bytes
pub record IsCellAt (k : KnownState) (e : SlotEntry) (after : KnownState) (rest bytes : List ℕ) : Type 0 where
  pub text : bytes ≡ cell_text k e ++ rest
  pub after_is : after ≡ next_known k e
  pub known : AreKnown after
  pub are_bytes : AreBytes rest

cell_of_bytes : (k : KnownState) (e : SlotEntry) (after : KnownState) (rest bytes : List ℕ) → AreKnown k
    → AreBytes bytes
    → cell_at k bytes ≡ done ((e, after), rest) → IsCellAt k e after rest bytes
unfolding cell_at known_fields_at
cell_of_bytes k e after rest bytes known are read =
    with_then (known_fields_at k bytes) _ ((e, after), rest) read (λ found found_is e1.
    with_then (cell_of found.0) _ ((e, after), rest) e1 (λ cell cell_is e2.
    with_then (steps_at bytes) _ found found_is (λ steps steps_are e3.
    with_then (known_fields k steps.0) _ found e3 (λ fields fields_are e4.
    let same = done_same (fields, steps.1) found e4 in
    let at = steps_of steps.0 steps.1 bytes are steps_are in
    let leads = known_back k steps.0 fields known at.wide fields_are in
    let cell_is_of = rw (sym same) at cell_is in
    let back = cell_back fields cell leads.wide cell_is_of in
    subst (λ (x : (SlotEntry × KnownState) × List ℕ). IsCellAt k x.0.0 x.0.1 x.1 bytes)
    (ap (λ (x : Fields × List ℕ). ((cell, known_after k x.0), x.1)) same
    ∙ done_same ((cell, known_after k found.0), found.1) ((e, after), rest) e2)
    (record {
      text = at.text ∙ ap (λ (s : Steps). steps_text s ++ steps.1) (sym leads.steps_are)
          ∙ ap (λ (f : Fields). steps_text (known_steps k f) ++ steps.1) (sym back);
      after_is = ap (known_after k) (sym back);
      known = known_on k fields known leads.wide;
      are_bytes = at.are_bytes;
    })))))

cells_of_bytes : (n : ℕ) (k : KnownState) (es : List SlotEntry) (rest bytes : List ℕ) → AreKnown k → AreBytes bytes
    → cells_at k n bytes ≡ done (es, rest) → (length es ≡ n) × (bytes ≡ cells_text k es ++ rest)
unfolding cells_at
cells_of_bytes zero k es rest bytes known are read =
    subst (λ (x : List SlotEntry × List ℕ). (length x.0 ≡ 0) × (bytes ≡ cells_text k x.0 ++ x.1))
    (done_same ([], bytes) (es, rest) read) (refl, refl)
cells_of_bytes (suc n) k es rest bytes known are read =
    with_then (cell_at k bytes) _ (es, rest) read (λ first first_is e1.
    with_then (cells_at first.0.1 n first.1) _ (es, rest) e1 (λ others others_are e2.
    let at = cell_of_bytes k first.0.0 first.0.1 first.1 bytes known are first_is in
    let left = cells_of_bytes n first.0.1 others.0 others.1 first.1 at.known at.are_bytes others_are in
    let text : bytes ≡ cells_text k (first.0.0 ∷ others.0) ++ others.1 =
    at.text ∙ ap (λ (t : List ℕ). cell_text k first.0.0 ++ t) (left.1
    ∙ ap (λ (x : KnownState). cells_text x others.0 ++ others.1) at.after_is)
    ∙ sym (append_assoc (cell_text k first.0.0) (cells_text (next_known k first.0.0) others.0) others.1) in
    subst (λ (x : List SlotEntry × List ℕ). (length x.0 ≡ suc n) × (bytes ≡ cells_text k x.0 ++ x.1))
    (done_same (first.0.0 ∷ others.0, others.1) (es, rest) e2) (ap suc left.0, text)))

pub packed_of_bytes : (bytes : List ℕ) (es : List SlotEntry) (rest : List ℕ) → AreBytes bytes
    → packed_at bytes ≡ done (es, rest) → (span : ℕ) × bytes ≡ packed_text span es ++ rest
unfolding packed_at head_at
packed_of_bytes bytes es rest are read =
    with_then (head_at bytes) _ (es, rest) read (λ head head_is e1.
    with_then (number_at bytes) _ head head_is (λ count count_is e2.
    with_then (number_below (2 ^ 32) count.0) _ head e2 (λ within within_is e3.
    with_then (number_at count.1) _ head e3 (λ span span_is e4.
    let count_at = number_of 19 count.0 count.1 bytes are count_is in
    let span_at = number_of 19 span.0 span.1 count.1 count_at.are_bytes span_is in
    let same = done_same ((within, span.0), span.1) head e4 in
    let cells : cells_at (nothing_known span.0) within span.1 ≡ done (es, rest) =
    subst (λ (x : (ℕ × ℕ) × List ℕ). cells_at (nothing_known x.0.1) x.0.0 x.1 ≡ done (es, rest)) (sym same) e1 in
    let left = cells_of_bytes within (nothing_known span.0) es rest span.1 (nothing_is_known span.0) span_at.are_bytes
    cells in
    let len : count.0 ≡ length es = sym (below_back (2 ^ 32) count.0 within within_is) ∙ sym left.0 in
    let text = cells_text (nothing_known span.0) es in (
      span.0,
      count_at.text ∙ ap (λ (n : ℕ). number_text n ++ count.1) len
          ∙ ap (λ (t : List ℕ). number_text (length es) ++ t)
          (span_at.text ∙ ap (λ (t : List ℕ). number_text span.0 ++ t) left.1)
          ∙ ap (λ (t : List ℕ). number_text (length es) ++ t) (sym (append_assoc (number_text span.0) text rest))
          ∙ sym (append_assoc (number_text (length es)) (number_text span.0 ++ text) rest),
    )))))
