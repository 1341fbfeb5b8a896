-- Cells that were written are read again, whatever follows them.
use Rattle.std.proofs.Common.{◌≡◌, ℕ, suc, ◌+◌, ◌^◌, ◌<◌, true, List, [], ◌∷◌, ◌++◌, length, get_or, drop, Ok, All, refl, ap, ◌∙◌, append_assoc, arith}
use Rattle.std.specs.Prelude.{◌==◌}
use Rattle.std.proofs.lemmas.Bool.Decides.{nat_tests}
use Rattle.std.proofs.lemmas.List.Elements.{All-head, All-tail}
use Rattle.std.proofs.Math.Seq.{drop-cons}
use Rattle.rr_codec.specs.declared.fields.Fields.{Fields}
use Rattle.rr_codec.specs.Numbers.{number_text}
use Rattle.rr_codec.specs.Fields.{SlotEntry, IsTyped, fields_of}
use Rattle.rr_codec.specs.Recent.{KnownState, before_at, known_fields, known_fields_at, known_steps, nothing_known, place_of}
use Rattle.rr_codec.specs.Text.{cell_text, cells_text, next_known, packed_text}
use Rattle.rr_codec.specs.Reading.{cell_at, cells_at, head_at, packed_at}
use Rattle.rr_codec.proofs.NumberLemmas.{number_again}
use Rattle.rr_codec.proofs.StepLemmas.{step_from-step_to, step_to-wide}
use Rattle.rr_codec.proofs.StepsLemmas.{AreWide, AreWideSteps, steps_again}
use Rattle.rr_codec.proofs.FieldsLemmas.{fields_wide, cell_of-fields_of, below_again}
use Rattle.rr_codec.proofs.ExpectingLemmas.{steps_wide, fields_again}
use Rattle.rr_codec.proofs.RecentLemmas.{AreKnown, before_wide, known_on, nothing_is_known, place_most}

pub known_wide : (k : KnownState) (f : Fields) → AreWideSteps (known_steps k f)
unfolding known_steps
known_wide k f = record { place = step_to-wide _ _; fields = steps_wide _ _ _ }

pub known_again : (k : KnownState) (f : Fields) → AreKnown k → AreWide f → known_fields k (known_steps k f) ≡ Ok f
unfolding known_fields known_steps
known_again k f known wide =
    let place = place_of k.recent f.origin in
    let most = place_most k f.origin known in
    let at = step_from-step_to k.place place (omega (arith, known.place)) (omega arith) in
    let same = fields_again k.span (before_at k.recent place) f (before_wide k.recent place known.each) wide in
    let right : (place == place) ≡ true = grind (arith, nat_tests) in
    rw (at, same, right) refl

pub cell_again : (k : KnownState) (e : SlotEntry) (rest : List ℕ) → AreKnown k → IsTyped e
    → cell_at k (cell_text k e ++ rest) ≡ Ok ((e, next_known k e), rest)
unfolding cell_at known_fields_at
cell_again k e rest known typed =
    let f = fields_of e in
    rw (
      steps_again (known_steps k f) rest (known_wide k f),
      known_again k f known (fields_wide e typed),
      cell_of-fields_of e typed,
    ) refl

pub cells_again : (k : KnownState) (es : List SlotEntry) (rest : List ℕ) → AreKnown k → All IsTyped es
    → cells_at k (length es) (cells_text k es ++ rest) ≡ Ok (es, rest)
unfolding cells_at
cells_again k [] rest known typed = refl
cells_again k (e ∷ es) rest known typed =
    let first = All-head IsTyped e es typed in
    rw (
      append_assoc (cell_text k e) (cells_text (next_known k e) es) rest,
      cell_again k e (cells_text (next_known k e) es ++ rest) known first,
      cells_again (next_known k e) es rest (known_on k (fields_of e) known (fields_wide e first))
          (All-tail IsTyped e es typed),
    ) refl

pub packed_again : (span : ℕ) (es : List SlotEntry) (rest : List ℕ) → span < 2 ^ 128 → length es < 2 ^ 32
    → All IsTyped es → packed_at (packed_text span es ++ rest) ≡ Ok (es, rest)
unfolding packed_at head_at
packed_again span es rest fits few typed =
    let text = cells_text (nothing_known span) es in
    rw (
      append_assoc (number_text (length es)) (number_text span ++ text) rest,
      append_assoc (number_text span) text rest,
      number_again (length es) (number_text span ++ (text ++ rest)) (omega arith),
      below_again (2 ^ 32) (length es) few,
      number_again span (text ++ rest) fits,
      cells_again (nothing_known span) es rest (nothing_is_known span) typed,
    ) refl

-- the text of the cells from a number on begins with that of the cell of the number
pub texts_more : (k : KnownState) (es : List SlotEntry) (i : ℕ) (e : SlotEntry) → i < length es → get_or es i e ≡ e
    → cells_text k (drop i es) ≡ cell_text k e ++ cells_text (next_known k e) (drop (i + 1) es)
texts_more k es i e lt item =
    let j : suc i ≡ i + 1 = omega arith in
    ap (cells_text k) (drop-cons es i e lt)
    ∙ ap (λ (x : SlotEntry). cells_text k (x ∷ drop (suc i) es)) item
    ∙ ap (λ (n : ℕ). cell_text k e ++ cells_text (next_known k e) (drop n es)) j
