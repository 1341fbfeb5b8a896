-- A cell of a row taken from those that are left, and added behind the row's entries.
use Rattle.std.proofs.Common.{◌≡◌, ℕ, pos, true, false, cond, List, [], ◌∷◌, ◌++◌, sym, ap, ◌∙◌, ⊎_elim, append_assoc, arith}
use Rattle.std.specs.Ordering.{int_eq}
use Rattle.std.proofs.lemmas.Bool.{cases_eq, eq-eqb, ne_eqb}
use Rattle.std.proofs.lemmas.Int.{ints}
use Rattle.rr_archive.specs.declared.entry.Entry.{Entry}
use Rattle.rr_codec.specs.Fields.{SlotEntry}
use Rattle.rr_packed.specs.BlockRows.{IsRowSet}
use Rattle.rr_packed.specs.PackedRows.{entries_at}
use Rattle.rr_packed.proofs.RowCellLemmas.{at_first, at_other}

-- the rows with what is left of them stay as they are
pub row_appended : (old new : ℕ → List Entry) (number : ℕ) (e : Entry) (cs rest : List SlotEntry)
    → IsRowSet number (old number ++ e ∷ []) old new → cs ≡ (pos number, e) ∷ rest
    → (k : ℕ) → new k ++ entries_at rest (pos k) ≡ old k ++ entries_at cs (pos k)
row_appended old new number e cs rest set is k = ⊎_elim
    (λ (here : k ≡ number).
    ap (λ l. l ++ entries_at rest (pos k))
    (set k ∙ ap (λ b. cond b (old number ++ e ∷ []) (old k)) (eq-eqb k number here)
    ∙ ap (λ j. old j ++ e ∷ []) (sym here))
    ∙ append_assoc (old k) (e ∷ []) (entries_at rest (pos k))
    ∙ ap (λ l. old k ++ l)
    (sym (ap (λ l. entries_at l (pos k)) is ∙ at_first (pos number, e) rest (pos k) (same k number here))))
    (λ (apart : k ≡ number → ⊥).
    ap (λ l. l ++ entries_at rest (pos k))
    (set k ∙ ap (λ b. cond b (old number ++ e ∷ []) (old k)) (ne_eqb k number apart))
    ∙ ap (λ l. old k ++ l)
    (sym (ap (λ l. entries_at l (pos k)) is ∙ at_other (pos number, e) rest (pos k) (other k number apart))))
    (cases_eq k number)
  where
    same : (k number : ℕ) → k ≡ number → int_eq (pos number) (pos k) ≡ true
    same k number e = grind (arith, ints)

    other : (k number : ℕ) → (k ≡ number → ⊥) → int_eq (pos number) (pos k) ≡ false
    other k number e = grind (arith, ints)
