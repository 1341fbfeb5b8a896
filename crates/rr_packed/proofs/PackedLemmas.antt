-- An entry set in a slot of a packed archive, once the blocks past the horizon have left.
use Rattle.std.proofs.Common.{◌≡◌, ℕ, ℤ, pos, ◌+ℤ◌, ◌-ℤ◌, true, false, cond, List, ap, ◌∙◌, subst, ⊎_elim, Option, Some, int_cmp, arith}
use Rattle.std.specs.Prelude.{int_lt, IsTrue}
use Rattle.std.specs.Ordering.{int_eq}
use Rattle.std.proofs.lemmas.Int.{ints}
use Rattle.rr_join.specs.Maps.{greater}
use Rattle.rr_archive.specs.declared.entry.Entry.{Entry}
use Rattle.rr_archive.specs.Row.{with_entry, ascends}
use Rattle.rr_archive.specs.LiveRows.{is_empty, IsArchiveStateBy}
use Rattle.rr_archive.proofs.RowLemmas.{ascends_with_entry}
use Rattle.rr_archive.proofs.LiveChanges.{IsTop, top_is, IsSetIn}
use Rattle.rr_packed.specs.Blocks.{IsSlotSet}
use Rattle.rr_packed.proofs.BlocksLemmas.{IsLeft}

module _ (limit : ℕ) (newest : Option ℤ) (count : ℕ) (top slot first : ℤ) (e : Entry) (f mid g : ℤ → List Entry)
    (h : IsArchiveStateBy limit newest count f) (set : IsSlotSet slot e f mid) (left : IsLeft first mid g)
    (first_is : first ≡ (top -ℤ pos limit) +ℤ pos 1) (later : Some top ≡ greater int_cmp newest (Some slot)) where
  is_top : IsTop newest slot top
  is_top = top_is newest slot top later

  mid_ascends : (s : ℤ) → ascends (mid s) ≡ true
  mid_ascends s = ap ascends (set s) ∙ elim (int_eq slot s) as
      (λ b. ascends (cond b (with_entry (f slot) e) (f s)) ≡ true) [
        | true ↦ ascends_with_entry (f slot) e (h.ascend slot)
        | false ↦ h.ascend s
      ]

  mid_later : (s : ℤ) → int_lt top s ≡ true → is_empty (mid s) ≡ true
  mid_later s after = ap is_empty (set s ∙ ap (λ b. cond b (with_entry (f slot) e) (f s))
      (other top slot s is_top.reaches after)) ∙ h.none_later s (is_top.keeps s after)
    where
      other : (top slot s : ℤ) → int_lt top slot ≡ false → int_lt top s ≡ true → int_eq slot s ≡ false
      other top slot s p q = grind (arith, ints)

  not_left : (s : ℤ) → int_lt (top -ℤ pos limit) s ≡ true → IsTrue (int_lt s first) → ⊥
  not_left s low before = apart top s limit low (subst (λ z. int_lt s z ≡ true) first_is before)
    where
      apart : (top s : ℤ) (limit : ℕ) → int_lt (top -ℤ pos limit) s ≡ true
          → int_lt s ((top -ℤ pos limit) +ℤ pos 1) ≡ true → ⊥
      apart top s limit p q = grind (arith, ints)

  pub set_in_packed : IsSetIn limit top slot e f g
  set_in_packed = record {
    live = λ s low. ⊎_elim (λ same. same ∙ set s) (λ gone. absurd (not_left s low gone.1)) (left s);
    ascend = λ s. ⊎_elim (λ same. ap ascends same ∙ mid_ascends s) (λ gone. ap ascends gone.0) (left s);
    none_later = λ s after. ⊎_elim (λ same. ap is_empty same ∙ mid_later s after) (λ gone. ap is_empty gone.0) (left s);
  }
