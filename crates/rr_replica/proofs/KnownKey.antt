-- The first cell after a name among those of its own key, which is the first among all.
use Rattle.std.proofs.Common.{◌≡◌, ℕ, true, false, cond, List, [], ◌∷◌, map, refl, sym, ap, ◌∙◌, subst, true≢false, Some, is_some, unwrap_or, Less, Greater}
use Rattle.std.specs.Global.{Vec}
use Rattle.std.specs.List.{AllByRecursion, find}
use Rattle.std.specs.List.Sorted.{IsStrictlySortedBy}
use Rattle.std.specs.Map.{keys_of}
use Rattle.std.specs.BTreeMap.{is_at}
use Rattle.std.specs.Cmp.Lexicographic.{nat_list_cmp_total}
use Rattle.std.specs.Option.{option_or}
use Rattle.std.specs.Ordering.{ordering_reverse}
use Rattle.rr_join.proofs.Members.{same_from_tie}
use Rattle.rr_text.specs.Bytes.{bytes_cmp}
use Rattle.rr_archive.specs.CellSlots.{CellSlot}
use Rattle.rr_archive.specs.Cells.{ArchiveCells}
use Rattle.rr_cells.specs.CellBounds.{NamedCell}
use Rattle.rr_cells.specs.Cells.{name_at}
use Rattle.rr_replica.specs.InMemory.{archives_of}
use Rattle.rr_replica.specs.Series.{cells_from}
use Rattle.rr_replica.proofs.SeriesLemmas.{bytes_cmp-IsAntisymmetric}
use Rattle.rr_replica.proofs.NextCell.{is_past, first_in, first_in-cons, earlier_cells}

is_same : (a b : List ℕ) → is_at (bytes_cmp a) b ≡ true → a ≡ b
is_same a b t = same_from_tie nat_list_cmp_total bytes_cmp-IsAntisymmetric a b t

module _ {X : Type 0} (key : List ℕ) where
  -- a key among those that are after another is after it
  is_after : (k : List ℕ) (es : List (List ℕ × Vec X)) (v : Vec X)
      → AllByRecursion (λ y. bytes_cmp k y ≡ Less) (keys_of es) → archives_of es key ≡ Some v
      → bytes_cmp key k ≡ Greater
  is_after k [] v after at = absurd (true≢false (sym (ap is_some at)))
  is_after k (e ∷ es) v after at = elim (is_at (bytes_cmp key) e.0) as
      (λ b. is_at (bytes_cmp key) e.0 ≡ b → cond b (Some e.1) (archives_of es key) ≡ Some v → bytes_cmp key k ≡ Greater) [
        | true ↦ λ t h. nat_list_cmp_total.antisymm key k
            ∙ ap ordering_reverse (subst (λ l. bytes_cmp k l ≡ Less) (sym (is_same key e.0 t)) after.0)
        | false ↦ λ t h. is_after k es v after.1 h
      ] refl at

  module _ (a : ℕ) (p : CellSlot) (cells : X → ArchiveCells) (c : NamedCell) where
    pub first_of_own : (es : List (List ℕ × Vec X)) (v : Vec X) → IsStrictlySortedBy bytes_cmp (keys_of es)
        → archives_of es key ≡ Some v → find (is_past (name_at key a p)) (cells_from key 0 (map cells v.items)) ≡ Some c
        → first_in key a p cells es ≡ Some c
    unfolding IsStrictlySortedBy
    first_of_own [] v sorted at found = absurd (true≢false (sym (ap is_some at)))
    first_of_own (e ∷ es) v sorted at found = first_in-cons key a p cells e es
        ∙ (elim (is_at (bytes_cmp key) e.0) as (λ b. is_at (bytes_cmp key) e.0 ≡ b
        → cond b (Some e.1) (archives_of es key) ≡ Some v
        → option_or (find (is_past (name_at key a p)) (cells_from e.0 0 (map cells e.1.items)))
        (first_in key a p cells es) ≡ Some c) [
          | true ↦ λ t h.
              let here : v ≡ e.1 = ap (λ o. unwrap_or o v) (sym h) in
              let found_here = subst (λ (w : Vec X). find (is_past (name_at key a p))
              (cells_from key 0 (map cells w.items))
              ≡ Some c) here found in
              ap (λ o. option_or o (first_in key a p cells es))
              (subst (λ k. find (is_past (name_at key a p)) (cells_from k 0 (map cells e.1.items)) ≡ Some c)
              (is_same key e.0 t) found_here)
          | false ↦ λ t h.
              ap (λ o. option_or o (first_in key a p cells es))
              (earlier_cells key a p e.0 (map cells e.1.items) (is_after e.0 es v sorted.0 h))
              ∙ first_of_own es v sorted.1 h found
        ] refl at)
