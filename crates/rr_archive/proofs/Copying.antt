-- Rows that are copied one by one.
use Rattle.std.proofs.Common.{◌≡◌, ℤ, Bool, true, false, cond, List, [], ◌∷◌, ℕ, subst, refl, sym, ap, ◌∙◌, Option, Some, None, int_cmp}
use Rattle.std.specs.Global.{Vec}
use Rattle.std.specs.List.Sorted.{IsStrictlySortedBy}
use Rattle.std.specs.Map.{keys_of}
use Rattle.std.specs.Option.{option_map, option_or, option_and_then}
use Rattle.std.specs.Ordering.{is_eq}
use Rattle.std.specs.Cmp.{int_cmp_total, eq_by_cmp_equiv}
use Rattle.rr_archive.specs.declared.entry.Entry.{Entry}
use Rattle.rr_archive.specs.Row.{entry_at, ascends}
use Rattle.rr_archive.specs.ArchiveState.{row_in, row_ascends, RowsAscend, cells_in}
use Rattle.rr_archive.proofs.ArchiveStateLemmas.{Sets, cells_in-same, same_slot}
use Rattle.rr_archive.proofs.Listing.{none_later}

-- the entries of the row of a slot, if there is one
abbrev pub items_in : List (ℤ × Vec Entry) → ℤ → Option (List Entry)
items_in rows slot = option_map (λ row. row.items) (row_in rows slot)

-- what is still to be copied and what has been are the rows
pub record Copied (rows left new : List (ℤ × Vec Entry)) : Type 0 where
  pub sorted : IsStrictlySortedBy int_cmp (keys_of left)
  pub alike : (slot : ℤ) → items_in rows slot ≡ option_or (items_in left slot) (items_in new slot)
  pub ordered : IsStrictlySortedBy int_cmp (keys_of new)

pub copied_more : (rows left rest new more : List (ℤ × Vec Entry)) (slot : ℤ) (row copy : Vec Entry)
    → Copied rows left new → left ≡ (slot, row) ∷ rest → Sets new more slot copy → copy.items ≡ row.items
    → IsStrictlySortedBy int_cmp (keys_of more) → Copied rows rest more
unfolding IsStrictlySortedBy
copied_more rows left rest new more slot row copy c is sets same ordered =
    let sorted = subst (λ l. IsStrictlySortedBy int_cmp (keys_of l)) is c.sorted in
    record {
      sorted = sorted.1;
      alike = λ q.
          c.alike q ∙ ap (λ l. option_or (items_in l q) (items_in new q)) is
          ∙ elim (is_eq (int_cmp q slot)) as (λ b. is_eq (int_cmp q slot) ≡ b
          → option_or (option_map (λ (r : Vec Entry). r.items) (cond b (Some row) (row_in rest q))) (items_in new q)
          ≡ option_or (items_in rest q) (option_map (λ (r : Vec Entry). r.items)
          (cond b (Some copy) (row_in new q)))) [
            | true ↦ λ t. ap (λ es. Some es) (sym same)
                ∙ ap (λ r. option_or (option_map (λ (w : Vec Entry). w.items) r) (Some copy.items))
                (sym (none_later slot q rest (sym (same_slot q slot t)) sorted.0))
            | false ↦ λ t. refl
          ] refl
          ∙ ap (λ b. option_or (items_in rest q) (option_map (λ (r : Vec Entry). r.items)
          (cond b (Some copy) (row_in new q)))) ((eq_by_cmp_equiv int_cmp_total).symm q slot)
          ∙ ap (λ r. option_or (items_in rest q) (option_map (λ (w : Vec Entry). w.items) r)) (sym (sets.at q));
      ordered = ordered;
    }

copied_items : (rows left new : List (ℤ × Vec Entry)) (q : ℤ) → Copied rows left new → left ≡ []
    → items_in new q ≡ items_in rows q
copied_items rows left new q c none = sym (c.alike q ∙ ap (λ l. option_or (items_in l q) (items_in new q)) none)

-- whether the entries of a row, if there is one, ascend by origin
abbrev items_ascend : Option (List Entry) → Bool
items_ascend None = true
items_ascend (Some es) = ascends es

pub copied_ascend : (rows left new : List (ℤ × Vec Entry)) → Copied rows left new → left ≡ [] → RowsAscend rows
    → RowsAscend new
copied_ascend rows left new c none ascend = λ slot. by_items (row_in new slot)
    ∙ ap items_ascend (copied_items rows left new slot c none) ∙ sym (by_items (row_in rows slot)) ∙ ascend slot
  where
    by_items : (row : Option (Vec Entry)) → row_ascends row ≡ items_ascend (option_map (λ (r : Vec Entry). r.items) row)
    by_items None = refl
    by_items (Some row) = refl

pub copied_cells : (rows left new : List (ℤ × Vec Entry)) → Copied rows left new → left ≡ []
    → cells_in new ≡ cells_in rows
copied_cells rows left new c none = cells_in-same rows new
    (λ q. by_items (row_in new q.slot) (row_in rows q.slot) q.origin (copied_items rows left new q.slot c none))
  where
    through : (row : Option (Vec Entry)) (origin : ℕ)
        → option_and_then (λ (r : Vec Entry). entry_at r.items origin) row
        ≡ option_and_then (λ es. entry_at es origin) (option_map (λ (r : Vec Entry). r.items) row)
    through None origin = refl
    through (Some row) origin = refl

    by_items : (a b : Option (Vec Entry)) (origin : ℕ)
        → option_map (λ (r : Vec Entry). r.items) a ≡ option_map (λ (r : Vec Entry). r.items) b
        → option_and_then (λ (r : Vec Entry). entry_at r.items origin) a
        ≡ option_and_then (λ (r : Vec Entry). entry_at r.items origin) b
    by_items a b origin e = through a origin ∙ ap (option_and_then (λ es. entry_at es origin)) e
        ∙ sym (through b origin)
