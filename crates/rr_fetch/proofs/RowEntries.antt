-- The entries of a row: by the cell slots of an archive, in their order, and each of a cell.
use Rattle.std.proofs.Common.{◌≡◌, ℕ, ℤ, pos, Bool, true, false, cond, ◌&&◌, T, List, [], ◌∷◌, map, refl, sym, ap, ◌∙◌, subst, arith, Ordering, Equal, true≢false, Option, Some, None, is_some, int_cmp, nat_cmp, ltb}
use Rattle.std.specs.List.{filter, All}
use Rattle.std.specs.Option.{unwrap_or}
use Rattle.std.specs.Ordering.{int_eq, is_lt, ordering_then, eq_by_cmp}
use Rattle.std.specs.Cmp.{IsTotalOrder, int_cmp_total, tied_itself}
use Rattle.std.specs.FinMap.{get, keys, entries, entries_sorted, is_sorted, IsAntisymmetric, int_cmp-IsAntisymmetric}
use Rattle.std.specs.FinMap.Entries.{below_all}
use Rattle.std.proofs.lemmas.Bool.{and_from, or_right}
use Rattle.std.proofs.lemmas.Bool.Decides.{nat_tests}
use Rattle.std.proofs.lemmas.List.Elements.{All-cons}
use Rattle.rr_join.proofs.Booleans.{and_second}
use Rattle.rr_join.proofs.Keys.{entries_by_keys}
use Rattle.rr_join.proofs.Lookups.{is_in-keys}
use Rattle.rr_join.proofs.Members.{is_in, is_in-filter, head_in, Equal_from_is_eq}
use Rattle.rr_contrib.specs.declared.contribution.Contribution.{Contribution}
use Rattle.rr_contrib.specs.Contributions.{of_one, slot_sample}
use Rattle.rr_archive.specs.declared.entry.Entry.{Entry}
use Rattle.rr_archive.specs.Cells.{ArchiveCells, entry_of, row_of}
use Rattle.rr_archive.specs.CellSlots.{CellSlot, cell_slot_cmp}
use Rattle.rr_archive.specs.Row.{ascends, ascends_from}
use Rattle.rr_archive.proofs.CellSlotOrder.{cell_slot_cmp_total, cell_slot_cmp-IsAntisymmetric}
use Rattle.rr_cells.specs.Cells.{name_at, archive_cells, row_at}
use Rattle.rr_cells.specs.ReplicaState.{ReplicaState, IsReplicaState}
use Rattle.rr_cells.proofs.Local.{get-archive_cells}
use Rattle.rr_fetch.specs.Consolidation.{IsSummable, IsRow}

-- ---- by cell slots

pub map-map : {A B C : Type 0} (g : B → C) (f : A → B) (xs : List A) → map g (map f xs) ≡ map (λ x. g (f x)) xs
map-map g f [] = refl
map-map g f (x ∷ xs) = ap (λ ys. g (f x) ∷ ys) (map-map g f xs)

filter-map : {A B : Type 0} (p : B → Bool) (f : A → B) (xs : List A)
    → filter p (map f xs) ≡ map f (filter (λ x. p (f x)) xs)
filter-map p f [] = refl
filter-map p f (x ∷ xs) = elim (p (f x)) as (λ b. cond b (f x ∷ filter p (map f xs)) (filter p (map f xs))
    ≡ map f (cond b (x ∷ filter (λ x. p (f x)) xs) (filter (λ x. p (f x)) xs))) [
      | true ↦ ap (λ ys. f x ∷ ys) (filter-map p f xs)
      | false ↦ filter-map p f xs
    ]

-- the places of a slot that have a contribution
abbrev pub places_of : ArchiveCells → ℤ → List CellSlot
places_of m slot = filter (λ p. int_eq p.slot slot) (keys m)

-- the entry of a place, of the contribution d where there is none
abbrev pub entry_at : ArchiveCells → Contribution → CellSlot → Entry
entry_at m d p = record { origin = p.origin; contribution = unwrap_or (get m p) d }

pub row_by_places : (m : ArchiveCells) (slot : ℤ) (d : Contribution)
    → row_of m slot ≡ map (entry_at m d) (places_of m slot)
unfolding row_of
row_by_places m slot d =
    let held : CellSlot → CellSlot × Contribution = λ p. (p, unwrap_or (get m p) d) in
    ap (λ es. map entry_of (filter (λ e. int_eq e.0.slot slot) es))
    (entries_by_keys cell_slot_cmp_total cell_slot_cmp-IsAntisymmetric m d)
    ∙ ap (map entry_of) (filter-map (λ e. int_eq e.0.slot slot) held (keys m))
    ∙ map-map entry_of held (places_of m slot)

-- each of them has a contribution
pub found_at : (m : ArchiveCells) (slot : ℤ) (d : Contribution) (p : CellSlot)
    → is_in cell_slot_cmp (places_of m slot) p ≡ true → get m p ≡ Some (unwrap_or (get m p) d)
found_at m slot d p e =
    read_back (get m p) (sym (is_in-keys cell_slot_cmp_total cell_slot_cmp-IsAntisymmetric m p)
    ∙ and_second (int_eq p.slot slot) (is_in cell_slot_cmp (keys m) p)
    (sym (is_in-filter cell_slot_cmp_total cell_slot_cmp-IsAntisymmetric (λ q. int_eq q.slot slot) (keys m) p) ∙ e))
  where
    read_back : (x : Option Contribution) → is_some x ≡ true → x ≡ Some (unwrap_or x d)
    read_back None is = absurd (true≢false (sym is))
    read_back (Some c) is = refl

-- ---- in order

T_first : (a b : Bool) → T (a && b) → T a
T_first true b h = tt
T_first false b h = absurd h

passes : (a : Bool) → T a → a ≡ true
passes true h = refl
passes false h = absurd h

T_second : (a b : Bool) → T (a && b) → T b
T_second true b h = h
T_second false b h = absurd h

less_then : (a b : Ordering) → a ≡ Equal → is_lt (ordering_then a b) ≡ true → is_lt b ≡ true
less_then a b e h = sym (ap (λ r. is_lt (ordering_then r b)) e) ∙ h

below_from_less : (m n : ℕ) → is_lt (nat_cmp m n) ≡ true → ltb m n ≡ true
below_from_less m n h = grind (arith, nat_tests)

module _ (slot : ℤ) where
  abbrev kept : List (CellSlot × Contribution) → List Entry
  kept es = map entry_of (filter (λ e. int_eq e.0.slot slot) es)

  same_slot : (p : CellSlot) → int_eq p.slot slot ≡ true → int_cmp p.slot slot ≡ Equal
  same_slot p e = Equal_from_is_eq (int_cmp p.slot slot) e

  kept_after : (p : CellSlot) (es : List (CellSlot × Contribution)) → p.slot ≡ slot → T (below_all cell_slot_cmp p es)
      → T (is_sorted cell_slot_cmp es) → ascends_from p.origin (kept es) ≡ true
  kept_after p [] at below sorted = refl
  kept_after p (e ∷ es) at below sorted =
      elim (int_eq e.0.slot slot) as (λ b. int_eq e.0.slot slot ≡ b
      → ascends_from p.origin (map entry_of (cond b (e ∷ filter (λ x. int_eq x.0.slot slot) es)
      (filter (λ x. int_eq x.0.slot slot) es))) ≡ true) [
        | true ↦ λ t.
            let here : e.0.slot ≡ slot = int_cmp-IsAntisymmetric e.0.slot slot (same_slot e.0 t) in
            let tied : int_cmp p.slot e.0.slot ≡ Equal = (λ i. int_cmp (at i) (here i))
            ∙ tied_itself int_cmp_total slot in
            and_from (ltb p.origin e.0.origin) _
            (below_from_less p.origin e.0.origin (less_then (int_cmp p.slot e.0.slot) (nat_cmp p.origin e.0.origin) tied
            (passes (is_lt (cell_slot_cmp p e.0)) (T_first (is_lt (cell_slot_cmp p e.0))
            (below_all cell_slot_cmp p es) below))))
            (kept_after e.0 es here (T_first (below_all cell_slot_cmp e.0 es) (is_sorted cell_slot_cmp es) sorted)
            (T_second (below_all cell_slot_cmp e.0 es) (is_sorted cell_slot_cmp es) sorted))
        | false ↦ λ t. kept_after p es at (T_second (is_lt (cell_slot_cmp p e.0)) (below_all cell_slot_cmp p es) below)
            (T_second (below_all cell_slot_cmp e.0 es) (is_sorted cell_slot_cmp es) sorted)
      ] refl

  kept_ascends : (es : List (CellSlot × Contribution)) → T (is_sorted cell_slot_cmp es) → ascends (kept es) ≡ true
  kept_ascends [] sorted = refl
  kept_ascends (e ∷ es) sorted =
      elim (int_eq e.0.slot slot) as (λ b. int_eq e.0.slot slot ≡ b
      → ascends (map entry_of (cond b (e ∷ filter (λ x. int_eq x.0.slot slot) es)
      (filter (λ x. int_eq x.0.slot slot) es))) ≡ true) [
        | true ↦ λ t.
            kept_after e.0 es (int_cmp-IsAntisymmetric e.0.slot slot (same_slot e.0 t))
            (T_first (below_all cell_slot_cmp e.0 es) (is_sorted cell_slot_cmp es) sorted)
            (T_second (below_all cell_slot_cmp e.0 es) (is_sorted cell_slot_cmp es) sorted)
        | false ↦ λ t. kept_ascends es (T_second (below_all cell_slot_cmp e.0 es) (is_sorted cell_slot_cmp es) sorted)
      ] refl

pub row_ascends : (m : ArchiveCells) (slot : ℤ) → ascends (row_of m slot) ≡ true
unfolding row_of
row_ascends m slot = kept_ascends slot (entries m) (entries_sorted m)

-- ---- of the cells that a replica holds

-- what holds of the image of each member holds of all images
all_images : {N Y : Type 0} {R : N → N → Ordering} → IsTotalOrder R → IsAntisymmetric R
    → (P : Y → Type 0) (f : N → Y) (ns : List N) → ((n : N) → is_in R ns n ≡ true → P (f n)) → All P (map f ns)
all_images o same P f [] each = λ i d h. absurd (omega arith)
all_images {R = R} o same P f (n ∷ ns) each =
    All-cons P (f n) (map f ns) (each n (head_in o same n ns))
    (all_images o same P f ns (λ k e. each k (or_right (eq_by_cmp R k n) (is_in R ns k) e)))

pub row_holds : (h : ReplicaState) → IsReplicaState h → (key : List ℕ) (archive : ℕ) (slot : ℤ)
    → IsRow (row_at h.cells key archive slot)
row_holds h is key archive slot = record {
  ascends = row_ascends (archive_cells h.cells key archive) slot;
  summable = subst (All (λ e. IsSummable e.contribution)) (sym (row_by_places rows slot d))
      (all_images cell_slot_cmp_total cell_slot_cmp-IsAntisymmetric (λ (e : Entry). IsSummable e.contribution)
      (entry_at rows d) (places_of rows slot) (λ p e.
      let valid = (is.cells (name_at key archive p) (unwrap_or (get rows p) d)
      (sym (get-archive_cells key archive h.cells p) ∙ found_at rows slot d p e)).valid in
      record {
        some = valid.some;
        few = omega (arith, valid.counted, valid.numbered);
        low = valid.low;
        high = valid.high;
      }));
}
  where
    rows : ArchiveCells
    rows = archive_cells h.cells key archive

    d : Contribution
    d = of_one (slot_sample 0 0 (pos 0) (pos 0))
