-- What holds of all cells that a replica holds, and of what a walk makes of them.
use Rattle.std.proofs.Common.{◌≡◌, ℕ, zero, suc, Bool, true, false, cond, List, [], ◌∷◌, map, take, drop, length, refl, sym, ap, ◌∙◌, subst, arith, IfOk, Option, None, Some, Result, Ok, Err}
use Rattle.std.specs.Global.{Vec}
use Rattle.std.specs.List.{All, AllByRecursion, filter}
use Rattle.std.specs.FinMap.{entries}
use Rattle.std.proofs.lemmas.List.Elements.{All-from_recursion, recursion_from_All}
use Rattle.std.specs.Ordering.{is_lt}
use Rattle.rr_cells.specs.CellNames.{CellName, cell_name_cmp}
use Rattle.rr_cells.specs.declared.cell.Cell.{Cell}
use Rattle.rr_cells.specs.CellBounds.{NamedCell, IsCellOf}
use Rattle.rr_cells.specs.ReplicaState.{IsReplicaState, ReplicaState}
use Rattle.rr_cells.specs.Listing.{owned_cell}
use Rattle.rr_replica.proofs.Counted.{take_all}
use Rattle.rr_cells.proofs.HeldCells.{listed_held}
use Rattle.rr_schema.specs.Schema.{Layout}
use Rattle.rr_delta.specs.declared.name.Name.{Name}
use Rattle.rr_delta.specs.Summaries.{cells_after}
use Rattle.rr_delta.specs.Names.{NamedVersion, IsNameOf, named_version, owned_name}

abbrev as_cell : NamedCell → Cell
as_cell e = record { key = e.0.key; archive = e.0.archive; slot = e.0.slot; origin = e.0.origin; contribution = e.1 }

module _ {X Y : Type 0} (P : Y → Type 0) (f : X → Y) where
  pub all_mapped : (xs : List X) → AllByRecursion (λ x. P (f x)) xs → AllByRecursion P (map f xs)
  all_mapped [] all = tt
  all_mapped (x ∷ xs) all = (all.0, all_mapped xs all.1)

  pub all_before : (xs : List X) → AllByRecursion P (map f xs) → AllByRecursion (λ x. P (f x)) xs
  all_before [] all = tt
  all_before (x ∷ xs) all = (all.0, all_before xs all.1)

module _ {X : Type 0} (P : X → Type 0) where
  pub all_filtered : (test : X → Bool) (xs : List X) → AllByRecursion P xs → AllByRecursion P (filter test xs)
  all_filtered test [] all = tt
  all_filtered test (x ∷ xs) all = elim (test x) as
      (λ b. AllByRecursion P (cond b (x ∷ filter test xs) (filter test xs))) [
        | true ↦ (all.0, all_filtered test xs all.1)
        | false ↦ all_filtered test xs all.1
      ]

  pub all_dropped : (n : ℕ) (xs : List X) → AllByRecursion P xs → AllByRecursion P (drop n xs)
  all_dropped zero [] all = all
  all_dropped zero (x ∷ xs) all = all
  all_dropped (suc n) [] all = tt
  all_dropped (suc n) (x ∷ xs) all = all_dropped n xs all.1

  pub all_taken : (n : ℕ) (xs : List X) → AllByRecursion P xs → AllByRecursion P (take n xs)
  all_taken zero [] all = tt
  all_taken zero (x ∷ xs) all = tt
  all_taken (suc n) [] all = tt
  all_taken (suc n) (x ∷ xs) all = (all.0, all_taken n xs all.1)

same : (es : List NamedCell) → map owned_cell (map as_cell es) ≡ es
same [] = refl
same (e ∷ es) = ap (λ l. e ∷ l) (same es)

-- each cell that a replica holds is one of its schema
pub all_held : (h : ReplicaState) → IsReplicaState h → AllByRecursion (IsCellOf h.schema) (entries h.cells)
all_held h holds =
    subst (AllByRecursion (IsCellOf h.schema)) (same (entries h.cells))
    (all_mapped (IsCellOf h.schema) owned_cell (map as_cell (entries h.cells))
    (recursion_from_All _ (map as_cell (entries h.cells))
    (listed_held h 0 (length (entries h.cells)) (map as_cell (entries h.cells)) holds
    (same (entries h.cells) ∙ sym (take_all (entries h.cells) (length (entries h.cells)) (omega arith))))))

-- its name and version are those of a cell of the schema
name_of_cell : (s : Layout) (e : NamedCell) → IsCellOf s e → IsNameOf s (named_version e)
name_of_cell s e is = record {
  key = is.key;
  archive = is.archive;
  origin = is.origin;
  slot_fits = is.slot_fits;
  version_at_least = (let some = is.valid.some in let counted = is.valid.counted in omega arith);
  version_at_most = is.valid.numbered;
}

pub named_all : (s : Layout) (es : List NamedCell) → AllByRecursion (IsCellOf s) es
    → AllByRecursion (IsNameOf s) (map named_version es)
named_all s [] all = tt
named_all s (e ∷ es) all = (name_of_cell s e all.0, named_all s es all.1)

-- so are names that are listed of these
pub names_held : {E : Type 0} (s : Layout) (r : Result (Vec Name) E) (vs : List NamedVersion)
    → AllByRecursion (IsNameOf s) vs → IfOk r (λ names. map owned_name names.items ≡ vs)
    → IfOk r (λ names. All (λ n. IsNameOf s (owned_name n)) names.items)
names_held s (Ok names) vs all is = All-from_recursion _ names.items
    (all_before (IsNameOf s) owned_name names.items (subst (AllByRecursion (IsNameOf s)) (sym is) all))
names_held s (Err fault) vs all is = tt

pub after_held : (s : Layout) (n : Option CellName) (es : List NamedCell) → AllByRecursion (IsCellOf s) es
    → AllByRecursion (IsCellOf s) (cells_after n es)
after_held s None es all = all
after_held s (Some n) es all = all_filtered (IsCellOf s) (λ e. is_lt (cell_name_cmp n e.0)) es all

-- and cells
pub cells_held : (s : Layout) (cells : List Cell) (es : List NamedCell) → AllByRecursion (IsCellOf s) es
    → map owned_cell cells ≡ es → All (λ c. IsCellOf s (owned_cell c)) cells
cells_held s cells es all is = All-from_recursion _ cells
    (all_before (IsCellOf s) owned_cell cells (subst (AllByRecursion (IsCellOf s)) (sym is) all))
