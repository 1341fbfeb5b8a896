-- The cells that a replica holds, as they are listed, are cells of its schema.
use Rattle.std.proofs.Common.{◌≡◌, ℕ, zero, suc, pos, Bool, true, false, cond, List, [], ◌∷◌, map, take, drop, slice_get, refl, sym, ap, ◌∙◌, subst, true≢false, Option, Some, None, is_some, unwrap_or}
use Rattle.std.specs.List.{All, AllByRecursion}
use Rattle.std.specs.Prelude.{IfSome}
use Rattle.std.specs.Option.{option_map}
use Rattle.std.specs.Ordering.{eq_by_cmp, is_lt}
use Rattle.std.specs.FinMap.{get, keys, entries}
use Rattle.std.proofs.lemmas.Bool.{or_right}
use Rattle.std.proofs.lemmas.List.Elements.{All-from_recursion}
use Rattle.rr_join.proofs.Keys.{entries_by_keys}
use Rattle.rr_join.proofs.Lookups.{is_in-keys}
use Rattle.rr_join.proofs.Members.{is_in, head_in}
use Rattle.rr_contrib.specs.declared.contribution.Contribution.{Contribution}
use Rattle.rr_contrib.specs.Contributions.{of_one, slot_sample}
use Rattle.rr_cells.specs.CellNames.{CellName, cell_name_cmp}
use Rattle.rr_cells.proofs.Orders.{cell_name_cmp_total, cell_name_cmp-IsAntisymmetric}
use Rattle.rr_cells.specs.declared.cell.Cell.{Cell}
use Rattle.rr_cells.specs.declared.cell.CellRef.{CellRef}
use Rattle.rr_cells.specs.CellBounds.{NamedCell, IsCellOf}
use Rattle.rr_cells.specs.Cells.{Cells}
use Rattle.rr_cells.specs.ReplicaState.{IsReplicaState, ReplicaState}
use Rattle.rr_cells.specs.Listing.{owned_cell, seen_cell, first_after, next_cell}

all_images : (P : NamedCell → Type 0) (f : CellName → NamedCell) (ns : List CellName)
    → ((n : CellName) → is_in cell_name_cmp ns n ≡ true → P (f n)) → AllByRecursion P (map f ns)
all_images P f [] each = tt
all_images P f (n ∷ ns) each = (
  each n (head_in cell_name_cmp_total cell_name_cmp-IsAntisymmetric n ns),
  all_images P f ns (λ k e. each k (or_right (eq_by_cmp cell_name_cmp k n) (is_in cell_name_cmp ns k) e)),
)

-- what holds of each cell of a map, by its name, holds of all its entries
pub all_entries : (P : NamedCell → Type 0) (m : Cells)
    → ((n : CellName) (c : Contribution) → get m n ≡ Some c → P (n, c)) → AllByRecursion P (entries m)
all_entries P m each =
    subst (AllByRecursion P) (sym (entries_by_keys cell_name_cmp_total cell_name_cmp-IsAntisymmetric m nothing))
    (all_images P (λ n. (n, unwrap_or (get m n) nothing)) (keys m) (λ n e.
    each n (unwrap_or (get m n) nothing) (found (get m n)
    (sym (is_in-keys cell_name_cmp_total cell_name_cmp-IsAntisymmetric m n) ∙ e))))
  where
    nothing : Contribution
    nothing = of_one (slot_sample 0 0 (pos 0) (pos 0))

    found : (o : Option Contribution) → is_some o ≡ true → o ≡ Some (unwrap_or o nothing)
    found None e = absurd (true≢false (sym e))
    found (Some c) e = refl

pub all_held : (h : ReplicaState) → IsReplicaState h → AllByRecursion (IsCellOf h.schema) (entries h.cells)
all_held h holds = all_entries (IsCellOf h.schema) h.cells holds.cells

all_drop : (P : NamedCell → Type 0) (n : ℕ) (es : List NamedCell) → AllByRecursion P es → AllByRecursion P (drop n es)
all_drop P zero es all = all
all_drop P (suc n) [] all = tt
all_drop P (suc n) (e ∷ es) all = all_drop P n es all.1

all_take : (P : NamedCell → Type 0) (n : ℕ) (es : List NamedCell) → AllByRecursion P es → AllByRecursion P (take n es)
all_take P zero [] all = tt
all_take P zero (e ∷ es) all = tt
all_take P (suc n) [] all = tt
all_take P (suc n) (e ∷ es) all = (all.0, all_take P n es all.1)

all_owned : (P : NamedCell → Type 0) (cells : List Cell) → AllByRecursion P (map owned_cell cells)
    → AllByRecursion (λ c. P (owned_cell c)) cells
all_owned P [] all = tt
all_owned P (c ∷ cells) all = (all.0, all_owned P cells all.1)

pub listed_held : (h : ReplicaState) (from count : ℕ) (cells : List Cell) → IsReplicaState h
    → map owned_cell cells ≡ take count (drop from (entries h.cells))
    → All (λ c. IsCellOf h.schema (owned_cell c)) cells
listed_held h from count cells holds is =
    All-from_recursion (λ c. IsCellOf h.schema (owned_cell c)) cells
    (all_owned (IsCellOf h.schema) cells
    (subst (AllByRecursion (IsCellOf h.schema)) (sym is)
    (all_take (IsCellOf h.schema) count (drop from (entries h.cells))
    (all_drop (IsCellOf h.schema) from (entries h.cells) (all_held h holds)))))

-- ---- one of them

seen_at : (h : ReplicaState) → IsReplicaState h → (o : Option CellRef) (e : Option NamedCell)
    → ((x : NamedCell) → e ≡ Some x → IsCellOf h.schema x) → option_map seen_cell o ≡ e
    → IfSome o (λ c. IsCellOf h.schema (seen_cell c))
seen_at h holds None e each is = tt
seen_at h holds (Some c) e each is = each (seen_cell c) (sym is)

pub at_held : (h : ReplicaState) → IsReplicaState h → (o : Option CellRef) (i : ℕ)
    → option_map seen_cell o ≡ slice_get (entries h.cells) i → IfSome o (λ c. IsCellOf h.schema (seen_cell c))
at_held h holds o i = seen_at h holds o (slice_get (entries h.cells) i)
    (λ x e. at (entries h.cells) i x (all_held h holds) e)
  where
    at : (es : List NamedCell) (k : ℕ) (x : NamedCell) → AllByRecursion (IsCellOf h.schema) es → slice_get es k ≡ Some x
        → IsCellOf h.schema x
    at [] k x all e = absurd cc
    at (f ∷ es) zero x all e = subst (IsCellOf h.schema) (ap (λ o. unwrap_or o f) e) all.0
    at (f ∷ es) (suc k) x all e = at es k x all.1 e

pub next_held : (h : ReplicaState) → IsReplicaState h → (o : Option CellRef) (n : CellName)
    → option_map seen_cell o ≡ next_cell h.cells n → IfSome o (λ c. IsCellOf h.schema (seen_cell c))
next_held h holds o n = seen_at h holds o (next_cell h.cells n) (λ x e. first (entries h.cells) x (all_held h holds) e)
  where
    first : (es : List NamedCell) (x : NamedCell) → AllByRecursion (IsCellOf h.schema) es → first_after n es ≡ Some x
        → IsCellOf h.schema x
    first [] x all e = absurd cc
    first (f ∷ es) x all e = by_test (is_lt (cell_name_cmp n f.0)) all.0 (first es x all.1) e
      where
        by_test : (b : Bool) → IsCellOf h.schema f → (first_after n es ≡ Some x → IsCellOf h.schema x)
            → cond b (Some f) (first_after n es) ≡ Some x → IsCellOf h.schema x
        by_test true here rest e = subst (IsCellOf h.schema) (ap (λ o. unwrap_or o f) e) here
        by_test false here rest e = rest e
