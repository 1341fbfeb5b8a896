-- Cells joined under a schema that has one archive more.
use Rattle.std.proofs.Common.{◌≡◌, ◌+◌, ℕ, List, [], ◌∷◌, ◌++◌, map, fold, take, slice_get, Option, None, Some, refl, sym, ap, subst, ◌∙◌, arith}
use Rattle.std.specs.FinMap.{entries, empty, from_entries, len-entries, len-empty}
use Rattle.std.specs.Option.{option_map}
use Rattle.std.proofs.lemmas.List.{nil_from_length}
use Rattle.std.proofs.lemmas.List.Sums.{fold-append}
use Rattle.rr_contrib.specs.declared.contribution.Contribution.{Contribution}
use Rattle.rr_schema.specs.Added.{HasAdded, older}
use Rattle.rr_schema.specs.Schema.{Layout, IsLayout}
use Rattle.rr_schema.specs.declared.added.Addition.{Addition}
use Rattle.rr_schema.specs.declared.added.Addition.TheVariants.{Archive}
use Rattle.rr_cells.specs.declared.cell.CellRef.{CellRef}
use Rattle.rr_cells.specs.CellBounds.{IsCellOf, NamedCell}
use Rattle.rr_cells.specs.CellNames.{cell_name_cmp}
use Rattle.rr_cells.specs.Cells.{Cells, IsTrimmed}
use Rattle.rr_cells.specs.Joining.{with_named}
use Rattle.rr_cells.specs.Joins.{join_cells}
use Rattle.rr_cells.specs.Listing.{seen_cell}
use Rattle.rr_cells.specs.Raising.{raised_cell, raised_cells, raised_name, renamed}
use Rattle.rr_cells.specs.ReplicaState.{ReplicaState}
use Rattle.rr_cells.proofs.CellByCell.{join_goes_by_cells, join_nothing, trimmed_none}
use Rattle.rr_cells.proofs.JoinLaws.{join_commutes}
use Rattle.rr_cells.proofs.Joined.{join_cells_is_raised, raised_is_cell}
use Rattle.rr_replica.proofs.Counted.{past_end, take_all}
use Rattle.rr_replica.proofs.InTurn.{taken_more}
use Rattle.rr_directory.specs.Raising.{RaisedAreTheCells, with_raised}
use Rattle.rr_directory.specs.Recovering.{empty_state}

-- ---- one cell after the other

raised_more : (i : ℕ) (es : List NamedCell) (e : NamedCell)
    → map (raised_cell (Archive i)) (es ++ e ∷ []) ≡ map (raised_cell (Archive i)) es ++ raised_cell (Archive i) e ∷ []
raised_more i [] e = refl
raised_more i (x ∷ es) e = ap (λ l. raised_cell (Archive i) x ∷ l) (raised_more i es e)

-- with the first cells, and then the next one
pub with_more : (i : ℕ) (h : ReplicaState) (es : List NamedCell) (n : ℕ) (e : NamedCell) → slice_get es n ≡ Some e
    → with_raised i h (take (n + 1) es) ≡ with_named (with_raised i h (take n es)) (raised_cell (Archive i) e)
with_more i h es n e at =
    ap (with_raised i h) (taken_more es 0 n e (ap (slice_get es) (from_zero n) ∙ at))
    ∙ ap (fold with_named h) (raised_more i (take n es) e)
    ∙ fold-append with_named h (map (raised_cell (Archive i)) (take n es)) (raised_cell (Archive i) e ∷ [])
  where
    from_zero : (k : ℕ) → 0 + k ≡ k
    from_zero k = omega arith

-- no cell is left
pub with_all : (i : ℕ) (h : ReplicaState) (es : List NamedCell) (n : ℕ) (o : Option CellRef)
    → option_map seen_cell o ≡ slice_get es n → o ≡ None → with_raised i h (take n es) ≡ with_raised i h es
with_all i h es n o next none = ap (with_raised i h) (take_all es n (past_end es n (sym next
    ∙ ap (option_map seen_cell) none)))

-- a cell of the older schema is one of the new schema, once it is raised
pub is_raised_cell : (i : ℕ) (s t : Layout) (e : NamedCell) → HasAdded i s t → IsCellOf t e
    → IsCellOf s (raised_cell (Archive i) e)
is_raised_cell i s t e added is =
    let same : t ≡ older s (Archive i) = λ j. record { step = added.step j; archives = added.others j } in
    raised_is_cell (Archive i) s e added.number (subst (λ (u : Layout). IsCellOf u e) same is)

-- ---- all cells

folded_cells : (h : ReplicaState) (es : List NamedCell)
    → (fold with_named h es).cells ≡ join_cells h.schema h.cells es
folded_cells h [] = refl
folded_cells h (e ∷ es) = folded_cells (with_named h e) es

-- to join all cells of a map into none is to have that map
cells_again : (s : Layout) (m : Cells) → IsLayout s → IsTrimmed s m → join_cells s empty (entries m) ≡ m
cells_again s m layout kept = join_goes_by_cells s empty m layout (trimmed_none s) ∙ join_commutes s empty m layout
    ∙ sym (join_nothing s m kept)

-- to raise no cell is to have none
none_raised : (a : Addition) → raised_cells a empty ≡ empty
unfolding renamed
none_raised a =
    let no_cell : Cells = empty in
    let none : entries no_cell ≡ [] = nil_from_length (entries no_cell)
    (sym (len-entries no_cell) ∙ len-empty cell_name_cmp Contribution) in
    ap (λ (es : List NamedCell). from_entries (map (λ e. (raised_name a e.0, e.1)) es)) none

pub raised_are_the_cells : RaisedAreTheCells
raised_are_the_cells s i origin m there layout kept =
    let a = Archive i in
    folded_cells (empty_state s origin) (map (raised_cell a) (entries m))
    ∙ ap (λ (n : Cells). join_cells s n (map (raised_cell a) (entries m))) (sym (none_raised a))
    ∙ join_cells_is_raised a s empty (entries m) there
    ∙ ap (raised_cells a) (cells_again (older s a) m layout kept)
