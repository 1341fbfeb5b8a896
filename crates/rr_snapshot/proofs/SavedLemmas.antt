-- What a replica was saved as is loaded with the same cells.
use Rattle.std.proofs.Common.{◌≡◌, ℕ, ◌≤◌, Bool, false, List, [], length, map, Result, Ok, Err, refl, sym, ap, subst, ◌∙◌, None, Some, arith}
use Rattle.std.specs.Prelude.{◌≢◌, ◌==◌}
use Rattle.std.specs.FinMap.{get, len, entries, empty, from_entries, entries_sorted, len-entries, len-empty, is_sorted}
use Rattle.std.proofs.lemmas.Bool.{ne_eqb, or_from}
use Rattle.std.proofs.lemmas.List.{nil_from_length}
use Rattle.std.proofs.lemmas.List.Elements.{All-from_recursion}
use Rattle.std.proofs.lemmas.List.Folds.{list_any_none}
use Rattle.rr_text.specs.Results.{◌>>=◌, unless}
use Rattle.rr_schema.specs.Schema.{Layout, IsLayout}
use Rattle.rr_schema.specs.Added.{IsAddition, older, addition_since}
use Rattle.rr_schema.specs.declared.added.Addition.{Addition}
use Rattle.rr_schema.specs.declared.added.Addition.TheVariants.{Nothing}
use Rattle.rr_schema.proofs.AdditionLemmas.{additions_are_found}
use Rattle.rr_contrib.specs.declared.contribution.Contribution.{Contribution}
use Rattle.rr_join.proofs.Booleans.{true_from_T}
use Rattle.rr_cells.specs.CellNames.{CellName, cell_name_cmp}
use Rattle.rr_page.specs.Version.{latest}
use Rattle.rr_page.proofs.HeadLemmas.{masks_wide}
use Rattle.rr_cells.specs.CellBounds.{NamedCell, IsCellOf}
use Rattle.rr_cells.specs.Cells.{Cells, IsTrimmed}
use Rattle.rr_cells.specs.ReplicaState.{IsReplicaState, ReplicaState}
use Rattle.rr_cells.specs.Joins.{join_cells}
use Rattle.rr_cells.proofs.CellByCell.{join_goes_by_cells, join_nothing, trimmed_none}
use Rattle.rr_cells.proofs.HeldCells.{all_entries, all_held}
use Rattle.rr_cells.proofs.JoinLaws.{join_commutes}
use Rattle.rr_snapshot.specs.declared.fault.LoadFault.{LoadFault}
use Rattle.rr_snapshot.specs.declared.fault.LoadFault.TheVariants.{OriginUsed, SchemaDiffers}
use Rattle.rr_snapshot.specs.declared.heading.Head.{Head}
use Rattle.rr_snapshot.specs.declared.heading.TheConstants.{MAX_SNAPSHOT_CELLS}
use Rattle.rr_snapshot.specs.Snapshot.{IsSnapshot, snapshot_text}
use Rattle.rr_snapshot.specs.SnapshotReading.{snapshot_at}
use Rattle.rr_snapshot.proofs.BodyLemmas.{after_head}
use Rattle.rr_snapshot.proofs.SnapshotLemmas.{snapshot_read, other_schema}
use Rattle.rr_cells.specs.Raising.{renamed, raised_name, raised_cell, raised_cells}
use Rattle.rr_cells.proofs.Raised.{same_cells}
use Rattle.rr_cells.proofs.Joined.{join_cells_is_raised}
use Rattle.rr_snapshot.specs.Laws.{SavedIsLoaded, SavedIsRaised, OtherSchemasDiffer}
use Rattle.rr_snapshot.specs.Loading.{is_among, is_used, replica_of, loaded_at}

-- to join all cells of a map into none is to have that map
pub cells_again : (s : Layout) (m : Cells) → IsLayout s → IsTrimmed s m → join_cells s empty (entries m) ≡ m
cells_again s m layout kept = join_goes_by_cells s empty m layout (trimmed_none s) ∙ join_commutes s empty m layout
    ∙ sym (join_nothing s m kept)

-- an origin that no cell of a map has is none of its cells'
not_among : (m : Cells) (origin : ℕ) → ((n : CellName) (c : Contribution) → get m n ≡ Some c → n.origin ≢ origin)
    → is_among origin (entries m) ≡ false
not_among m origin none =
    list_any_none (λ (e : NamedCell). e.0.origin == origin) (entries m)
    (All-from_recursion (λ (e : NamedCell). (e.0.origin == origin) ≡ false) (entries m)
    (all_entries (λ (e : NamedCell). (e.0.origin == origin) ≡ false) m
    (λ n c at. ne_eqb n.origin origin (none n c at))))

-- what a replica holds makes a snapshot, if it is not too much
pub replica_state_is_snapshot : (h : ReplicaState) → IsReplicaState h → len h.cells ≤ MAX_SNAPSHOT_CELLS
    → IsSnapshot h.schema h.origin (entries h.cells)
replica_state_is_snapshot h holds few = record {
  origin_fits = holds.origin;
  count_fits = omega (arith, few, len-entries h.cells);
  cells = All-from_recursion (IsCellOf h.schema) (entries h.cells) (all_held h holds);
  names_ascend = true_from_T (is_sorted cell_name_cmp (entries h.cells)) (entries_sorted h.cells);
}

-- to raise no cell is to have none
none_raised : (a : Addition) → raised_cells a empty ≡ empty
unfolding renamed
none_raised a =
    let no_cell : Cells = empty in
    let none : entries no_cell ≡ [] = nil_from_length (entries no_cell)
    (sym (len-entries no_cell) ∙ len-empty cell_name_cmp Contribution) in
    ap (λ (es : List NamedCell). from_entries (map (λ e. (raised_name a e.0, e.1)) es)) none

-- to join all cells of a map, raised, into none is to have that map, raised
raised_again : (s : Layout) (a : Addition) (m : Cells) → IsAddition s a → IsLayout (older s a) → IsTrimmed (older s a) m
    → join_cells s empty (map (raised_cell a) (entries m)) ≡ raised_cells a m
raised_again s a m there layout kept =
    ap (λ (n : Cells). join_cells s n (map (raised_cell a) (entries m))) (sym (none_raised a))
    ∙ join_cells_is_raised a s empty (entries m) there
    ∙ ap (raised_cells a) (cells_again (older s a) m layout kept)

-- the head that a snapshot in the latest version has for a reader
abbrev head_of : Addition → ℕ → List NamedCell → Head
head_of a o es = record { version = latest; addition = a; origin = o; count = length es }

abbrev judged : Layout → ℕ → Head × List NamedCell → Result ReplicaState LoadFault
judged s origin x = unless OriginUsed (is_used origin x.0.origin x.1) (Ok (replica_of s x.0.addition origin x.1))

-- the text of a snapshot, none of whose cells is past the horizon, is loaded as its cells, raised
pub snapshot_is_loaded : (s t : Layout) (a : Addition) (o : ℕ) (m : Cells) (origin : ℕ) → IsLayout s → IsLayout t
    → addition_since s t ≡ Some a → IsSnapshot t o (entries m) → IsTrimmed t m
    → loaded_at s origin (snapshot_text latest t o (entries m))
    ≡ unless OriginUsed (is_used origin o (entries m))
    (Ok (record { schema = s; origin = origin; next = 1; cells = raised_cells a m }))
unfolding loaded_at
snapshot_is_loaded s t a o m origin layout other since is kept =
    let found = (additions_are_found s t a layout other).0 since in
    let own : IsLayout (older s a) = subst IsLayout found.1 other in
    let wide = masks_wide (older s a) own in
    let snapshot = subst (λ (u : Layout). IsSnapshot u o (entries m)) found.1 is in
    let read = snapshot_read s (head_of a o (entries m)) (entries m) layout found.0 own.some_archive wide refl
    snapshot in
    ap (λ (u : Layout). snapshot_at s (snapshot_text latest u o (entries m)) >>= judged s origin) found.1
    ∙ ap (λ (r : Result (Head × List NamedCell) LoadFault). r >>= judged s origin) read
    ∙ ap (λ (l : Cells). unless OriginUsed (is_used origin o (entries m))
    (Ok (record { schema = s; origin = origin; next = 1; cells = l })))
    (raised_again s a m found.0 own (subst (λ (u : Layout). IsTrimmed u m) found.1 kept))

-- a schema is itself since nothing was added
same_since : (s : Layout) → IsLayout s → addition_since s s ≡ Some Nothing
same_since s layout = (additions_are_found s s Nothing layout layout).1 (tt, refl)

free_origin : (h : ReplicaState) (origin : ℕ) → origin ≢ h.origin
    → ((n : CellName) (c : Contribution) → get h.cells n ≡ Some c → n.origin ≢ origin)
    → is_used origin h.origin (entries h.cells) ≡ false
free_origin h origin other none = or_from (h.origin == origin) (is_among origin (entries h.cells))
    (ne_eqb h.origin origin (λ e. other (sym e))) (not_among h.cells origin none)

pub saved_is_raised : SavedIsRaised
saved_is_raised h s a origin holds layout since few other none =
    snapshot_is_loaded s h.schema a h.origin h.cells origin layout holds.layout since
    (replica_state_is_snapshot h holds few) holds.live
    ∙ ap (λ (b : Bool). unless OriginUsed b (Ok (record
    { schema = s; origin = origin; next = 1; cells = raised_cells a h.cells }))) (free_origin h origin other none)

pub saved_is_loaded : SavedIsLoaded
saved_is_loaded h origin holds few other none =
    saved_is_raised h h.schema Nothing origin holds holds.layout (same_since h.schema holds.layout) few other none
    ∙ ap (λ (l : Cells). Ok (record { schema = h.schema; origin = origin; next = 1; cells = l })) (same_cells h.cells)

-- the text of a snapshot of another schema is refused
pub other_is_refused : (s t : Layout) (o : ℕ) (es : List NamedCell) (origin : ℕ) → IsLayout s → IsLayout t
    → addition_since s t ≡ None → loaded_at s origin (snapshot_text latest t o es) ≡ Err SchemaDiffers
unfolding loaded_at snapshot_at
other_is_refused s t o es origin layout other since =
    ap (λ (r : Result (Head × List ℕ) LoadFault). (r >>= after_head s (snapshot_text latest t o es)) >>= judged s
    origin) (other_schema s t latest o es layout other missed)
  where
    missed : (a : Addition) → IsAddition s a → t ≢ older s a
    missed a there e = let found = (additions_are_found s t a layout other).1 (there, e) in
        absurd (cc (sym since ∙ found))

pub other_schemas_differ : OtherSchemasDiffer
other_schemas_differ h s origin holds layout since few =
    other_is_refused s h.schema h.origin (entries h.cells) origin layout holds.layout since
