-- The laws of what is replayed.
use Rattle.std.specs.Prelude.{◌≡◌, ◌≤◌, ℕ, Bool, false, ◌==◌, List, [], ◌∷◌, ◌++◌, length, map, take, Result, Ok}
use Rattle.std.specs.List.{flat_map, list_any}
use Rattle.rr_text.specs.Results.{◌>>=◌}
use Rattle.rr_schema.specs.Schema.{Layout, IsLayout}
use Rattle.rr_cells.specs.CellBounds.{NamedCell}
use Rattle.rr_cells.specs.Cells.{Cells, IsTrimmed}
use Rattle.rr_cells.specs.Joins.{join, join_cells}
use Rattle.rr_cells.specs.ReplicaState.{ReplicaState}
use Rattle.rr_journal.specs.declared.fault.JournalFault.{JournalFault}
use Rattle.rr_journal.specs.declared.step.TheConstants.{MAX_UNSYNCED}
use Rattle.rr_journal.specs.Body.{Meaning, HasCells, HasOrigin, HasJoined, HasEnded, HasWitness, record_meaning}
use Rattle.rr_journal.specs.Reading.{records_of}
use Rattle.rr_journal.specs.Text.{AllFit, Raw, records_text, whole_within}
use Rattle.rr_recovery.specs.Found.{last_end}
use Rattle.rr_recovery.specs.Joining.{cells_of_record, with_all}
use Rattle.rr_recovery.specs.Taking.{Recovery, taken_records}

-- what records mean, if each means something
abbrev pub meanings_of : Layout → List Raw → Result (List Meaning) JournalFault
meanings_of s [] = Ok []
meanings_of s (r ∷ rs) = record_meaning s r >>= λ m. meanings_of s rs >>= λ ms. Ok (m ∷ ms)

-- their cells, in order
abbrev pub cells_of_all : List Meaning → List NamedCell
cells_of_all ms = flat_map cells_of_record ms

-- the origins that a record names: the one of samples from here on, or those of its cells
abbrev pub origins_of : Meaning → List ℕ
origins_of (HasCells groups) = map (λ e. e.0.origin) (cells_of_record (HasCells groups))
origins_of (HasOrigin origin) = origin ∷ []
origins_of (HasJoined cursor) = []
origins_of (HasEnded count) = []
origins_of (HasWitness witness) = []

-- whether a record names an origin
abbrev pub is_named : ℕ → Meaning → Bool
is_named origin m = list_any (λ o. o == origin) (origins_of m)

-- records that are taken each mean something, none of them names the replica's own origin, and their cells are joined;
-- of ends only one that is the last record counts
pub record AreTaken (x y : Recovery) (rs : List Raw) : Type 0 where
  pub meanings : List Meaning
  pub read : meanings_of x.replica.schema rs ≡ Ok meanings
  pub unused : list_any (is_named x.replica.origin) meanings ≡ false
  pub state : y.replica ≡ with_all x.replica (cells_of_all meanings)
  pub end : y.found.end ≡ last_end x.found.end meanings

abbrev pub RecordsAreTaken : Type 0
RecordsAreTaken = (x y : Recovery) (rs : List Raw) → taken_records x rs ≡ Ok y → AreTaken x y rs

-- the cells of a replica are then the join of what it held with these, in order
abbrev pub ReplaysJoin : Type 0
ReplaysJoin = (h : ReplicaState) (es : List NamedCell) → (with_all h es).cells ≡ join_cells h.schema h.cells es

-- each record's cells, joined to the map before, make the map after it
abbrev pub IsHistory : Layout → Cells → List Raw → List Cells → Type 0
IsHistory s m [] [] = Unit {0}
IsHistory s m [] (n ∷ ns) = ⊥
IsHistory s m (r ∷ rs) [] = ⊥
IsHistory s m (r ∷ rs) (n ∷ ns) =
    ((meaning : Meaning) × (record_meaning s r ≡ Ok meaning) × (join_cells s m (cells_of_record meaning) ≡ n))
    × IsHistory s n rs ns

-- the last of some maps, or if there are none, the one before them
abbrev pub last_map : Cells → List Cells → Cells
last_map m [] = m
last_map m (n ∷ ns) = last_map n ns

-- any prefix of a journal of such records, wherever it is cut, makes the map after the last record that is whole in it
abbrev pub PrefixesMakeTheirMap : Type 0
PrefixesMakeTheirMap =
    (before : List ℕ) (x y : Recovery) (rs : List Raw) (ms : List Cells) (n : ℕ) → AllFit rs
    → IsHistory x.replica.schema x.replica.cells rs ms
    → taken_records x (records_of before (take n (records_text before rs))).0 ≡ Ok y
    → y.replica.cells ≡ last_map x.replica.cells (take (length (whole_within n rs)) ms)

-- joining cells again, from any of them on, changes nothing
abbrev pub ReplaysAreRepeatable : Type 0
ReplaysAreRepeatable =
    (s : Layout) (m : Cells) (es fs : List NamedCell) → IsLayout s → IsTrimmed s m
    → join_cells s (join_cells s m (es ++ fs)) fs ≡ join_cells s m (es ++ fs)

-- a map holds all that another does
abbrev pub Holds : Layout → Cells → Cells → Type 0
Holds s m n = join s m n ≡ m

-- whatever a crash left after synced records, the map that is replayed holds all that theirs does
abbrev pub SyncedIsThere : Type 0
SyncedIsThere =
    (before : List ℕ) (x y : Recovery) (rs : List Raw) (tail : List ℕ) → IsLayout x.replica.schema
    → IsTrimmed x.replica.schema x.replica.cells → AllFit rs → length tail ≤ MAX_UNSYNCED
    → taken_records x (records_of before (records_text before rs ++ tail)).0 ≡ Ok y
    → (z : Recovery) × (taken_records x rs ≡ Ok z) × Holds x.replica.schema y.replica.cells z.replica.cells
