-- Journals by their bytes: what is read of one, wherever it is cut, is deeds, and what was synced brings all.
use Rattle.std.specs.Prelude.{◌≡◌, ◌≤◌, ℕ, List, ◌++◌, length, map, take, Some, Ok, All, Contains}
use Rattle.rr_schema.specs.Schema.{Layout, IsLayout}
use Rattle.rr_cells.specs.CellNames.{CellName}
use Rattle.rr_cells.specs.CellBounds.{NamedCell}
use Rattle.rr_cells.specs.Cells.{Cells, IsTrimmed}
use Rattle.rr_changes.specs.Updates.{Holds, Write, AreWrites, last_cells, written_cells}
use Rattle.rr_journal.specs.declared.step.TheConstants.{MAX_UNSYNCED}
use Rattle.rr_journal.specs.Body.{Meaning}
use Rattle.rr_journal.specs.Reading.{records_of}
use Rattle.rr_journal.specs.Text.{AllFit, Raw, records_text}
use Rattle.rr_recovery.specs.Laws.{cells_of_all, meanings_of}
use Rattle.rr_recovery.specs.Taking.{Recovery, taken_records}
use Rattle.rr_nodes.specs.Nodes.{Moment, Deed, held_at, after_all}
use Rattle.rr_nodes.specs.Models.{cell_model}
use Rattle.rr_nodes.specs.Sessions.{now_at}
use Rattle.rr_nodes.specs.Journals.{AreMomentsElsewhere, takes_of}

-- each cell of these records is one of these cells
pub record HaveOnly (s : Layout) (cells : List NamedCell) (rs : List Raw) : Type 0 where
  pub meanings : List Meaning
  pub read : meanings_of s rs ≡ Ok meanings
  pub part : All (Contains cells) (cells_of_all meanings)

-- each of these cells is in these records, in whatever groups and order
pub record HaveAll (s : Layout) (cells : List NamedCell) (rs : List Raw) : Type 0 where
  pub meanings : List Meaning
  pub read : meanings_of s rs ≡ Ok meanings
  pub whole : All (Contains (cells_of_all meanings)) cells

-- the cells that a recovery has joined so far
abbrev pub cells_in : Recovery → Cells
cells_in x = x.replica.cells

-- if the records of a journal have only what its node wrote, whatever is read of its bytes, wherever they are cut, is
-- deeds: they make of a node that held the same what the replay makes of a replica
abbrev pub PrefixesAreDeeds : Type 0
PrefixesAreDeeds =
    (s : Layout) (deeds : List Deed) (origin : ℕ) (m : Cells) (writes : List Write) (before : List ℕ)
    (rs : List Raw) (n : ℕ) (x y : Recovery) → AreWrites s m writes
    → AreMomentsElsewhere (after_all cell_model s deeds) origin (map (λ w. w.cells) writes) → AllFit rs
    → HaveOnly s (written_cells writes) rs → x.replica.schema ≡ s
    → held_at (after_all cell_model s deeds) (now_at origin) ≡ Some (cells_in x)
    → taken_records x (records_of before (take n (records_text before rs))).0 ≡ Ok y
    → (cells : List (Moment × CellName))
    × (held_at (after_all cell_model s (deeds ++ takes_of origin cells)) (now_at origin) ≡ Some (cells_in y))

-- a replica that holds what was there before these writes, and reads their records, holds all that was there at the
-- last one, whatever a crash left after what was synced
abbrev pub SyncedBringAll : Type 0
SyncedBringAll =
    (s : Layout) (m : Cells) (writes : List Write) (before : List ℕ) (rs : List Raw) (tail : List ℕ) (x y : Recovery)
    → IsLayout s → AreWrites s m writes → AllFit rs → HaveAll s (written_cells writes) rs → x.replica.schema ≡ s
    → Holds s (cells_in x) m → length tail ≤ MAX_UNSYNCED
    → taken_records x (records_of before (records_text before rs ++ tail)).0 ≡ Ok y
    → Holds s (cells_in y) (last_cells m writes)

-- and one that has exactly that, and reads exactly these records, has exactly what was there at the last one
abbrev pub ReplaysMakeTheLast : Type 0
ReplaysMakeTheLast =
    (s : Layout) (writes : List Write) (rs : List Raw) (x y : Recovery) → IsLayout s → IsTrimmed s (cells_in x)
    → AreWrites s (cells_in x) writes → HaveOnly s (written_cells writes) rs → HaveAll s (written_cells writes) rs
    → x.replica.schema ≡ s → taken_records x rs ≡ Ok y
    → cells_in y ≡ last_cells (cells_in x) writes
