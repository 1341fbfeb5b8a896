-- The cells that a peer brings, and the record of how far its journal was read.
use Rattle.std.specs.Prelude.{◌≡◌, ◌==◌, ◌&&◌, ℕ, nat_le, Bool, List, [], ◌∷◌, Option, fold, if◌then◌else◌}
use Rattle.std.specs.List.{AllByRecursion}
use Rattle.rr_cells.specs.declared.cell.Cell.{Cell}
use Rattle.rr_cells.specs.declared.op.Op.TheVariants.{Join}
use Rattle.rr_cells.specs.CellBounds.{IsCellOf, is_cell_of}
use Rattle.rr_cells.specs.Listing.{owned_cell}
use Rattle.rr_desk.specs.KeeperState.{KeeperState, with_pending}
use Rattle.rr_desk.specs.ReaderState.{with_joined}
use Rattle.rr_journal.specs.declared.cursor.Cursor.{Cursor}
use Rattle.rr_journal.specs.Body.{HasJoined, raw_text}
use Rattle.rr_journal.specs.Keeping.{Committed}
use Rattle.rr_journal.specs.Witness.{batch_of}

-- a cell is of this origin, under a number that isn't below the next one
abbrev pub is_unwritten : ℕ → ℕ → Cell → Bool
is_unwritten origin next c = c.origin == origin && nat_le next c.contribution.version

-- a cell is joined, if it is one of the keeper's schema
abbrev pub joined_if : KeeperState → Cell → KeeperState
joined_if k c = if is_cell_of k.schema (owned_cell c) then with_pending k (Join c) else k

-- so is each of these, in order
abbrev pub joined_to : KeeperState → List Cell → KeeperState
joined_to k cells = fold joined_if k cells

-- if all are of the schema, all are joined
abbrev pub CellsOfTheSchemaAreJoined : Type 0
CellsOfTheSchemaAreJoined =
    (k : KeeperState) (cells : List Cell) → AllByRecursion (λ c. IsCellOf k.schema (owned_cell c)) cells
    → joined_to k cells ≡ with_joined k cells

-- the record of a cursor was committed, behind a witness under a key
abbrev pub RecordsCursor : Cursor → List ℕ → Option (List ℕ) → Option (List ℕ) → Option (List ℕ) → Cursor → Cursor
    → Type 0
RecordsCursor read key old new text before cursor =
    Committed old new text before cursor (batch_of key before.offset (raw_text (HasJoined read) ∷ []))
