-- What was read of a peer's checkpoint, and whether that was all.
use Rattle.std.specs.Prelude.{◌≡◌, ℕ, ◌+◌, ◌-◌, ◌^◌, ◌==◌, min, Bool, false, List, length, Option, None, Some, Result, Ok, Err}
use Rattle.rr_schema.specs.Schema.{Layout}
use Rattle.rr_cells.specs.declared.cell.Cell.{Cell}
use Rattle.rr_journal.specs.declared.cursor.Cursor.{Cursor}
use Rattle.rr_replication.specs.declared.fault.PartFault.{PartFault}
use Rattle.rr_replication.specs.declared.tally.Tally.{Tally}
use Rattle.rr_replication.specs.Reading.{after_part, part_end, peer_state}

-- whether an end, if there is one, states this number of cells
abbrev pub states : Option ℕ → ℕ → Bool
states None cells = false
states (Some count) cells = count == cells

-- whether all of a checkpoint was read: its last record is an end, which states as many cells as were read
abbrev pub is_whole : Tally → Bool
is_whole t = states t.end t.cells

-- nothing was read of a checkpoint
abbrev pub no_tally : Tally
no_tally = record { cells = 0; end = None }

-- what was read of a checkpoint after a part from a place on, which brought this many cells
pub record IsTallied (s : Layout) (before : Tally) (place : Cursor) (bytes : List ℕ) (more : ℕ) (tally : Tally) : Type 0 where
  pub cells : tally.cells ≡ min (before.cells + more) (2 ^ 64 - 1)
  pub end : part_end s before.end place bytes ≡ Ok tally.end

-- a part of a checkpoint is read from a place on, and the answer is the place behind it, and what was read then
abbrev pub ReadsTallied : Layout → Tally → Cursor → List Cell → List Cell → List ℕ → Result (Cursor × Tally) PartFault
    → Type 0
ReadsTallied s before place had cells bytes (Ok x) =
    (after_part s (peer_state place had) bytes ≡ Ok (peer_state x.0 cells))
    × IsTallied s before place bytes (length cells - length had) x.1
ReadsTallied s before place had cells bytes (Err fault) = cells ≡ had
