-- What a peer makes of a part of a journal.
use Rattle.std.specs.Prelude.{◌≡◌, Bool, true, false, List, [], ◌∷◌, ◌++◌, map, Option, None, Result, Ok, Err, ℕ, if◌then◌else◌}
use Rattle.std.specs.List.{AllByRecursion}
use Rattle.rr_text.specs.Results.{◌>>=◌, GivesUnless}
use Rattle.rr_schema.specs.Schema.{Layout}
use Rattle.rr_cells.specs.declared.cell.Cell.{Cell}
use Rattle.rr_cells.specs.CellBounds.{IsCellOf, NamedCell}
use Rattle.rr_cells.specs.Listing.{owned_cell}
use Rattle.rr_journal.specs.declared.cursor.Cursor.{Cursor}
use Rattle.rr_journal.specs.declared.fault.JournalFault.{JournalFault}
use Rattle.rr_journal.specs.declared.step.Stop.{Stop}
use Rattle.rr_journal.specs.declared.step.Stop.TheVariants.{End, Torn, Damaged}
use Rattle.rr_journal.specs.Body.{Meaning, record_meaning}
use Rattle.rr_journal.specs.Cursor.{behind_all}
use Rattle.rr_journal.specs.Reading.{records_of, stop_of}
use Rattle.rr_journal.specs.Text.{Raw}
use Rattle.rr_recovery.specs.Found.{end_after, last_end}
use Rattle.rr_recovery.specs.Joining.{cells_of_record}
use Rattle.rr_recovery.specs.Laws.{cells_of_all, meanings_of}
use Rattle.rr_replication.specs.declared.fault.PartFault.{PartFault}
use Rattle.rr_replication.specs.declared.fault.PartFault.TheVariants as part

-- a result of records, its fault as a part's
abbrev pub as_bad : {A : Type 0} → Result A JournalFault → Result A PartFault
as_bad (Ok x) = Ok x
as_bad (Err fault) = Err (part.BadRecord fault)

-- ---- the cells of one record

-- what a record means, as its cells
abbrev pub record_cells : Layout → Raw → Result (List NamedCell) PartFault
record_cells s r = as_bad (record_meaning s r) >>= λ m. Ok (cells_of_record m)

-- the number that it states if it is an end
abbrev pub record_end : Layout → Raw → Result (Option ℕ) PartFault
record_end s r = as_bad (record_meaning s r) >>= λ m. Ok (end_after None m)

-- cells of a schema
abbrev pub AreCellsOf : Layout → List Cell → Type 0
AreCellsOf s cells = AllByRecursion (λ c. IsCellOf s (owned_cell c)) cells

-- the cells that were there are followed by others, which are of a schema
pub record Keeps (s : Layout) (old new : List Cell) : Type 0 where
  pub more : List Cell
  pub kept : new ≡ old ++ more
  pub of_schema : AreCellsOf s more

-- these are the answer's, unless memory ran out or it is refused
pub record Adds {X : Type 0} (s : Layout) (old new : List Cell) (answer : Result (List NamedCell) PartFault)
    (result : Result X PartFault) : Type 0 where
  pub more : List Cell
  pub kept : new ≡ old ++ more
  pub of_schema : AreCellsOf s more
  pub exact : GivesUnless part.Memory (λ _. map owned_cell more) result answer

-- ---- the records of a part

-- how far a peer has read a journal, and the cells that it has of it
pub record PeerState : Type 0 where
  pub place : Cursor
  pub cells : List NamedCell

abbrev pub peer_state : Cursor → List Cell → PeerState
peer_state place cells = record { place = place; cells = map owned_cell cells }

-- the whole records at the beginning of a part that was given from a place on
abbrev pub records_in : Cursor → List ℕ → List Raw
records_in place bytes = (records_of place.digest bytes).0

abbrev pub is_empty : {A : Type 0} → List A → Bool
is_empty [] = true
is_empty (x ∷ xs) = false

-- a part may end in a cut record, unless that is its first
abbrev pub ends_part : Stop → Bool → Result (Unit {0}) PartFault
ends_part End first = Ok tt
ends_part Torn first = if first then Err part.Damaged else Ok tt
ends_part (Damaged why) first = Err part.Damaged

-- past these records, and with the cells of what they mean
abbrev pub with_records : PeerState → List Raw → List Meaning → PeerState
with_records x rs ms = record { place = behind_all x.place rs; cells = x.cells ++ cells_of_all ms }

-- after a part, if each of its whole records means something, and nothing but a cut record is left behind them
abbrev pub after_part : Layout → PeerState → List ℕ → Result PeerState PartFault
after_part s x bytes =
    as_bad (meanings_of s (records_in x.place bytes)) >>= λ ms. ends_part (stop_of x.place.digest bytes)
    (is_empty (records_in x.place bytes)) >>= λ end. Ok (with_records x (records_in x.place bytes) ms)

-- the count that the last whole record of a part states, if it is an end; without a whole record, what was stated before
abbrev pub part_end : Layout → Option ℕ → Cursor → List ℕ → Result (Option ℕ) PartFault
part_end s before place bytes = as_bad (meanings_of s (records_in place bytes)) >>= λ ms. Ok (last_end before ms)
