-- What the records of a journal make of a replica, one after the other.
use Rattle.std.specs.Prelude.{◌<◌, ◌==◌, List, [], ◌∷◌, length, Some, Result, Ok, Err, IsOk}
use Rattle.std.specs.List.{flat_map}
use Rattle.rr_text.specs.Results.{◌>>=◌, unless, GivesUnless}
use Rattle.rr_schema.specs.Schema.{Layout}
use Rattle.rr_cells.specs.CellBounds.{NamedCell}
use Rattle.rr_cells.specs.Joining.{with_named}
use Rattle.rr_cells.specs.ReplicaState.{ReplicaState}
use Rattle.rr_replica.specs.ReplicaWithRoom.{ReplicaWithRoom, replica_state}
use Rattle.rr_codec.specs.Reading.{checked_count}
use Rattle.rr_journal.specs.declared.fault.JournalFault.{JournalFault}
use Rattle.rr_journal.specs.Body.{Meaning, PackedCells, HasCells, HasOrigin, HasJoined, HasEnded, HasWitness, record_meaning}
use Rattle.rr_journal.specs.Text.{Raw}
use Rattle.rr_recovery.specs.declared.fault.RecoveryFault.{RecoveryFault}
use Rattle.rr_recovery.specs.declared.fault.RecoveryFault.TheVariants.{BadRecord, OriginUsed, Memory}
use Rattle.rr_recovery.specs.declared.found.Found.{Found}
use Rattle.rr_recovery.specs.Found.{FoundState, found_state, one_more, one_record, with_cursor}
use Rattle.rr_recovery.specs.Joining.{JoinsSome, group_cells}

-- packed cells that one of a schema's archives may have
abbrev pub IsCheckedGroup : Layout → PackedCells → Type 0
IsCheckedGroup s g = (g.archive < length s.archives) × IsOk (checked_count s g.archive g.bytes)

-- a replica, and what was found besides
pub record Recovery : Type 0 where
  pub replica : ReplicaState
  pub found : FoundState

abbrev pub recovery : ReplicaWithRoom → Found → Recovery
recovery replica found = record { replica = replica_state replica; found = found_state found }

-- with a cell joined and counted
abbrev pub with_one : Recovery → NamedCell → Recovery
with_one x e = record { replica = with_named x.replica e; found = one_more x.found }

-- with something found
abbrev pub with_found : Recovery → FoundState → Recovery
with_found x found = record { replica = x.replica; found = found }

-- with a record counted
abbrev pub with_record : Recovery → Recovery
with_record x = with_found x (one_record x.found)

-- these cells are joined in, unless one is of the replica's own origin
abbrev pub taken_cells : Recovery → List NamedCell → Result Recovery RecoveryFault
taken_cells x [] = Ok x
taken_cells x (e ∷ es) = unless OriginUsed (e.0.origin == x.replica.origin) (taken_cells (with_one x e) es)

-- by what a record means: its cells are joined, or its origin, cursor or number is found
abbrev pub taken : Recovery → Meaning → Result Recovery RecoveryFault
taken x (HasCells groups) = taken_cells x (flat_map group_cells groups)
taken x (HasOrigin origin) = unless OriginUsed (origin == x.replica.origin) (Ok (with_found x
    (record {
      origin = Some origin;
      cursors = x.found.cursors;
      end = x.found.end;
      records = x.found.records;
      cells = x.found.cells;
    })))
taken x (HasJoined cursor) = Ok (with_found x (record {
  origin = x.found.origin;
  cursors = with_cursor x.found.cursors cursor;
  end = x.found.end;
  records = x.found.records;
  cells = x.found.cells;
}))
taken x (HasEnded count) = Ok (with_found x
    (record {
      origin = x.found.origin;
      cursors = x.found.cursors;
      end = Some count;
      records = x.found.records;
      cells = x.found.cells;
    }))
taken x (HasWitness witness) = Ok x

-- a result of records, its fault as a recovery's
abbrev pub as_bad : {A : Type 0} → Result A JournalFault → Result A RecoveryFault
as_bad (Ok x) = Ok x
as_bad (Err fault) = Err (BadRecord fault)

-- a record is counted and taken, if it means something
abbrev pub taken_record : Recovery → Raw → Result Recovery RecoveryFault
taken_record x r = as_bad (record_meaning x.replica.schema r) >>= taken (with_record x)

-- records are taken one after the other, up to the first fault
abbrev pub taken_records : Recovery → List Raw → Result Recovery RecoveryFault
taken_records x [] = Ok x
taken_records x (r ∷ rs) = taken_record x r >>= λ y. taken_records y rs

-- what a call made of a recovery is the definition's answer, unless memory ran out; and whatever it answers, it did
-- nothing to the replica but join cells
pub record Takes {X : Type 0} (old new : Recovery) (answer : Result Recovery RecoveryFault) (result : Result X RecoveryFault)
    : Type 0 where
  pub exact : GivesUnless Memory (λ _. new) result answer
  pub joins : JoinsSome old.replica new.replica
