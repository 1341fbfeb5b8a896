use Rattle.std.proofs.Common.{map}
use Rattle.rr_io.specs.Counted.{inner_of}
use Rattle.rr_cells.specs.Listing.{owned_cell}
use Rattle.rr_recovery.proofs.ReplayLemmas.{SoFar}
use Rattle.rr_replication.specs.Reading.{Keeps}
use Rattle.rr_replication.proofs.ReadingLemmas.{EndsTheSame, ReadsTheSame}
use Rattle.rr_replication.proofs.records.read_records.Given as goal

-- to read the records that are left now is to read all
abbrev pub invariant-loop : goal.invariant-loop
invariant-loop g l = record {
  read : SoFar l.initial.place l.place (g.R.Read.remaining (inner_of l.initial.input))
      (g.R.Read.remaining (inner_of l.input))
      (ReadsTheSame l.schema (map owned_cell l.initial.cells.items) (map owned_cell l.cells.items) l.is_first);
  end : SoFar l.initial.place l.place (g.R.Read.remaining (inner_of l.initial.input))
      (g.R.Read.remaining (inner_of l.input)) (EndsTheSame l.schema l.initial.end l.end);
  kept : Keeps l.schema l.initial.cells.items l.cells.items;
}
