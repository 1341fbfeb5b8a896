use Rattle.rr_replication.proofs.TextLemmas.{parts_are_taken, parts_bring_the_records}
use Rattle.rr_replication.proofs.laws.parts_bring_the_records.Goals as goal

pub returns-clause-taken : goal.returns-clause-taken
returns-clause-taken c = parts_are_taken

pub returns-clause-brought : goal.returns-clause-brought
returns-clause-brought c = parts_bring_the_records
