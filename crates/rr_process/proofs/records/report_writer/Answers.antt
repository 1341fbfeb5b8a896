use Rattle.std.proofs.Common.{refl}
use Rattle.rr_process.specs.Writing.{written}
use Rattle.rr_process.proofs.records.report_writer.Goals as goal

pub returns-clause-empty : goal.returns-clause-empty
unfolding written
returns-clause-empty c = rw (c.from_writer.ensures.wtr, c.from_writer.ensures.empty, c.new-2.ensures.items) refl
