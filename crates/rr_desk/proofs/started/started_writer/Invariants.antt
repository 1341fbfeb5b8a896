use Rattle.rr_cells.specs.Operations.{joins_of}
use Rattle.rr_desk.proofs.started.started_writer.Given as goal

abbrev pub ghosts-first_batch : goal.ghosts-first_batch
ghosts-first_batch g a = record { batch = joins_of a.replica.now.cells }
