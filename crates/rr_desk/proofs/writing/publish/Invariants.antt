use Rattle.rr_desk.specs.Changes.{names_of, ops_in}
use Rattle.rr_desk.specs.Writers.{changes}
use Rattle.rr_desk.proofs.writing.publish.Given as goal

abbrev pub ghosts-publish_batch : goal.ghosts-publish_batch
ghosts-publish_batch g a = record { batch = ops_in (names_of a.writer.desk.shown.value.replica) (changes a.writer) }
