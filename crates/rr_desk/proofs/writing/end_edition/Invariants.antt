use Rattle.std.proofs.Common.{◌++◌}
use Rattle.left_right.specs.Sides.{view}
use Rattle.rr_desk.specs.Changes.{names_of, ops_in}
use Rattle.rr_desk.specs.Editions.{after, flat}
use Rattle.rr_desk.specs.Writers.{changes}
use Rattle.rr_desk.proofs.writing.end_edition.Given as goal

abbrev pub ghosts-reach_batch : goal.ghosts-reach_batch
ghosts-reach_batch g a = record {
  batch = after (flat a.book.now.editions)
      ((view a.writer.now.desk.place).seen ++ ops_in (names_of a.writer.now.desk.shown.value.replica)
      (changes a.writer.now));
}
