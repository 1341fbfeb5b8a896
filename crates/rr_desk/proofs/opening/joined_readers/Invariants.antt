use Rattle.std.proofs.Common.{◌≡◌, length, All}
use Rattle.left_right.specs.Sides.{view}
use Rattle.rr_desk.specs.ReaderState.{HasSeen}
use Rattle.rr_desk.specs.Writers.{changes}
use Rattle.rr_desk.proofs.opening.joined_readers.Given as goal

abbrev pub invariant-loop-n : goal.invariant-loop-n
invariant-loop-n g l = record {
  place : view l.writer.desk.place ≡ view l.initial.writer.desk.place;
  shown : l.writer.desk.shown ≡ l.initial.writer.desk.shown;
  pending : changes l.writer ≡ changes l.initial.writer;
  count : length l.all.items ≡ l.n;
  seen : All (HasSeen (view l.initial.writer.desk.place).desk l.schema (view l.initial.writer.desk.place).seen)
      l.all.items;
}
