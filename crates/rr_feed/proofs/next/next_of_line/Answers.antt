use Rattle.rr_feed.proofs.HandLemmas.{line_is_handed, IsEnd-cut}
use Rattle.rr_feed.proofs.next.next_of_line.Goals as goal

pub returns-in-Some : goal.returns-in-Some
returns-in-Some c = record {
  item = rw c.whole_line.ensures (line_is_handed _ c.in-Some.line.now _ c.args.ended c.in-Some.ensures);
  rest = IsEnd-cut _ _ _ c.in-Some.ensures;
}
