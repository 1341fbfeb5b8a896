use Rattle.rr_feed.proofs.HandLemmas.{rest_is_skipped, line_is_skipped, IsEnd-cut, IsEnd-nil, IsEnd-then}
use Rattle.rr_feed.proofs.next.next_item.Goals as goal

pub returns-in-Some : goal.returns-in-Some
returns-in-Some c = record {
  item = rw c.if-not-skipping.false (line_is_skipped _ _ _ _ c.args.ended _ _ c.in-Some.ensures
      c.next_of_line-in-Some.ensures.item);
  rest = IsEnd-then _ _ _ (IsEnd-cut _ _ _ c.in-Some.ensures) c.next_of_line-in-Some.ensures.rest;
}

pub returns-in-None : goal.returns-in-None
returns-in-None c = record {
  item = rw c.if-not-skipping.false (rest_is_skipped _ c.args.ended c.in-None.ensures);
  rest = IsEnd-nil _;
}
