use Rattle.std.proofs.Common.{sym, rules}
use Rattle.std.proofs.lemmas.Bool.{ltb-true}
use Rattle.rr_feed.proofs.HandLemmas.{too_long_is_handed, last_is_handed, nothing_is_handed, IsEnd-nil}
use Rattle.rr_feed.proofs.next.next_of_last.Goals as goal

pub returns-then-is_too_long : goal.returns-then-is_too_long
returns-then-is_too_long c = record {
  item = too_long_is_handed _ c.args.ended c.requires (ltb-true _ _ (sym c.if-is_too_long.ensures));
  rest = IsEnd-nil _;
}

pub returns-then-is_last_line : goal.returns-then-is_last_line
returns-then-is_last_line c = record {
  item = last_is_handed _ c.args.ended c.requires (sym c.if-is_too_long.ensures) (sym c.if-is_last_line.ensures);
  rest = IsEnd-nil _;
}

pub returns : goal.returns
returns c = record {
  item = nothing_is_handed _ c.args.ended c.requires (sym c.if-is_too_long.ensures) (sym c.if-is_last_line.ensures);
  rest = search rules;
}
