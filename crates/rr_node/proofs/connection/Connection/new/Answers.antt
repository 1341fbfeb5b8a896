use Rattle.std.proofs.Common.{refl, rules}
use Rattle.rr_node.proofs.ConnectionLemmas.{HasServed-new}
use Rattle.rr_node.proofs.connection.Connection.new.Goals as goal

pub returns : goal.returns
returns c = record {
  feed = search rules;
  pieces = search rules;
  lines = refl;
  report = refl;
  rules = search rules;
  nothing = λ start. HasServed-new _ start c.new.ensures refl refl;
}
