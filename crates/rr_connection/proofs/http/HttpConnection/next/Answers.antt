use Rattle.std.proofs.Common.{[], ◌∙◌}
use Rattle.rr_connection.specs.Receiving.{found_text}
use Rattle.rr_connection.proofs.SendLemmas.{sends_then}
use Rattle.rr_connection.proofs.http.HttpConnection.next.Goals as goal

pub returns-in-Stop-clause-text : goal.returns-in-Stop-clause-text
returns-in-Stop-clause-text c = sends_then (found_text c.in-Stop.found) c.args.self.now c.loop.self c.step.new.self c.loop.invariant.text c.in-Stop.ensures.text

pub loop-preserved : goal.loop-preserved
loop-preserved c = record {
  phase = c.in-On.ensures.phase ∙ c.loop.invariant.phase;
  limit = c.step.ensures.limit ∙ c.loop.invariant.limit;
  text = sends_then [] c.args.self.now c.loop.self c.step.new.self c.loop.invariant.text c.in-On.ensures.text;
  found = λ limits received answered x. let y = c.in-On.ensures.found limits received answered (c.loop.invariant.found limits received answered x) in (y.1, y.0);
}

pub returns-clause-text : goal.returns-clause-text
returns-clause-text c = sends_then (found_text c.refuse.result) c.args.self.now c.loop.self c.refuse.new.self c.loop.invariant.text c.refuse.ensures.text
