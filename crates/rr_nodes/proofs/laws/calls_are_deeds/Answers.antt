use Rattle.rr_nodes.proofs.CallsLemmas as calls
use Rattle.rr_nodes.proofs.laws.calls_are_deeds.Goals as goal

pub returns : goal.returns
returns c = record {
  answers = calls.calls_answer_from_samples;
  writes = calls.writes_are_puts;
  pages =
      calls.pages_are_joins;
}
