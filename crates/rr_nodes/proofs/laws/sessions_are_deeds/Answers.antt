use Rattle.rr_nodes.proofs.SessionsLemmas as sessions
use Rattle.rr_nodes.proofs.laws.sessions_are_deeds.Goals as goal

pub returns : goal.returns
returns c = record {
  bytes = sessions.sessions_bring_what_is_lacking;
  deeds = sessions.sessions_are_deeds;
  keeper =
      sessions.pull_is_deeds;
  calls = sessions.pulls_are_joins;
}
