use Rattle.rr_nodes.proofs.SessionsLemmas as sessions
use Rattle.rr_nodes.proofs.laws.cut_sessions_are_deeds.Goals as goal

pub returns : goal.returns
returns c = record {
  bytes = sessions.cut_sessions_bring_a_prefix;
  silent =
      sessions.silent_sessions_bring_nothing;
  keeper = sessions.cut_pull_is_deeds;
  calls = sessions.cut_pulls_are_joins;
}
