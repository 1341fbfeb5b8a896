-- Connections and pulls that are over: their streams were given and handed back.
use Rattle.std.proofs.Common.{◌≡◌, ℕ, ℤ, List, [], ◌∷◌, Option, Some, Result, Err, refl, inr}
use Rattle.std.specs.Prelude.{IfOk, IfErr, OnErr}
use Rattle.rr_desk.specs.KeeperState.{KeeperState}
use Rattle.rr_config.specs.declared.config.Config.{Config}
use Rattle.rr_gossip.specs.declared.fault.GossipFault.{GossipFault}
use Rattle.rr_host.specs.Calls.{DialCall, Grows, due, handed_back, reached}
use Rattle.rr_host.specs.Streams.{Stream}
use Rattle.rr_host.specs.Visits.{Call, Gave, HasCalled, TookBack}
use Rattle.rr_host.proofs.CallsLemmas.{grows_on}
use Rattle.rr_host.proofs.VisitsLemmas.{called_more}
use Rattle.rr_node.specs.declared.fault.NodeFault.{NodeFault}
use Rattle.rr_node.specs.declared.report.Report.{Report}
use Rattle.rr_node.specs.declared.round.Lines.{Lines}
use Rattle.rr_node.specs.Fault.{IsOfLines, IsInputFault, of_session_fault}
use Rattle.rr_node.specs.Lines.{HasServedWhole, HasStopped, IsServed, rules_of}
use Rattle.rr_node.specs.Peers.{EndsPull}
use Rattle.rr_node.specs.Pull.{HasStoppedPulling}
use Rattle.rr_node.specs.Round.{EndsLines, going_on, run_of}
use Rattle.rr_node.proofs.BlameLemmas.{LinesTell, SessionTells, lines_blamed, session_blamed}

-- the lines of a connection, whatever ended them
pub lines_over : (config : Config) (result : Result Report NodeFault) (came : Option Lines) (a b c : Option (List Call))
    (before after : Stream) (old new : KeeperState) (given since : Option (List ℤ))
    → HasCalled a b (Gave before ∷ []) → HasCalled b c (TookBack after ∷ [])
    → IfOk result (IsServed (rules_of config.precision config.lead) (run_of old new given since before after))
    → OnErr result (HasStopped (rules_of config.precision config.lead) (run_of old new given since before after))
    → IfErr result (λ fault. IsInputFault fault
    → HasServedWhole (rules_of config.precision config.lead) (run_of old new given since before after))
    → LinesTell result before after → IfErr result IsOfLines → came ≡ going_on result
    → (calls : List Call) × HasCalled a c calls × EndsLines config came old new given since calls
lines_over config result came a b c before after old new given since gave took served stopped at_once tell faults going
    = (
      Gave before ∷ TookBack after ∷ [],
      called_more a b c (Gave before ∷ []) (TookBack after ∷ []) gave took,
      inr (inr (
        before,
        after,
        refl,
        record {
          result = result;
          served = served;
          stopped = stopped;
          at_once = at_once;
          faults = faults;
          blamed =
              lines_blamed result before after tell faults;
          going = going;
        },
      )),
    )

-- a pull that a fault of its session ended
pub pull_over : (address : List ℕ) (why : GossipFault) (a b c : Option (List DialCall)) (before after : Stream)
    (old new : KeeperState)
    → Grows a b (due address ∷ reached address before ∷ []) → Grows b c (handed_back after ∷ [])
    → SessionTells {X = Unit {0}} (Err why) (λ fault. fault) before after
    → HasStoppedPulling old new before.input.left after.input.left before.output.written after.output.written why
    → (dialed : List DialCall) × Grows a c dialed × EndsPull address old new dialed (Some (of_session_fault why))
pull_over address why a b c before after old new opened back tell stopped = (
  due address ∷ reached address before ∷ handed_back after ∷ [],
  grows_on a b c (due address ∷ reached address before ∷ []) (handed_back after ∷ []) opened back,
  inr (inr (before, after, refl, (why, refl, session_blamed why before after tell, stopped))),
)
