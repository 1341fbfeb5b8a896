-- How a round of a keeper goes: the lines of a connection, the pulls from all peers, and a save.
use Rattle.std.specs.Prelude.{◌≡◌, ◌⊎◌, ℕ, ℤ, Bool, true, false, List, [], ◌∷◌, ◌++◌, map, Option, None, Some, Result, Ok, Err, IfOk, IfErr, OnErr, if◌then◌else◌}
use Rattle.std.specs.String.{string_bytes}
use Rattle.std.specs.FinMap.{len}
use Rattle.rr_cells.specs.Listing.{at_most_usize}
use Rattle.rr_desk.specs.KeeperState.{KeeperState, cells_of}
use Rattle.rr_desk.specs.PastHorizon.{past_horizon_of}
use Rattle.rr_config.specs.declared.config.Config.{Config}
use Rattle.rr_node.specs.declared.fault.NodeFault.{NodeFault}
use Rattle.rr_node.specs.declared.report.Report.{Report}
use Rattle.rr_node.specs.declared.rules.Rules.{Rules}
use Rattle.rr_host.specs.Calls.{DialCall}
use Rattle.rr_host.specs.Streams.{Stream}
use Rattle.rr_node.specs.declared.round.Lines.{Lines}
use Rattle.rr_node.specs.declared.round.Lines.TheVariants as lines
use Rattle.rr_node.specs.Fault.{IsOfLines, IsInputFault, IsToBlame, is_memory}
use Rattle.rr_node.specs.Shelf.{ShelfCall, counts, past_horizon, pulled, taken}
use Rattle.rr_node.specs.Lines.{Run, IsServed, HasServedWhole, HasStopped, rules_of}
use Rattle.rr_node.specs.Peers.{EndsPulls}
use Rattle.rr_node.specs.Saving.{EndsSave}
use Rattle.rr_host.specs.Visits.{Call, Failed, Gave, Over, TookBack}

-- what came, or none after a fault
abbrev pub came_in : {A F : Type 0} → Result A F → Option A
came_in (Ok came) = Some came
came_in (Err fault) = None

-- what came of a connection, by what became of its lines: its report, if they were served to the end; and memory alone
-- ends the round
abbrev pub going_on : Result Report NodeFault → Option Lines
going_on (Ok report) = Some (lines.Taken (Some report))
going_on (Err fault) = if is_memory fault then None else Some (lines.Taken None)

-- the keeper and the clock, before a connection and after it, and its stream
abbrev pub run_of : KeeperState → KeeperState → Option (List ℤ) → Option (List ℤ) → Stream → Stream → Run
run_of old new given since before after = record {
  old = old;
  new = new;
  given = given;
  given_since = since;
  input = before.input.left;
  left = after.input.left;
  written = before.output.written;
  written_since = after.output.written;
}

-- the lines of a connection were served to the end, or up to a fault; the round goes on unless that is Memory
pub record EndsConnection (rules : Rules) (run : Run) (before after : Stream) (came : Option Lines) : Type 0 where
  pub result : Result Report NodeFault
  pub served : IfOk result (IsServed rules run)
  pub stopped : OnErr result (HasStopped rules run)
  pub at_once : IfErr result (λ fault. IsInputFault fault → HasServedWhole rules run)
  pub faults : IfErr result IsOfLines
  pub blamed : IfErr result (IsToBlame before after)
  pub going : came ≡ going_on result

-- the next connection: none will come; or it failed; or it is handed back when its lines are served
abbrev pub EndsLines : Config → Option Lines → KeeperState → KeeperState → Option (List ℤ) → Option (List ℤ) → List Call
    → Type 0
EndsLines config came old new given since calls =
    ((calls ≡ Over ∷ []) × (came ≡ Some lines.Over) × (new ≡ old) × (since ≡ given))
    ⊎ ((calls ≡ Failed ∷ []) × (came ≡ Some (lines.Taken None)) × (new ≡ old) × (since ≡ given))
    ⊎ ((before after : Stream) × (calls ≡ Gave before ∷ TookBack after ∷ [])
    × EndsConnection (rules_of config.precision config.lead) (run_of old new given since before after) before after
    came)

-- the addresses of the peers
abbrev pub peers_of : Config → List (List ℕ)
peers_of config = map string_bytes config.peers.items

-- after the pulls, a shelf is told how many samples no archive kept, and that the pulls are over, with the number of
-- cells if it wants that
abbrev pub end_of_pulls : KeeperState → Bool → List ShelfCall
end_of_pulls k wanted =
    past_horizon (past_horizon_of k) ∷ counts wanted
    ∷ pulled (if wanted then Some (at_most_usize (len (cells_of k))) else None) ∷ []

-- the pulls from all peers, whose end it is told, and then a save; memory may run out in either
abbrev pub EndsRest : Config → Option Bool → KeeperState → KeeperState → List DialCall → List ShelfCall → Type 0
EndsRest config came old new dialed shelved =
    ((came ≡ None) × EndsPulls false 1 (peers_of config) old new dialed shelved)
    ⊎ ((reported saved : List ShelfCall) × (wanted : Bool) × EndsPulls true 1 (peers_of config) old new dialed reported
    × (((came ≡ Some true) × EndsSave true new saved) ⊎ ((came ≡ None) × EndsSave false new saved))
    × (shelved ≡ reported ++ (end_of_pulls new wanted ++ saved)))

-- a whole round: if no connection will come, or if memory ran out in one, there is nothing else; otherwise the shelf is
-- told the connection's report first
abbrev pub EndsRound : Config → Option Bool → KeeperState → KeeperState → Option (List ℤ) → Option (List ℤ) → List Call
    → List DialCall → List ShelfCall → Type 0
EndsRound config came old new given since calls dialed shelved =
    ((((came ≡ Some false) × EndsLines config (Some lines.Over) old new given since calls)
    ⊎ ((came ≡ None) × EndsLines config None old new given since calls)) × (dialed ≡ []) × (shelved ≡ []))
    ⊎ ((mid : KeeperState) × (report : Option Report) × (rest : List ShelfCall)
    × EndsLines config (Some (lines.Taken report)) old mid given since calls × EndsRest config came mid new dialed rest
    × (shelved ≡ taken report ∷ rest))
