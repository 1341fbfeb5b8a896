-- delta NAME GIVER TAKER FROM COUNT
use Rattle.std.specs.Prelude.{ℕ, List, Result, Ok, ok_or}
use Rattle.std.specs.FinMap.{get}
use Rattle.rr_cluster.specs.declared.fault.CommandFault.{CommandFault}
use Rattle.rr_cluster.specs.declared.fault.CommandFault.TheVariants.{BadName, NoNode}
use Rattle.rr_text.specs.Results.{◌>>=◌, check}
use Rattle.rr_cluster.specs.Commands.Page.{place_and_count}
use Rattle.rr_cluster.specs.Model.{Model}
use Rattle.rr_cluster.specs.State.{State, with_page}
use Rattle.rr_cluster.specs.Words.{is_name}

module _ {K : Type 0} (model : Model K) where
  -- a page of what the giver has and the taker lacks; it replaces one of that name
  unfoldable pub after_delta : State K → List ℕ → List ℕ → List ℕ → List ℕ → List ℕ → Result (State K) CommandFault
  after_delta m name giver taker from count = do
    named ← check (is_name name) BadName
    g ← ok_or (get m.nodes giver) NoNode
    t ← ok_or (get m.nodes taker) NoNode
    asked ← place_and_count from count
    Ok (with_page m name (model.part_of_newer g.schema g.contents t.contents asked.0 asked.1))
