-- deliver NAME NODE
use Rattle.std.specs.Prelude.{ℕ, List, Result, Ok, ok_or}
use Rattle.std.specs.FinMap.{get, insert}
use Rattle.rr_cluster.specs.declared.fault.CommandFault.{CommandFault}
use Rattle.rr_cluster.specs.declared.fault.CommandFault.TheVariants.{NoPage, NoNode}
use Rattle.rr_text.specs.Results.{◌>>=◌}
use Rattle.rr_cluster.specs.Model.{Model}
use Rattle.rr_cluster.specs.State.{State}

module _ {K : Type 0} (model : Model K) where
  unfoldable pub after_deliver : State K → List ℕ → List ℕ → Result (State K) CommandFault
  after_deliver m name node = do
    page ← ok_or (get m.pages name) NoPage
    n ← ok_or (get m.nodes node) NoNode
    Ok (record m { nodes = insert m.nodes node (model.with_page n page) })
