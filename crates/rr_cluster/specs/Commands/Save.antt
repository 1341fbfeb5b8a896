-- save NAME NODE
use Rattle.std.specs.Prelude.{ℕ, nat_le, List, length, Result, Ok, ok_or}
use Rattle.std.specs.FinMap.{get, insert, entries}
use Rattle.rr_snapshot.specs.declared.fault.SaveFault.TheVariants.{TooManyCells}
use Rattle.rr_snapshot.specs.declared.heading.TheConstants.{MAX_SNAPSHOT_CELLS}
use Rattle.rr_cluster.specs.declared.fault.CommandFault.{CommandFault}
use Rattle.rr_cluster.specs.declared.fault.CommandFault.TheVariants.{BadName, NoNode, Save}
use Rattle.rr_text.specs.Results.{◌>>=◌, check}
use Rattle.rr_cluster.specs.Model.{Model}
use Rattle.rr_cluster.specs.State.{Node, Snapshot, State}
use Rattle.rr_cluster.specs.Words.{is_name}

module _ {K : Type 0} (model : Model K) where
  -- the snapshot of a node
  abbrev pub snapshot_of : Node K → Snapshot K
  snapshot_of n = record { schema = n.schema; origin = n.origin; contents = model.kept n.schema n.contents }

  -- a snapshot replaces one of that name
  unfoldable pub after_save : State K → List ℕ → List ℕ → Result (State K) CommandFault
  after_save m name node = do
    named ← check (is_name name) BadName
    n ← ok_or (get m.nodes node) NoNode
    few ← check (nat_le (length (entries (model.cells n.schema n.contents))) MAX_SNAPSHOT_CELLS) (Save TooManyCells)
    Ok (record m { snapshots = insert m.snapshots name (snapshot_of n) })
