-- The cell model and the sample model agree: from a sound state each command does the same in both, and each script
-- prints the same.
use Rattle.std.specs.Prelude.{◌≡◌, ℕ, List, Option, IfSome}
use Rattle.std.specs.Option.{option_map}
use Rattle.rr_join.specs.Values.{map_values}
use Rattle.rr_cells.specs.Knowledge.{Knowledge}
use Rattle.rr_cells.specs.Cells.{Cells}
use Rattle.rr_cells.specs.State.{cells_of_knowledge}
use Rattle.rr_cluster.specs.Command.{Command}
use Rattle.rr_cluster.specs.Commands.{on_ok, step}
use Rattle.rr_cluster.specs.Model.{cell_model, sample_model}
use Rattle.rr_cluster.specs.Output.{output_of}
use Rattle.rr_cluster.specs.Soundness.{IsSound}
use Rattle.rr_cluster.specs.State.{Node, Snapshot, State}

-- a node, with the cells of the samples that it knows
abbrev pub node_in_cells : Node Knowledge → Node Cells
node_in_cells n = record {
  schema = n.schema;
  origin = n.origin;
  next = n.next;
  contents =
      cells_of_knowledge n.schema n.contents;
}

-- a snapshot, with the cells of the samples that it keeps
abbrev pub snapshot_in_cells : Snapshot Knowledge → Snapshot Cells
snapshot_in_cells x = record { schema = x.schema; origin = x.origin; contents = cells_of_knowledge x.schema x.contents }

-- a state, with each node, each page and each snapshot in cells
abbrev pub in_cells : State Knowledge → State Cells
in_cells m = record {
  schema = m.schema;
  clock = m.clock;
  lead = m.lead;
  nodes = map_values node_in_cells m.nodes;
  pages = map_values (cells_of_knowledge m.schema) m.pages;
  snapshots = map_values snapshot_in_cells m.snapshots;
  origins = m.origins;
  world = m.world;
}

-- a state in cells, if the schema is set, with what is printed
abbrev pub step_in_cells : Option (State Knowledge) × List ℕ → Option (State Cells) × List ℕ
step_in_cells done = (option_map in_cells done.0, done.1)

-- from a sound state each command does the same, whether its samples are turned into cells before or after the command
abbrev pub CommandsAgree : Type 0
CommandsAgree = (m : Option (State Knowledge)) (command : Command) → IfSome m IsSound
    → step cell_model (option_map in_cells m) command ≡ on_ok step_in_cells (step sample_model m command)

-- so each script prints the same
abbrev pub ScriptsAgree : Type 0
ScriptsAgree = (script : List ℕ) → output_of cell_model script ≡ output_of sample_model script
