use Rattle.std.proofs.Common.{◌≡◌, ◌++◌, drop, map, Option}
use Rattle.rr_cells.specs.Cells.{Cells}
use Rattle.rr_cluster.specs.Meaning.{OptionRepresents}
use Rattle.rr_cluster.specs.Model.{cell_model}
use Rattle.rr_cluster.specs.Output.{output_from, output_of}
use Rattle.rr_cluster.specs.Script.{line_view}
use Rattle.rr_cluster.specs.State.{State}
use Rattle.rr_cluster.proofs.running.run_on.Given as goal

-- the cluster represents a state from which the lines that are left print the rest of the output
abbrev pub invariant-loop-line : goal.invariant-loop-line
invariant-loop-line g l =
    (m : Option (State Cells)) × OptionRepresents l.cluster m
    × (l.text.items ++ output_from cell_model m (map line_view (drop l.line-index l.line-items))
    ≡ output_of cell_model l.script)
