use Rattle.std.proofs.Common.{◌≡◌, ℕ, List, Result, Ok, Err}
use Rattle.std.specs.Prelude.{IfOk}
use Rattle.std.specs.Global.{Vec}
use Rattle.rr_cluster.specs.declared.fault.RunFault.{RunFault}
use Rattle.rr_cluster.specs.Model.{cell_model, sample_model}
use Rattle.rr_cluster.specs.Output.{IsOutput, output_of}
use Rattle.rr_cluster.proofs.running.run.Goals as goal

by_cells : (script : List ℕ) (r : Result (Vec ℕ) RunFault) → IfOk r (λ text. IsOutput script text.items)
    → IfOk r (λ text. text.items ≡ output_of cell_model script)
by_cells script (Ok text) is = is.cells
by_cells script (Err fault) is = tt

by_samples : (script : List ℕ) (r : Result (Vec ℕ) RunFault) → IfOk r (λ text. IsOutput script text.items)
    → IfOk r (λ text. text.items ≡ output_of sample_model script)
by_samples script (Ok text) is = is.samples
by_samples script (Err fault) is = tt

pub returns-clause-cells : goal.returns-clause-cells
returns-clause-cells c = by_cells c.args.script.now c.run_on.result c.run_on.ensures

pub returns-clause-samples : goal.returns-clause-samples
returns-clause-samples c = by_samples c.args.script.now c.run_on.result c.run_on.ensures
