use Rattle.std.proofs.Common.{◌≡◌, ℕ, List, ◌++◌, Result, Err, refl, rules}
use Rattle.std.specs.Global.{Vec}
use Rattle.rr_cluster.specs.declared.fault.CommandFault.{CommandFault}
use Rattle.rr_cluster.specs.declared.stop.Stop.{Stop}
use Rattle.rr_cluster.specs.declared.stop.Stop.TheVariants.{Refused, Memory}
use Rattle.rr_cluster.specs.Stop.{Gives, Matches}
use Rattle.rr_cluster.proofs.commands.print.Goals as goal

-- without an answer nothing is printed
not_printed : (stop : Stop) (due : Result (List ℕ) CommandFault) (text : List ℕ)
    → Gives (λ (parsed : Vec ℕ). parsed.items) (Err stop) due
    → Matches {A = Unit {0}} (λ _ parsed. text ≡ text ++ parsed) (text ≡ text) (Err stop) due
not_printed (Refused fault) due text gives = (gives, refl)
not_printed Memory due text gives = tt

pub returns-in-Err : goal.returns-in-Err
returns-in-Err c = λ due gives. not_printed c.in-Err.stop due c.args.text.now.items (rw c.in-Err.is at gives)

pub returns-in_ok-extend_from_slice-in-Ok : goal.returns-in_ok-extend_from_slice-in-Ok
returns-in_ok-extend_from_slice-in-Ok c = λ due gives.
    let answer = c.in-Ok.answer.items in
    let text : c.extend_from_slice.new.self.items ≡ c.args.text.now.items ++ answer = search rules in
    (answer, rw c.in-Ok.is at gives, text)
