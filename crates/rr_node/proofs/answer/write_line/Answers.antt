use Rattle.std.proofs.Common.{◌≡◌, Ok}
use Rattle.rr_line.specs.declared.line.Line.TheVariants as line
use Rattle.rr_node.proofs.RefusalLemmas.{takes_nothing, takes_refusal}
use Rattle.rr_node.proofs.answer.write_line.Goals as goal

pub returns-in-Ok-Nothing-clause-handled : goal.returns-in-Ok-Nothing-clause-handled
returns-in-Ok-Nothing-clause-handled g c =
    let is : c.parse_line.result ≡ Ok line.Nothing = cc in
    takes_nothing c.args.rules c.args.line.now c.args.keeper.now _ (rw is at c.parse_line.ensures.read)

pub returns-in-Err-clause-handled : goal.returns-in-Err-clause-handled
returns-in-Err-clause-handled g c =
    takes_refusal c.args.rules c.args.line.now c.args.keeper.now _ c.in-Err.fault c.refusal.result
    (rw c.in-Err.is at c.parse_line.ensures.read) c.refusal.ensures
