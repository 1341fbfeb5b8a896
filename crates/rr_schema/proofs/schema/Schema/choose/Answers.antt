use Rattle.std.proofs.Common.{◌≡◌, sym, subst, rules}
use Rattle.rr_schema.specs.Schema.{choice}
use Rattle.rr_schema.specs.Choice.{IsChoice}
use Rattle.rr_schema.proofs.ChoiceLemmas.{choice_is_the_rule}
use Rattle.rr_schema.proofs.schema.Schema.choose.Goals as goal

pub returns-clause-rule : goal.returns-clause-rule
returns-clause-rule c =
    let s = c.args.self.now in
    let found : c.last_within.result ≡ choice s c.args.resolution = search rules in
    let layout = rw c.self.view_is at c.self.invariant in
    subst (λ r. IsChoice s c.args.resolution r) (sym found) (choice_is_the_rule s c.args.resolution layout)
