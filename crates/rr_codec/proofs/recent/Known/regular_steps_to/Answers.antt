use Rattle.std.proofs.Common.{◌∙◌, sym, ap}
use Rattle.rr_codec.specs.Recent.{KnownState}
use Rattle.rr_codec.specs.Expecting.{steps_to}
use Rattle.rr_codec.proofs.RegularLemmas.{steps_known}
use Rattle.rr_codec.proofs.recent.Known.regular_steps_to.Goals as goal

pub returns : goal.returns
returns c =
    let k = c.args.self.now in
    let b = c.in_ok-before.before.now in
    let f = c.args.cell.now in
    steps_known k b f c.in_ok-steps.steps c.in_ok-before.ensures c.in_ok-steps.ensures.origin
    (ap (λ (k : KnownState). steps_to k.span b f) (sym c.self.view_is) ∙ c.in_ok-steps.ensures.steps)
