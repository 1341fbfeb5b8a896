use Rattle.std.proofs.Common.{◌≡◌, ◌∙◌, ap}
use Rattle.rr_codec.specs.declared.fields.Fields.{Fields}
use Rattle.rr_codec.specs.Recent.{KnownState}
use Rattle.rr_codec.specs.Expecting.{fields_from}
use Rattle.rr_codec.specs.Regular.{all_steps}
use Rattle.rr_codec.proofs.RegularLemmas.{fields_known}
use Rattle.rr_codec.proofs.recent.Known.regular_fields_at.Goals as goal

pub returns : goal.returns
returns c =
    let k = c.args.self.now in
    let b = c.in_ok-before.before.now in
    let r = c.in_ok-steps.steps in
    let is : c.fields_from.result ≡ fields_from k.span b (all_steps r).fields = c.fields_from.ensures.fields
    ∙ ap (λ (k : KnownState). fields_from k.span b c.fields.result) c.self.view_is
    ∙ ap (fields_from k.span b) c.fields.ensures in
    let none : c.fields.result.origin ≡ 0 = ap (λ (f : Fields). f.origin) c.fields.ensures in
    fields_known k b r c.fields_from.result c.args.bytes.now c.in_ok-steps.rest.now c.in_ok-before.ensures is
    (c.fields_from.ensures.origin none) c.in_ok-steps.ensures
