use Rattle.std.proofs.Common.{◌≡◌, length, rules, Result, subst, sym, ◌∙◌}
use Rattle.std.specs.Vec.{vec_len}
use Rattle.rr_text.specs.Results.{Gives}
use Rattle.rr_config.specs.declared.fault.ConfigFault.{ConfigFault}
use Rattle.rr_config.specs.Origins.{RangeView, range_view}
use Rattle.rr_config.proofs.RangeLemmas.{of_others, of_two}
use Rattle.rr_config.proofs.value.range_in.Goals as goal

pub returns-then-len-ne2 : goal.returns-then-len-ne2
returns-then-len-ne2 c =
    let len : vec_len c.args.values.now ≡ length c.args.values.now.items = search rules in
    of_others c.args.values.now.items (λ two. c.if-len-ne2.true (c.len.ensures ∙ len ∙ two))

pub returns : goal.returns
returns c =
    let len : vec_len c.args.values.now ≡ length c.args.values.now.items = search rules in
    let two : length c.args.values.now.items ≡ 2 = sym len ∙ sym c.len.ensures ∙ c.if-len-ne2.false in
    subst (λ (answer : Result RangeView ConfigFault). Gives range_view c.range_between.result answer)
    (sym (of_two c.args.values.now.items c.index.result.now c.index-2.result.now two c.index.ensures c.index-2.ensures))
    c.range_between.ensures
