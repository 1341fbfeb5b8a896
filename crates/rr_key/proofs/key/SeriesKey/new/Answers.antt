use Rattle.std.proofs.Common.{sym, ◌∙◌}
use Rattle.rr_key.specs.Making.{names_of}
use Rattle.rr_key.proofs.MakingLemmas.{IsKeyText-made, made_of}
use Rattle.rr_key.proofs.key.SeriesKey.new.Goals as goal

pub of_text-requires : goal.of_text-requires
of_text-requires c =
    let names = names_of c.args.measurement.now c.args.tags.now c.args.field.now in
    let made = made_of names c.in_ok-text.text.items c.in_ok-text.ensures.made in
    IsKeyText-made names _ made.0 (c.deref.ensures.value ∙ sym made.1)

pub returns-clause-grammar : goal.returns-clause-grammar
returns-clause-grammar c =
    let names = names_of c.args.measurement.now c.args.tags.now c.args.field.now in
    let made = made_of names c.in_ok-text.text.items c.in_ok-text.ensures.made in
    IsKeyText-made names _ made.0 (c.in_ok-key.ensures ∙ c.deref.ensures.value ∙ sym made.1)
