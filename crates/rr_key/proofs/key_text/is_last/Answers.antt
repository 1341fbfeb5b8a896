use Rattle.std.proofs.Common.{sym, ◌∙◌}
use Rattle.rr_key.proofs.KeyTextLemmas.{last_is, no_last}
use Rattle.rr_key.proofs.key_text.is_last.Goals as goal

pub returns-in-Some-split_name : goal.returns-in-Some-split_name
returns-in-Some-split_name c =
    let stands = last_is c.args.left.now c.in-Some.field.now c.in-Some-split_name.field-0-0.now
    c.in-Some-split_name.rest.now (sym c.in-Some.ensures) (sym c.in-Some-split_name.ensures) in
    (λ t. stands.0 (sym c.is_empty.ensures ∙ t), λ l. c.is_empty.ensures ∙ stands.1 l)

pub returns-in-None : goal.returns-in-None
returns-in-None c = (
  λ t. absurd cc,
  λ l. absurd (no_last c.args.left.now c.in-Some.field.now (sym c.in-Some.ensures)
      (sym c.in-None.ensures) l),
)
