use Rattle.std.proofs.Common.{sym, arith}
use Rattle.rr_key.proofs.KeyTextLemmas.{found_key_text, key_text_found, no_key_text}
use Rattle.rr_key.proofs.key_text.is_key_text.Goals as goal

pub returns-in-Some : goal.returns-in-Some
returns-in-Some c =
    let text = c.args.text.now in (
      λ t. found_key_text text c.in-Some.field-0-0.now c.in-Some.tail.now (omega arith) (sym c.in-Some.ensures)
          (c.is_tail.ensures.0 t),
      λ k. c.is_tail.ensures.1 (key_text_found text c.in-Some.field-0-0.now c.in-Some.tail.now (sym c.in-Some.ensures)
          k),
    )

pub returns-in-None : goal.returns-in-None
returns-in-None c = (λ t. absurd cc, λ k. absurd (no_key_text c.args.text.now (sym c.in-None.ensures) k))
