-- Digits are taken one by one, from 0 on.
use Rattle.std.proofs.Common.{rules, arith, ◌≡◌, ◌==◌, not, true, length, ◌∙◌, sym}
use Rattle.rr_text.proofs.DigitsLemmas.{with_digits-none, with_digits-whole, with_digits-number}
use Rattle.rr_text.proofs.text.number.Goals as goal

pub returns-in_err-number : goal.returns-in_err-number
returns-in_err-number c =
    let some : not (length c.args.text.now == 0) ≡ true = search rules in
    let none = with_digits-none c.loop-left.number c.loop-left.left.now (omega arith) (search rules) in
    c.from_residual.ensures ∙ sym none ∙ c.loop-left.invariant.0 ∙ with_digits-number c.args.text.now some

pub returns : goal.returns
returns c =
    let some : not (length c.args.text.now == 0) ≡ true = search rules in
    let whole = with_digits-whole c.loop-left.number c.loop-left.left.now (omega arith) c.loop-left.invariant.1 in
    sym whole ∙ c.loop-left.invariant.0 ∙ with_digits-number c.args.text.now some
