use Rattle.std.proofs.Common.{List, ℕ, ◌++◌, ap, ◌∙◌, sym, arith}
use Rattle.rr_codec.proofs.NumberLemmas.{text_last}
use Rattle.rr_codec.proofs.number.push_number.Goals as goal

pub returns-then-number-lt128 : goal.returns-then-number-lt128
returns-then-number-lt128 c =
    c.in_ok-push.ensures.items
    ∙ ap (λ (l : List ℕ). c.args.bytes.now.items ++ l)
    (sym (text_last 19 c.args.number (omega arith) c.if-number-lt128.true))
