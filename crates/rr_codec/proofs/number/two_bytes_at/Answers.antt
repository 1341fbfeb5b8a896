use Rattle.std.proofs.Common.{◌∙◌, sym, refl}
use Rattle.rr_codec.proofs.NumberLemmas.{two_bytes}
use Rattle.rr_codec.proofs.number.two_bytes_at.Goals as goal

pub returns : goal.returns
returns c =
    two_bytes c.in_ok-low.low.now c.in_ok-high.high.now c.args.bytes.now c.in_ok-low.rest.now c.in_ok-high.rest.now
    c.in_ok-low.ensures.cases.0 c.in_ok-high.ensures.cases.0 c.if-low-lt128.false c.if-high-ge128.false
    c.if-high-eq0.false
    ∙ sym (rw (c.from.ensures, c.from-2.ensures) refl)
