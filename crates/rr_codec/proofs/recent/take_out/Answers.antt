use Rattle.std.proofs.Common.{take, sym, ap, ◌∙◌, arith}
use Rattle.std.proofs.lemmas.List.{take_all}
use Rattle.rr_codec.proofs.recent.take_out.Goals as goal

pub returns-then-place-len : goal.returns-then-place-len
returns-then-place-len c =
    sym (take_all 15 c.remove.new.self.items
    (omega (arith, c.remove.ensures.len, c.len.ensures.value, c.len.ensures.fits)))
    ∙ ap (take 15) c.remove.ensures.items
