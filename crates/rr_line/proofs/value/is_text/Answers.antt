use Rattle.std.proofs.Common.{refl, sym}
use Rattle.rr_key.proofs.Walk.{rest_is}
use Rattle.rr_line.proofs.value.is_text.Goals as goal

pub returns-in-Some : goal.returns-in-Some
returns-in-Some c = rw (c.value_len.ensures.value, sym (rw rest_is at c.in-Some.ensures)) refl

pub returns-in-None : goal.returns-in-None
returns-in-None c = rw (sym (rw rest_is at c.in-None.ensures)) refl
