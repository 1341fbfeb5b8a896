-- One field is added behind the other.
use Rattle.std.proofs.Common.{append_assoc}
use Rattle.rr_web.proofs.parts.push_place.Goals as goal

pub returns : goal.returns
returns c = simp append_assoc at (rw (c.in_ok-push_copied.ensures, c.deref.ensures.value, c.in_ok-end.ensures) at c.push_copied-2.ensures)
