-- One family is added behind the other.
use Rattle.std.proofs.Common.{append_assoc}
use Rattle.rr_web.proofs.process.push_process.Goals as goal

pub returns : goal.returns
returns c =
    simp append_assoc at
    (rw (c.in_ok-push_optional.ensures, c.whole-started.ensures, c.whole-resident.ensures) at c.push_optional-2.ensures)
