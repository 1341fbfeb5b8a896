-- One field is added behind the other.
use Rattle.std.proofs.Common.{append_assoc}
use Rattle.rr_web.proofs.response.push_for_text.Goals as goal

pub returns : goal.returns
returns c =
    simp append_assoc at (rw (c.in_ok-push_field-3.ensures, c.in_ok-push_field-2.ensures, c.in_ok-push_field.ensures, c.media_type.ensures) at c.push_policy.ensures)
