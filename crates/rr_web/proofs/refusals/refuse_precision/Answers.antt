use Rattle.rr_web.proofs.refusals.refuse_precision.Goals as goal

pub returns : goal.returns
returns c =
    rw (c.deref.ensures.value, c.in_ok-extend_from_slice.ensures.items, c.in_ok-why.ensures.items, c.as_bytes.ensures.value, c.name.ensures) at c.error_reply.ensures
