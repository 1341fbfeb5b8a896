use Rattle.rr_codec.proofs.RegularLemmas.{regular_read}
use Rattle.rr_codec.proofs.regular.regular_at.Goals as goal

pub returns : goal.returns
returns c =
    regular_read c.in_ok-flags.flags c.in_ok-last_value.flags c.in_ok-version.flags c.in_ok-last_time.flags
    c.in_ok-min.flags c.in_ok-max.flags c.in_ok-sum.field-0-1 c.in_ok-flags.rest.now c.in_ok-last_value.rest.now
    c.in_ok-version.rest.now c.in_ok-last_time.rest.now c.in_ok-min.rest.now c.in_ok-max.rest.now c.in_ok-sum.rest.now
    c.args.bytes.now _ c.if-flags-ge-ABOVE_REGULAR.false
    c.in_ok-last_value.ensures.flags c.in_ok-version.ensures.flags c.in_ok-last_time.ensures.flags
    c.in_ok-min.ensures.flags c.in_ok-max.ensures.flags c.in_ok-sum.ensures.flags
    c.in_ok-flags.ensures.read c.in_ok-last_value.ensures.read c.in_ok-version.ensures.read
    c.in_ok-last_time.ensures.read c.in_ok-min.ensures.read c.in_ok-max.ensures.read c.in_ok-sum.ensures.read
