use Rattle.std.proofs.Common.{arith}
use Rattle.rr_codec.proofs.steps.flags_of.Goals as goal

pub flagged-requires : goal.flagged-requires
flagged-requires c = omega (
  arith,
  c.flagged-flags.ensures.small,
  c.flagged-flags-2.ensures.small,
  c.flagged-flags-3.ensures.small,
  c.flagged-flags-4.ensures.small,
  c.flagged-flags-5.ensures.small,
  c.flagged-flags-6.ensures.small,
  c.flagged-flags-7.ensures.small,
  c.flagged-flags-8.ensures.small,
  c.flagged-flags-9.ensures.small,
  c.flagged-flags-10.ensures.small,
)
