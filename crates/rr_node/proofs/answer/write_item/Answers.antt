use Rattle.std.proofs.Common.{[], refl, inl}
use Rattle.rr_host.proofs.ClockLemmas.{HasGiven-nil}
use Rattle.rr_node.proofs.answer.write_item.Goals as goal

pub returns-in-TooLong-clause-handled : goal.returns-in-TooLong-clause-handled
returns-in-TooLong-clause-handled g c = rw c.in-TooLong.is
    (record { asked = []; gave = HasGiven-nil _; taken = inl (refl, (refl, refl)); count_fits = tt })
