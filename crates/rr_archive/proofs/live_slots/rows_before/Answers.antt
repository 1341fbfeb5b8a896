use Rattle.std.proofs.Common.{rules}
use Rattle.rr_archive.proofs.live_slots.rows_before.Goals as goal

pub returns-clause-before : goal.returns-clause-before
returns-clause-before c = search rules
