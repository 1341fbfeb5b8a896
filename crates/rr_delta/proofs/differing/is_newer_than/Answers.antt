use Rattle.std.proofs.Common.{rules}
use Rattle.rr_delta.proofs.differing.is_newer_than.Goals as goal

pub returns-in-Some : goal.returns-in-Some
returns-in-Some c = search rules
