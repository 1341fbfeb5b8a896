use Rattle.std.proofs.Common.{rules}
use Rattle.rr_archive.proofs.change.with_sample.Goals as goal

pub returns-in-Some : goal.returns-in-Some
returns-in-Some c = search rules
