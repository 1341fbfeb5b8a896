use Rattle.std.proofs.Common.{rules}
use Rattle.rr_archive.proofs.entries.Entries.restart.Goals as goal

pub returns-in_default-push : goal.returns-in_default-push
returns-in_default-push c = search rules
