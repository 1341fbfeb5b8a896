use Rattle.std.proofs.Common.{rules}
use Rattle.rr_packed.proofs.blocks.Blocks.starts_before.Goals as goal

pub returns-in-Some : goal.returns-in-Some
returns-in-Some c = search rules
