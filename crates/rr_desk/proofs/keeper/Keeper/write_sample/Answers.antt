use Rattle.std.proofs.Common.{rules}
use Rattle.rr_desk.proofs.keeper.Keeper.write_sample.Goals as goal

pub returns-in-Ok-clause-state : goal.returns-in-Ok-clause-state
returns-in-Ok-clause-state g c = search rules
