use Rattle.std.proofs.Common.{rules}
use Rattle.rr_process.proofs.streams.read_script.Goals as goal

pub returns-clause-read : goal.returns-clause-read
returns-clause-read g c = search rules
