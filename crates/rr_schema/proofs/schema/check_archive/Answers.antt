use Rattle.std.proofs.Common.{rules}
use Rattle.rr_schema.proofs.schema.check_archive.Goals as goal

pub returns : goal.returns
returns c = search rules
