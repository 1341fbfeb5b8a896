use Rattle.rr_schema.proofs.SchemaBytesLemmas.{bytes_tell}
use Rattle.rr_schema.proofs.laws.bytes_tell_the_schema.Goals as goal

pub returns : goal.returns
returns c = bytes_tell
