use Rattle.std.proofs.Common.{rules}
use Rattle.rr_schema.proofs.schema.whole_spans.Goals as goal

pub returns : goal.returns
returns c = search rules
