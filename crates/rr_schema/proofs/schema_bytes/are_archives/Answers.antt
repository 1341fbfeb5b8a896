use Rattle.std.proofs.Common.{true≢false, sym}
use Rattle.rr_schema.proofs.AfterLemmas.{not_missing}
use Rattle.rr_schema.proofs.schema_bytes.are_archives.Goals as goal

pub returns-in-None : goal.returns-in-None
returns-in-None c = ((λ t. absurd (true≢false (sym t))), λ e. absurd (not_missing c.in-None.ensures e))
