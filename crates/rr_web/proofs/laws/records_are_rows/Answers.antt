use Rattle.rr_web.proofs.JsonRowsLemmas.{records_are_rows}
use Rattle.rr_web.proofs.laws.records_are_rows.Goals as goal

pub returns : goal.returns
returns c = records_are_rows
