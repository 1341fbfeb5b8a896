use Rattle.rr_fetch.proofs.RowEntries.{row_holds}
use Rattle.rr_fetch.proofs.laws.held_rows_are_rows.Goals as goal

pub returns : goal.returns
returns c = λ h key archive slot is. row_holds h is key archive slot
