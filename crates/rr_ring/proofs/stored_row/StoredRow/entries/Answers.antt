use Rattle.std.proofs.Common.{rules}
use Rattle.rr_ring.proofs.stored_row.StoredRow.entries.Goals as goal

pub returns-else-self-slot : goal.returns-else-self-slot
returns-else-self-slot c = search rules
