use Rattle.rr_cells.proofs.Writes.{nothing_is_closed, writer_stays_closed, writer_holds_own, others_stay_closed, others_hold_own, union_is_closed, union_holds_own}
use Rattle.rr_cells.proofs.laws.knowledge.knowledge_stays_closed.Goals as goal

pub returns : goal.returns
returns c = record {
  nothing = nothing_is_closed;
  writer = writer_stays_closed;
  writer_holds_own = writer_holds_own;
  others = others_stay_closed;
  others_hold_own = others_hold_own;
  united = union_is_closed;
  union_holds_own = union_holds_own;
}
