use Rattle.std.proofs.Common.{◌+◌, arith}
use Rattle.rr_packed.proofs.packed_rows.PackedRowsRows.rows_on.Goals as goal

pub returns : goal.returns
returns c = record {
  at_least_one = λ most. c.next_on.ensures.some;
  at_most = let within = c.next_on.ensures.within in omega arith;
  empty = λ i some h. c.args.self.now.masked (c.args.number.value + i) (c.next_on.ensures.unset i some h);
}
