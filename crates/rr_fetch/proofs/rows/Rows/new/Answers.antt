use Rattle.std.proofs.Common.{rules, arith, ◌≡◌, [], pos, sym, ◌∙◌}
use Rattle.rr_fetch.specs.LentRows.{lent_cells}
use Rattle.rr_fetch.proofs.LentRowsLemmas.{no_slots}
use Rattle.rr_fetch.proofs.rows.Rows.new.Goals as goal

pub invariant_of-result : goal.invariant_of-result
invariant_of-result g c = record {
  ends = omega arith;
  within = omega arith;
  to_come = c.new.ensures.items ∙ sym (no_slots (lent_cells (λ a. g.A.Cells.cells a.now) c.args.archive) (pos 0));
}
