use Rattle.std.proofs.Common.{rules, arith, ◌≡◌, to_z, of_z, w64, sym, ◌∙◌}
use Rattle.rr_fetch.specs.LentRows.{lent_cells}
use Rattle.rr_fetch.proofs.LentRowsLemmas.{run_or_none}
use Rattle.rr_fetch.proofs.rows.Rows.seek.Goals as goal

pub invariant_of-self : goal.invariant_of-self
invariant_of-self g c =
    let slot : to_z w64 (of_z w64 c.args.slot) ≡ c.args.slot = search rules in
    record {
      ends = omega arith;
      within = omega arith;
      to_come = rw slot (rw c.unwrap_or-self.ensures
          (run_or_none (lent_cells (λ a. g.A.Cells.cells a.now) c.args.self.now.archive) c.args.slot
          c.run_into-read.new.run.items c.run_into-read.result
          (rw slot at c.run_into-read.ensures.written) c.run_into-read.ensures.emptied));
    }
