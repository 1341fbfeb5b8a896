use Rattle.std.proofs.Common.{rules, ◌≡◌, Some, slice_get}
use Rattle.rr_replica.proofs.NumberedLemmas.{knows_at}
use Rattle.rr_replica.proofs.replica.Replica.apply_numbered.Goals as goal

pub returns-in_ok-apply_cell-in-Join : goal.returns-in_ok-apply_cell-in-Join
returns-in_ok-apply_cell-in-Join g c =
    let at : slice_get c.args.self.now.keys c.args.series ≡ Some c.in-Join.cell.key = search rules in
    record {
      state = search rules;
      keys = c.apply_cell.ensures.keys (knows_at c.args.self.now.keys c.args.series c.in-Join.cell.key at);
      room = search rules;
    }

pub returns-in_err-apply_cell-in-Join : goal.returns-in_err-apply_cell-in-Join
returns-in_err-apply_cell-in-Join g c =
    let at : slice_get c.args.self.now.keys c.args.series ≡ Some c.in-Join.cell.key = search rules in
    record {
      state = search rules;
      keys = c.apply_cell.ensures.keys (knows_at c.args.self.now.keys c.args.series c.in-Join.cell.key at);
      room = search rules;
    }
