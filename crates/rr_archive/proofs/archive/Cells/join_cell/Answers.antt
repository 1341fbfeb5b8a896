use Rattle.std.proofs.Common.{rules, ◌∙◌}
use Rattle.std.proofs.lemmas.Result.{on_ok_weaker}
use Rattle.std.proofs.Math.Facts.{to_z-of_z}
use Rattle.std.specs.Int.{w64}
use Rattle.rr_archive.specs.CellSlots.{cell_slot}
use Rattle.rr_archive.proofs.Counting.{join_cell-is}
use Rattle.rr_archive.proofs.archive.Cells.join_cell.Goals as goal

pub returns : goal.returns
returns g c = record {
  taken =
      let back = to_z-of_z {w = w64} {z = c.args.slot} (search rules) in
      let ok = rw back at c.change.ensures.taken in
      on_ok_weaker c.change.result (λ e. e ∙ join_cell-is (g.Self.Cells.row_limit c.args.self.now)
      (g.Self.Cells.cells c.args.self.now) (cell_slot c.args.slot c.args.origin) c.args.contribution.now) ok;
  dead = search rules;
  unchanged = search rules;
  limit = search rules;
  room = search rules;
}
