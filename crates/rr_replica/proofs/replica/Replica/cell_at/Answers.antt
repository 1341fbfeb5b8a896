use Rattle.std.proofs.Common.{rules, subst}
use Rattle.std.specs.Prelude.{IfSome}
use Rattle.rr_replica.specs.SeriesMap.{entries_of}
use Rattle.rr_cells.specs.CellBounds.{IsCellOf}
use Rattle.rr_replica.specs.InMemory.{replica_state_in}
use Rattle.rr_replica.specs.ReplicaWithRoom.{ReplicaWithRoom}
use Rattle.rr_cells.specs.Listing.{seen_cell}
use Rattle.rr_replica.proofs.Counted.{few_held}
use Rattle.rr_cells.proofs.HeldCells.{at_held}
use Rattle.rr_replica.proofs.replica.Replica.cell_at.Goals as goal

pub nth_cell-requires : goal.nth_cell-requires
nth_cell-requires g c = let r = c.self.inside in
    few_held g.A.Cells.cells g.A.Cells.row_limit r.schema r.origin r.next (entries_of r.series) c.self.invariant

pub returns : goal.returns
returns g c = record {
  listed = search rules;
  of_schema =
      let r = c.self.inside in
      let h = replica_state_in g.A.Cells.cells r.schema r.origin r.next (entries_of r.series) in
      subst (λ (k : ReplicaWithRoom). IfSome c.nth_cell.result (λ x. IsCellOf k.schema (seen_cell x))) c.self.view_is
      (at_held h c.self.invariant.holds c.nth_cell.result c.args.i c.nth_cell.ensures);
}
