use Rattle.std.proofs.Common.{rules, ◌≡◌, Some, sym, subst, to_z, of_z, w64}
use Rattle.rr_cells.specs.ReplicaState.{IsReplicaState}
use Rattle.rr_cells.specs.Listing.{cell_name, next_cell, seen_cell}
use Rattle.rr_cells.proofs.HeldCells.{next_held}
use Rattle.rr_replica.specs.ReplicaWithRoom.{ReplicaWithRoom, replica_state}
use Rattle.rr_replica.proofs.cell_walk.CellWalk.next_cell.Goals as goal

pub returns-in-Some-clause-next : goal.returns-in-Some-clause-next
returns-in-Some-clause-next g c =
    let r = c.args.self.now in
    let name = cell_name c.args.key.now c.args.archive c.args.slot c.args.origin in
    let back : to_z w64 (of_z w64 c.args.slot) ≡ c.args.slot = search rules in
    let next : next_cell r.cells name ≡ Some (seen_cell c.in-Some.cell) = rw back at c.in-Some.ensures.next in
    let holds : IsReplicaState (replica_state r) = subst (λ (k : ReplicaWithRoom). IsReplicaState (replica_state k))
    c.self.view_is c.schema-schema.ensures.holds in
    record {
      listed = sym next;
      of_schema = next_held (replica_state r) holds (Some c.in-Some.cell) name (sym next);
    }
