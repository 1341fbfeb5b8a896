use Rattle.std.proofs.Common.{rules, ◌≡◌, true≢false, sym, subst}
use Rattle.std.specs.Prelude.{IsOk}
use Rattle.rr_replica.specs.SeriesMap.{entries_of}
use Rattle.rr_cells.specs.CellBounds.{IsCellOf}
use Rattle.rr_cells.specs.declared.op.Op.TheVariants.{Join}
use Rattle.rr_replica.specs.ReplicaWithRoom.{ReplicaWithRoom, HasRoomFor}
use Rattle.rr_cells.specs.Joining.{next_after}
use Rattle.rr_cells.specs.Listing.{owned_cell}
use Rattle.rr_replica.specs.InMemory.{IsReplicaInMemory}
use Rattle.rr_replica.proofs.InMemoryLemmas.{kept_same}
use Rattle.rr_replica.proofs.IndexedLemmas.{entries_ordered}
use Rattle.rr_replica.proofs.JoinedCell.{kept_joined}
use Rattle.rr_replica.proofs.RoomLemmas.{room_there}
use Rattle.rr_replica.proofs.replica.Replica.join_cell_numbered.Goals as goal

pub invariant_of-self : goal.invariant_of-self
invariant_of-self g c =
    let r = c.self.inside in
    let new = c.join_at.new.series in
    let e = c.in_err-join_at.ensures.cell in
    kept_same g.A.Cells.cells g.A.Cells.row_limit r.schema r.origin r.next (entries_of r.series) (entries_of new)
    c.self.invariant e.unchanged e.sized (entries_ordered new.indexed)

pub invariant_of-self-2 : goal.invariant_of-self-2
invariant_of-self-2 g c =
    let r = c.self.inside in
    let cell : IsCellOf r.schema (owned_cell c.args.cell.now) =
    subst (λ (h : ReplicaWithRoom). IsCellOf h.schema (owned_cell c.args.cell.now)) (sym c.self.view_is)
    c.requires.cell in
    let next : c.next_after-self-inside.result ≡ next_after r.origin r.next (owned_cell c.args.cell.now) =
    c.next_after-self-inside.ensures in
    let new = c.join_at.new.series in
    let e = c.in_ok-join_at.ensures.cell in
    subst (λ n. IsReplicaInMemory g.A.Cells.cells g.A.Cells.row_limit r.schema r.origin n (entries_of new)) (sym next)
    (kept_joined g.A.Cells.cells g.A.Cells.row_limit r.schema r.origin r.next c.args.cell.now
    (entries_of r.series) (entries_of new) c.self.invariant cell e.joined e.sized (entries_ordered new.indexed))

pub returns-in_err-join_at : goal.returns-in_err-join_at
returns-in_err-join_at g c = record {
  state = search rules;
  keys = search rules;
  room =
      λ h.
      let r = c.self.inside in
      let op = Join c.args.cell.now in
      let told = subst (λ (st : ReplicaWithRoom). HasRoomFor st op) (sym c.self.view_is) h in
      let there = room_there g.A.Cells.is_ready g.A.Cells.cells g.A.Cells.row_limit r.schema
      c.self.invariant.holds.layout r.origin r.next r.series.keys.items (entries_of r.series) c.self.invariant.sized op
      told in
      let ok : IsOk c.join_at.result = c.join_at.ensures.cell.room there in
      absurd (true≢false (sym (subst IsOk c.in_err-join_at.was ok)));
}
