use Rattle.std.proofs.Common.{rules, [], get_or, true≢false, sym, subst}
use Rattle.std.specs.Prelude.{IsOk}
use Rattle.rr_replica.specs.SeriesMap.{entries_of}
use Rattle.rr_cells.specs.declared.op.Op.TheVariants.{Put}
use Rattle.rr_replica.specs.InMemory.{sample_of_unkeyed}
use Rattle.rr_replica.specs.ReplicaWithRoom.{ReplicaWithRoom, HasRoomFor}
use Rattle.rr_replica.proofs.RoomLemmas.{room_there}
use Rattle.rr_replica.proofs.replica.Replica.put_unkeyed_at.Goals as goal

pub returns-in_err-store_at : goal.returns-in_err-store_at
returns-in_err-store_at g c = record {
  state = search rules;
  keys = search rules;
  room =
      λ h.
      let r = c.self.inside in
      let op = Put (sample_of_unkeyed (get_or c.self.inside.series.keys.items c.args.series []) c.args.sample) in
      let told = subst (λ (st : ReplicaWithRoom). HasRoomFor st
      (Put (sample_of_unkeyed (get_or st.keys c.args.series []) c.args.sample))) (sym c.self.view_is) h in
      let there = room_there g.A.Cells.is_ready g.A.Cells.cells g.A.Cells.row_limit r.schema
      c.self.invariant.holds.layout r.origin r.next r.series.keys.items (entries_of r.series) c.self.invariant.sized op
      told in
      let ok : IsOk c.store_at.result = c.store_at.ensures.sample.room there in
      absurd (true≢false (sym (subst IsOk c.in_err-store_at.was ok)));
}
