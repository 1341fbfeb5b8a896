use Rattle.std.proofs.Common.{rules, ◌≡◌, true, sym, subst, ◌∙◌}
use Rattle.std.proofs.lemmas.Result.{on_ok_weaker}
use Rattle.rr_replica.specs.SeriesMap.{entries_of}
use Rattle.rr_replica.specs.Archives.{IsOpOf}
use Rattle.rr_replica.specs.InMemory.{replica_state_in}
use Rattle.rr_cells.specs.Operations.{accepts}
use Rattle.rr_replica.specs.ReplicaWithRoom.{ReplicaWithRoom, replica_state}
use Rattle.rr_replica.proofs.InMemoryLemmas.{kept_same}
use Rattle.rr_replica.proofs.IndexedLemmas.{entries_ordered}
use Rattle.rr_replica.proofs.RoomLemmas.{room_told, taken_origin}
use Rattle.rr_replica.proofs.replica.Replica.ready_series.Goals as goal

pub invariant_of-self : goal.invariant_of-self
invariant_of-self g c =
    let r = c.self.inside in
    let new = c.make_room_in.new.series in
    let e = c.make_room_in.ensures in
    kept_same g.A.Cells.cells g.A.Cells.row_limit r.schema r.origin r.next (entries_of r.series) (entries_of new)
    c.self.invariant e.made.unchanged e.made.sized (entries_ordered new.indexed)

pub returns-clause-ready : goal.returns-clause-ready
returns-clause-ready g c =
    let r = c.self.inside in
    let op = c.args.op.now in
    let cells = g.A.Cells.cells in
    let new = (entries_of c.make_room_in.new.series) in
    let of : IsOpOf r.schema op = subst (λ (st : ReplicaWithRoom). IsOpOf st.schema op) (sym c.self.view_is)
    (c.accepts-accepted.ensures.op (c.accepts-accepted.ensures.accepted ∙ c.requires)) in
    let taken : accepts (replica_state_in cells r.schema r.origin r.next (entries_of r.series)) op ≡ true =
    subst (λ (st : ReplicaWithRoom). accepts (replica_state st) op ≡ true) (sym c.self.view_is)
    c.requires in
    let number = taken_origin (replica_state_in cells r.schema r.origin r.next (entries_of r.series)) op taken of
    c.self.invariant.holds.origin in
    record {
      unchanged = search rules;
      room = on_ok_weaker c.make_room_in.result (λ room. λ _. room_told g.A.Cells.is_ready cells g.A.Cells.row_limit
          r.schema c.self.invariant.holds.layout r.origin r.next c.make_room_in.new.series.keys.items new
          c.make_room_in.ensures.made.sized op of number room) c.make_room_in.ensures.made.room;
    }
