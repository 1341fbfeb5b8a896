use Rattle.std.proofs.Common.{rules, true≢false, sym, subst}
use Rattle.std.specs.Prelude.{IsOk}
use Rattle.rr_replica.specs.SeriesMap.{entries_of}
use Rattle.rr_cells.specs.declared.op.Op.TheVariants.{Put}
use Rattle.rr_replica.specs.InMemory.{sample_of_unkeyed}
use Rattle.rr_replica.specs.ReplicaWithRoom.{ReplicaWithRoom, HasRoomFor}
use Rattle.rr_replica.proofs.RoomLemmas.{room_there}
use Rattle.rr_replica.proofs.replica.Replica.put_unkeyed.Goals as goal

pub returns-in_err-store_by_key-clause-room : goal.returns-in_err-store_by_key-clause-room
returns-in_err-store_by_key-clause-room g c = λ h.
    let r = c.self.inside in
    let op = Put (sample_of_unkeyed c.args.key.now c.args.sample) in
    let told = subst (λ (st : ReplicaWithRoom). HasRoomFor st op) (sym c.self.view_is) h in
    let there = room_there g.A.Cells.is_ready g.A.Cells.cells g.A.Cells.row_limit r.schema
    c.self.invariant.holds.layout r.origin r.next r.series.keys.items (entries_of r.series) c.self.invariant.sized op
    told in
    let ok : IsOk c.store_by_key.result = c.store_by_key.ensures.room there in
    absurd (true≢false (sym (subst IsOk c.in_err-store_by_key.was ok)))

pub invariant_of-self-2 : goal.invariant_of-self-2
invariant_of-self-2 g c = search rules

pub returns-clause-state : goal.returns-clause-state
returns-clause-state g c = search rules
