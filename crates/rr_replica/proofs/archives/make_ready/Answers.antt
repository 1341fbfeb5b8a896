use Rattle.std.proofs.Common.{rules, ◌≡◌, true, true≢false, length, Some, slice_get, sym, ◌∙◌, subst, arith, to_z, of_z, w64}
use Rattle.std.specs.Prelude.{IsOk}
use Rattle.std.proofs.lemmas.Option.{slice_get_within}
use Rattle.rr_schema.specs.Schema.{slot_of}
use Rattle.rr_archive.specs.CellSlots.{cell_slot}
use Rattle.rr_cells.proofs.Slots.{slot_is}
use Rattle.rr_replica.proofs.Each.{found_at, map-set_same, readied_none, readied_more, same_more, before_set}
use Rattle.rr_replica.proofs.archives.make_ready.Goals as goal

pub loop-i-init : goal.loop-i-init
loop-i-init g c =
    let back : to_z w64 (of_z w64 c.args.time) ≡ c.args.time = search rules in (
      search rules,
      rw back (readied_none g.A.Cells.cells g.A.Cells.row_limit g.A.Cells.is_ready c.args.schema.now
          c.args.time c.args.origin c.args.first c.args.archives.now.items c.requires.of_schema.sized),
    )

pub ready-requires : goal.ready-requires
ready-requires g c =
    let kept : to_z w64 (of_z w64 c.slot_near-slot.result) ≡ c.slot_near-slot.result = search rules in
    let slot : c.slot_near-slot.result ≡ slot_of c.args.schema.now c.loop-i.i c.args.time = search rules in
    rw (kept, slot) (slot_is c.args.schema.now c.requires.of_schema.layout c.loop-i.i c.args.time (search rules))

pub returns-in_err-ready-clause-unchanged : goal.returns-in_err-ready-clause-unchanged
returns-in_err-ready-clause-unchanged g c =
    let items = c.loop-i.archives.items in
    let at = found_at items c.loop-i.i c.index_mut.result.now (search rules) c.index_mut.ensures.value in
    let cells : g.A.Cells.cells c.ready.new.self ≡ g.A.Cells.cells c.index_mut.result.now = search rules in
    same_more g.A.Cells.cells c.loop-i.i c.args.archives.now.items items c.index_mut.result.now c.ready.new.self
    c.loop-i.invariant.1.same at cells

pub returns-in_err-ready-clause-before : goal.returns-in_err-ready-clause-before
returns-in_err-ready-clause-before g c =
    let back : to_z w64 (of_z w64 c.args.time) ≡ c.args.time = search rules in
    before_set g.A.Cells.cells g.A.Cells.row_limit g.A.Cells.is_ready c.args.schema.now c.args.time c.args.origin
    c.args.first c.loop-i.i c.args.archives.now.items c.loop-i.archives.items c.ready.new.self c.loop-i.invariant.0
    (rw back at c.loop-i.invariant.1)

pub returns-in_err-ready-clause-of_schema : goal.returns-in_err-ready-clause-of_schema
returns-in_err-ready-clause-of_schema g c =
    let items = c.loop-i.archives.items in
    let at = found_at items c.loop-i.i c.index_mut.result.now (search rules) c.index_mut.ensures.value in
    record {
      layout = c.requires.of_schema.layout;
      sized = map-set_same g.A.Cells.row_limit items c.loop-i.i c.index_mut.result.now c.ready.new.self at
          c.ready.ensures.same.limit ∙ c.loop-i.invariant.1.sized;
    }

pub returns-in_err-ready-clause-room_suffices : goal.returns-in_err-ready-clause-room_suffices
returns-in_err-ready-clause-room_suffices g c = λ ready.
    let items = c.loop-i.archives.items in
    let at = found_at items c.loop-i.i c.index_mut.result.now (search rules) c.index_mut.ensures.value in
    let was : slice_get c.args.archives.now.items c.loop-i.i ≡ Some c.index_mut.result.now =
    sym (c.loop-i.invariant.1.rest c.loop-i.i (omega arith)) ∙ at in
    let kept : to_z w64 (of_z w64 c.slot_near-slot.result) ≡ c.slot_near-slot.result = search rules in
    let slot : c.slot_near-slot.result ≡ slot_of c.args.schema.now c.loop-i.i c.args.time = search rules in
    let room = ready c.loop-i.i c.index_mut.result.now was c.loop-i.invariant.0 in
    let ok : IsOk c.ready.result = c.ready.ensures.room_suffices (rw (kept, slot) room) in
    absurd (true≢false (sym (subst IsOk c.in_err-ready.was ok)))

pub loop-i-preserved : goal.loop-i-preserved
loop-i-preserved g c =
    let back : to_z w64 (of_z w64 c.args.time) ≡ c.args.time = search rules in
    let items = c.loop-i.archives.items in
    let at = found_at items c.loop-i.i c.index_mut.result.now (search rules) c.index_mut.ensures.value in
    let cells : g.A.Cells.cells c.ready.new.self ≡ g.A.Cells.cells c.index_mut.result.now = search rules in
    let limit : g.A.Cells.row_limit c.ready.new.self ≡ g.A.Cells.row_limit c.index_mut.result.now =
    c.ready.ensures.same.limit in
    let kept : to_z w64 (of_z w64 c.slot_near-slot.result) ≡ c.slot_near-slot.result = search rules in
    let slot : c.slot_near-slot.result ≡ slot_of c.args.schema.now c.loop-i.i c.args.time = search rules in
    let room : g.A.Cells.is_ready c.ready.new.self
    (cell_slot (to_z w64 (of_z w64 c.slot_near-slot.result)) c.args.origin) ≡ true = search rules in
    let from = c.loop-i.invariant.0 in (
      omega (arith, from),
      rw back (readied_more g.A.Cells.cells g.A.Cells.row_limit g.A.Cells.is_ready c.args.schema.now
          c.args.time c.args.origin c.args.first c.loop-i.i c.args.archives.now.items items c.index_mut.result.now
          c.ready.new.self from (rw back at c.loop-i.invariant.1) at cells limit (rw (kept, slot) at room)),
    )

pub returns-clause-ready : goal.returns-clause-ready
returns-clause-ready g c = λ i a at from.
    let back : to_z w64 (of_z w64 c.args.time) ≡ c.args.time = search rules in
    let readied = rw back at c.loop-i.invariant.1 in
    readied.ready i a from (let within = slice_get_within c.loop-i.archives.items i a at in let many =
    c.loop-i.invariant.1.same.many in let len : c.len-i-end.result ≡ length c.args.archives.now.items =
    search rules in omega arith) at
