use Rattle.std.proofs.Common.{rules, ⊎_elim, ◌≡◌, true≢false, length, Some, slice_get, sym, ◌∙◌, subst, arith, to_z, of_z, w64}
use Rattle.std.specs.Prelude.{IsOk}
use Rattle.std.proofs.lemmas.Bool.{cases_lt}
use Rattle.rr_schema.specs.Schema.{slot_of, place_of}
use Rattle.rr_cells.proofs.Slots.{slot_is}
use Rattle.rr_replica.proofs.Each.{on_err_from, found_at, map-set_same, put_none, put_failed, put_more, put_all, can_take_same, put_after_same, same_after_same, ready_all}
use Rattle.rr_replica.proofs.archives.store_in.Goals as goal

pub returns-in_err-make_ready : goal.returns-in_err-make_ready
returns-in_err-make_ready g c = record {
  put = search rules;
  unchanged = search rules;
  of_schema = search rules;
  room =
      λ room.
      let back : to_z w64 (of_z w64 c.args.sample.now.time) ≡ c.args.sample.now.time = search rules in
      let kept = rw back at c.make_ready.ensures.room_suffices in
      let ok : IsOk c.make_ready.result = kept (λ i a at _. room i a at (omega arith)) in
      absurd (true≢false (sym (subst IsOk c.in_err-make_ready.was ok)));
}

pub loop-i-init : goal.loop-i-init
loop-i-init g c = put_none g.A.Cells.cells g.A.Cells.row_limit c.args.schema.now c.args.sample.now
    c.make_ready.new.archives.items c.make_ready.ensures.of_schema.sized

pub put-requires : goal.put-requires
put-requires g c =
    let kept : to_z w64 (of_z w64 c.slot_near-slot.result) ≡ c.slot_near-slot.result = search rules in
    let slot : c.slot_near-slot.result ≡ slot_of c.args.schema.now c.loop-i.i c.args.sample.now.time = search rules in
    record {
      slot = rw (kept, slot) (slot_is c.args.schema.now c.requires.of_schema.layout c.loop-i.i c.args.sample.now.time
          (search rules));
      newer =
          let readied = c.make_ready.new.archives.items in
          let at = found_at c.loop-i.archives.items c.loop-i.i c.index_mut.result.now (search rules)
          c.index_mut.ensures.value in
          let was : slice_get readied c.loop-i.i ≡ Some c.index_mut.result.now =
          sym (c.loop-i.invariant.rest c.loop-i.i (omega arith)) ∙ at in
          let newer = can_take_same g.A.Cells.cells g.A.Cells.row_limit c.args.schema.now c.args.sample.now
          c.args.archives.now.items readied c.make_ready.ensures.unchanged c.requires.newer in
          rw (kept, slot) (newer c.loop-i.i c.index_mut.result.now was);
      number_at_least = search rules;
      number_at_most = search rules;
      place = search rules;
    }

-- all archives but the first have room
pub returns-in_err-put : goal.returns-in_err-put
returns-in_err-put g c =
    let cells = g.A.Cells.cells in
    let limit = g.A.Cells.row_limit in
    let old = c.args.archives.now.items in
    let readied = c.make_ready.new.archives.items in
    let items = c.loop-i.archives.items in
    let same = c.make_ready.ensures.unchanged in
    let at = found_at items c.loop-i.i c.index_mut.result.now (search rules) c.index_mut.ensures.value in
    let was : slice_get readied c.loop-i.i ≡ Some c.index_mut.result.now =
    sym (c.loop-i.invariant.rest c.loop-i.i (omega arith)) ∙ at in
    let kept : to_z w64 (of_z w64 c.slot_near-slot.result) ≡ c.slot_near-slot.result = search rules in
    let slot : c.slot_near-slot.result ≡ slot_of c.args.schema.now c.loop-i.i c.args.sample.now.time = search rules in
    let back : to_z w64 (of_z w64 c.args.sample.now.time) ≡ c.args.sample.now.time = search rules in
    let ready = rw back at c.in_ok-make_ready.ensures.ready in
    record {
      put = search rules;
      unchanged = on_err_from c.from_residual-in_err-put.result (⊎_elim
          (λ first. same_after_same cells limit c.args.schema.now c.args.sample.now old readied _ same
          (put_failed cells limit c.args.schema.now c.args.sample.now c.loop-i.i readied items c.index_mut.result.now
          c.put.new.self c.loop-i.invariant first at (search rules)))
          (λ later.
          let ok : IsOk c.put.result = c.put.ensures.room (rw (kept, slot) (ready c.loop-i.i c.index_mut.result.now was
          later)) in
          absurd (true≢false (sym (subst IsOk c.in_err-put.was ok))))
          (cases_lt c.loop-i.i 1));
      of_schema = record {
        layout = c.requires.of_schema.layout;
        sized = map-set_same limit items c.loop-i.i c.index_mut.result.now c.put.new.self at
            c.put.ensures.limit ∙ c.loop-i.invariant.sized;
      };
      room =
          λ room.
          let all = ready_all cells limit g.A.Cells.is_ready c.args.schema.now c.args.sample.now.time
          c.args.sample.now.origin 1 old readied c.make_ready.ensures.before ready room in
          let ok : IsOk c.put.result = c.put.ensures.room (rw (kept, slot) (all c.loop-i.i c.index_mut.result.now was
          (omega arith))) in
          absurd (true≢false (sym (subst IsOk c.in_err-put.was ok)));
    }

pub loop-i-preserved : goal.loop-i-preserved
loop-i-preserved g c =
    let items = c.loop-i.archives.items in
    let at = found_at items c.loop-i.i c.index_mut.result.now (search rules) c.index_mut.ensures.value in
    let limit : g.A.Cells.row_limit c.put.new.self ≡ g.A.Cells.row_limit c.index_mut.result.now = c.put.ensures.limit in
    let kept : to_z w64 (of_z w64 c.slot_near-slot.result) ≡ c.slot_near-slot.result = search rules in
    let slot : c.slot_near-slot.result ≡ slot_of c.args.schema.now c.loop-i.i c.args.sample.now.time = search rules in
    let place : c.place_in-place.result ≡ place_of c.args.schema.now c.loop-i.i c.args.sample.now.time = search rules in
    let time : to_z w64 (of_z w64 c.args.sample.now.time) ≡ c.args.sample.now.time = search rules in
    let value : to_z w64 (of_z w64 c.args.sample.now.value) ≡ c.args.sample.now.value = search rules in
    let cells = rw (kept, slot, place, time, value) at c.in_ok-put.ensures.taken in
    put_more g.A.Cells.cells g.A.Cells.row_limit c.args.schema.now c.args.sample.now c.loop-i.i
    c.make_ready.new.archives.items items c.index_mut.result.now c.put.new.self c.loop-i.invariant at cells limit

pub returns : goal.returns
returns g c =
    let readied = c.make_ready.new.archives.items in
    record {
      put = put_after_same g.A.Cells.cells g.A.Cells.row_limit c.args.schema.now c.args.sample.now
          c.args.archives.now.items readied c.loop-i.archives.items c.make_ready.ensures.unchanged
          (put_all g.A.Cells.cells g.A.Cells.row_limit c.args.schema.now c.args.sample.now c.loop-i.i readied
          c.loop-i.archives.items c.loop-i.invariant
          (let many = c.loop-i.invariant.many in let len : c.len-i-end.result ≡ length readied = search rules in
          omega arith));
      unchanged = search rules;
      of_schema = record { layout = c.requires.of_schema.layout; sized = c.loop-i.invariant.sized };
      room = search rules;
    }
