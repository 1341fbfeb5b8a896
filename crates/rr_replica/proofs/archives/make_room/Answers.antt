use Rattle.std.proofs.Common.{rules, ◌≡◌, ◌<◌, sym, ap, subst, ◌∙◌, Some, slice_get, length, set, to_z, of_z, w64, arith}
use Rattle.std.specs.Prelude.{OnOk}
use Rattle.std.proofs.lemmas.Option.{slice_get-get_or}
use Rattle.std.proofs.lemmas.Result.{on_ok_weaker}
use Rattle.rr_schema.specs.Schema.{slot_of}
use Rattle.rr_cells.specs.CellBounds.{IsCellOf}
use Rattle.rr_cells.specs.Listing.{owned_cell}
use Rattle.rr_cells.specs.declared.op.Op.{Op}
use Rattle.rr_cells.proofs.Slots.{slot_is}
use Rattle.rr_replica.specs.Archives.{HaveRoomFor, IsOpOf}
use Rattle.rr_replica.proofs.Each.{map-set_same, sized_many, same_more, same_itself, ready_set}
use Rattle.rr_replica.proofs.archives.make_room.Goals as goal

pub returns-in-Put : goal.returns-in-Put
returns-in-Put g c = record {
  unchanged = search rules;
  of_schema = search rules;
  room =
      let back : to_z w64 (of_z w64 c.in-Put.sample.time) ≡ c.in-Put.sample.time = search rules in
      subst (λ (op : Op). OnOk c.make_ready.result (HaveRoomFor g.A.Cells.is_ready c.args.schema.now op
      c.make_ready.new.archives.items)) (sym c.in-Put.is) (rw back at c.make_ready.ensures.ready);
}

pub ready-requires : goal.ready-requires
ready-requires g c =
    let kept : to_z w64 (of_z w64 c.slot-slot.result) ≡ c.slot-slot.result = search rules in
    let slot : c.slot-slot.result ≡ slot_of c.args.schema.now c.in-Join.cell.archive
    c.in-Join.cell.contribution.last_time = search rules in
    rw (kept, slot) (slot_is c.args.schema.now c.requires.of_schema.layout c.in-Join.cell.archive
    c.in-Join.cell.contribution.last_time (search rules))

pub returns-in-Join : goal.returns-in-Join
returns-in-Join g c =
    let cells = g.A.Cells.cells in
    let limit = g.A.Cells.row_limit in
    let items = c.args.archives.now.items in
    let cell = c.in-Join.cell in
    let was = c.index_mut-archive.result.now in
    let new = c.ready.new.self in
    let many = sized_many limit c.args.schema.now items c.requires.of_schema.sized in
    let of_cell : IsCellOf c.args.schema.now (owned_cell cell) =
    subst (λ (op : Op). IsOpOf c.args.schema.now op) c.in-Join.is c.requires.op_of in
    let is_within = of_cell.archive in
    let within : cell.archive < length items = omega arith in
    let at : slice_get items cell.archive ≡ Some was = slice_get-get_or items cell.archive was within
    ∙ ap (λ a. Some a) (sym c.index_mut-archive.ensures.value) in
    let kept : to_z w64 (of_z w64 c.slot-slot.result) ≡ c.slot-slot.result = search rules in
    let found : c.slot-slot.result ≡ slot_of c.args.schema.now cell.archive cell.contribution.last_time =
    search rules in
    let slot : c.slot-slot.result ≡ cell.slot = found ∙ of_cell.valid.in_slot in
    record {
      unchanged =
          same_more cells cell.archive items items was new (same_itself cells items) at c.ready.ensures.same.cells;
      of_schema = record {
        layout = c.requires.of_schema.layout;
        sized =
            map-set_same limit items cell.archive was new at c.ready.ensures.same.limit ∙ c.requires.of_schema.sized;
      };
      room = subst (λ (op : Op). OnOk c.ready.result (HaveRoomFor g.A.Cells.is_ready c.args.schema.now op
          (set items cell.archive new))) (sym c.in-Join.is) (on_ok_weaker c.ready.result
          (λ ready. ready_set g.A.Cells.is_ready items cell.archive new within ready)
          (rw (kept, slot) at c.ready.ensures.room));
    }
