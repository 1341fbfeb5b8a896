use Rattle.std.proofs.Common.{rules, ◌≡◌, ◌<◌, sym, ap, ◌∙◌, Some, slice_get, length, to_z, of_z, w64, arith}
use Rattle.std.proofs.lemmas.Option.{slice_get-get_or}
use Rattle.std.proofs.lemmas.Result.{on_ok_weaker, on_err_weaker}
use Rattle.rr_schema.specs.Schema.{slot_of}
use Rattle.rr_cells.proofs.Slots.{slot_is}
use Rattle.rr_replica.proofs.Each.{map-set_same, sized_many}
use Rattle.rr_replica.proofs.OneArchive.{same_at, joined_at}
use Rattle.rr_replica.proofs.archives.join_into.Goals as goal

pub join_cell-requires : goal.join_cell-requires
join_cell-requires g c =
    let kept : to_z w64 (of_z w64 c.slot-slot.result) ≡ c.slot-slot.result = search rules in
    let slot : c.slot-slot.result ≡ slot_of c.args.schema.now c.args.cell.now.archive
    c.args.cell.now.contribution.last_time = search rules in
    rw (kept, slot) (slot_is c.args.schema.now c.requires.of_schema.layout c.args.cell.now.archive
    c.args.cell.now.contribution.last_time (search rules))

pub returns : goal.returns
returns g c =
    let cells = g.A.Cells.cells in
    let limit = g.A.Cells.row_limit in
    let items = c.args.archives.now.items in
    let cell = c.args.cell.now in
    let was = c.index_mut-archive.result.now in
    let new = c.join_cell.new.self in
    let many = sized_many limit c.args.schema.now items c.requires.of_schema.sized in
    let of_schema = c.requires.op_of.archive in
    let within : cell.archive < length items = omega arith in
    let at : slice_get items cell.archive ≡ Some was = slice_get-get_or items cell.archive was within
    ∙ ap (λ a. Some a) (sym c.index_mut-archive.ensures.value) in
    let kept : to_z w64 (of_z w64 c.slot-slot.result) ≡ c.slot-slot.result = search rules in
    let found : c.slot-slot.result ≡ slot_of c.args.schema.now cell.archive cell.contribution.last_time =
    search rules in
    let slot : c.slot-slot.result ≡ cell.slot = found ∙ c.requires.op_of.valid.in_slot in
    record {
      joined = on_ok_weaker c.join_cell.result (joined_at cells limit cell items was new at)
          (rw (kept, slot) at c.join_cell.ensures.taken);
      unchanged = on_err_weaker c.join_cell.result (same_at cells cell items was new at) c.join_cell.ensures.unchanged;
      of_schema = record {
        layout = c.requires.of_schema.layout;
        sized =
            map-set_same limit items cell.archive was new at c.join_cell.ensures.limit ∙ c.requires.of_schema.sized;
      };
      room = λ ready. c.join_cell.ensures.room (rw (kept, slot) (ready was at));
    }
