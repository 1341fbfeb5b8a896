use Rattle.std.proofs.Common.{◌≡◌, ◌<◌, length, set, Some, refl, sym, arith}
use Rattle.std.proofs.lemmas.Result.{on_ok_weaker, on_err_weaker}
use Rattle.rr_cells.specs.declared.op.Op.TheVariants.{Join}
use Rattle.rr_replica.specs.Indexed.{index_of, entries_at}
use Rattle.rr_replica.specs.SeriesMap.{entries_of}
use Rattle.rr_replica.proofs.IndexedLemmas.{index_within, element_found, entries_ordered, sets_at, still_indexed, sized_with}
use Rattle.rr_replica.proofs.Each.{sized_many}
use Rattle.rr_replica.proofs.JoinedCell.{cells_joined, cells_unchanged, before_found}
use Rattle.rr_replica.proofs.RoomLemmas.{room_found}
use Rattle.rr_replica.proofs.joins.join_at.Goals as goal

pub index_mut-requires : goal.index_mut-requires
index_mut-requires g c =
    let m = c.args.series.now in
    let at : Some c.args.index ≡ index_of m.indices.entries c.args.cell.now.key =
    sym (m.indexed.found c.args.index c.args.cell.now.key c.requires.key) in
    let within = index_within m.indexed c.args.cell.now.key c.args.index at in
    let len = m.archives.ok.0 in
    omega (arith, within, len)

pub join_into-requires : goal.join_into-requires
join_into-requires g c =
    let m = c.args.series.now in
    let old = entries_of m in
    let at : Some c.args.index ≡ index_of m.indices.entries c.args.cell.now.key =
    sym (m.indexed.found c.args.index c.args.cell.now.key c.requires.key) in
    let was = c.index_mut.result.now in
    let found = element_found m.indexed c.args.cell.now.key c.args.index was at c.index_mut.ensures.value in
    record {
      of_schema = record {
        layout = c.requires.suits.layout;
        sized = c.requires.suits.sized c.args.cell.now.key was (sym found);
      };
      op_of = c.requires.suits.op_of;
    }

pub returns : goal.returns
returns g c =
    let cells = g.A.Cells.cells in
    let limit = g.A.Cells.row_limit in
    let schema = c.args.schema.now in
    let cell = c.args.cell.now in
    let m = c.args.series.now in
    let old = entries_of m in
    let at : Some c.args.index ≡ index_of m.indices.entries c.args.cell.now.key =
    sym (m.indexed.found c.args.index c.args.cell.now.key c.requires.key) in
    let was = c.index_mut.result.now in
    let found = element_found m.indexed c.args.cell.now.key c.args.index was at c.index_mut.ensures.value in
    let now = c.join_into.new.archives in
    let new = entries_at m.indices.entries (set m.archives.items c.args.index now) in
    let sets = sets_at m.indexed c.args.cell.now.key c.args.index now at in
    let ordered_before = entries_ordered m.indexed in
    let ordered = entries_ordered (still_indexed m.indexed c.args.index now) in
    let before = before_found cells cell.key old ordered_before was found in
    let sized = c.requires.suits.sized cell.key was (sym found) in
    let many = sized_many limit schema was.items sized in
    let is_within = c.requires.suits.op_of.archive in
    let within : cell.archive < length was.items = omega arith in
    record {
      cell = record {
        joined = on_ok_weaker c.join_into.result (cells_joined cells limit schema c.requires.suits.layout cell old new
            now sets ordered_before ordered c.requires.live was.items sized before within) c.join_into.ensures.joined;
        unchanged = on_err_weaker c.join_into.result (cells_unchanged cells limit schema c.requires.suits.layout cell
            old new now sets ordered_before ordered c.requires.live was.items before) c.join_into.ensures.unchanged;
        sized = sized_with limit schema cell.key old new now c.requires.suits.sized sets
            c.join_into.ensures.of_schema.sized;
        room = λ h. c.join_into.ensures.room (room_found g.A.Cells.is_ready schema (Join cell) old was found h);
      };
      keys = refl;
    }
