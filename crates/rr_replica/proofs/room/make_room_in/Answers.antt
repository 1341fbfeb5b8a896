use Rattle.std.proofs.Common.{rules, ◌≡◌, Some, None, slice_get, set, sym, ap, ◌∙◌, arith}
use Rattle.rr_replica.specs.Indexed.{index_of, entries_at}
use Rattle.rr_replica.specs.SeriesMap.{entries_of}
use Rattle.rr_replica.proofs.IndexedLemmas.{archives_nowhere, at_end, element_found, entries_ordered, index_within, key_at, sets_at, sized_with, still_indexed}
use Rattle.rr_replica.proofs.JoinedCell.{before_found, before_fresh}
use Rattle.rr_replica.proofs.RoomLemmas.{room_set}
use Rattle.rr_replica.proofs.Shown.{cells_same, held_same}
use Rattle.rr_replica.proofs.room.make_room_in.Goals as goal

pub index_mut-requires : goal.index_mut-requires
index_mut-requires g c =
    let m = c.args.series.now in
    let at : Some c.in-Some.index ≡ index_of m.indices.entries c.key-key.result.now = c.in-Some.ensures in
    let within = index_within m.indexed c.key-key.result.now c.in-Some.index at in
    let len = m.archives.ok.0 in
    omega (arith, within, len)

pub make_room-requires : goal.make_room-requires
make_room-requires g c =
    let m = c.args.series.now in
    let at : Some c.in-Some.index ≡ index_of m.indices.entries c.key-key.result.now = c.in-Some.ensures in
    let was = c.index_mut.result.now in
    let found = element_found m.indexed c.key-key.result.now c.in-Some.index was at c.index_mut.ensures.value in
    record {
      of_schema = record { layout = c.requires.layout; sized = c.requires.sized c.key-key.result.now was (sym found) };
      op_of = c.requires.op_of;
    }

pub returns-in_ok-make_room-in-Some-clause-key : goal.returns-in_ok-make_room-in-Some-clause-key
returns-in_ok-make_room-in-Some-clause-key g c =
    let m = c.args.series.now in
    let at : Some c.in-Some.index ≡ index_of m.indices.entries c.key-key.result.now = c.in-Some.ensures in
    key_at m.keys.items m.indices.entries m.indexed.there c.key-key.result.now c.in-Some.index (sym at)
    ∙ ap (λ k. Some k) c.key-key.ensures

pub returns-in_ok-make_room-in-Some-clause-made : goal.returns-in_ok-make_room-in-Some-clause-made
returns-in_ok-make_room-in-Some-clause-made g c =
    let cells = g.A.Cells.cells in
    let m = c.args.series.now in
    let old = entries_of m in
    let key = c.key-key.result.now in
    let at : Some c.in-Some.index ≡ index_of m.indices.entries key = c.in-Some.ensures in
    let was = c.index_mut.result.now in
    let found = element_found m.indexed key c.in-Some.index was at c.index_mut.ensures.value in
    let now = c.make_room.new.archives in
    let new = entries_at m.indices.entries (set m.archives.items c.in-Some.index now) in
    let sets = sets_at m.indexed key c.in-Some.index now at in
    let ordered_before = entries_ordered m.indexed in
    let ordered = entries_ordered (still_indexed m.indexed c.in-Some.index now) in
    record {
      unchanged = cells_same cells old new key now sets ordered_before ordered
          (λ i. held_same cells was.items now.items i c.make_room.ensures.unchanged
          ∙ sym (before_found cells key old ordered_before was found i));
      sized = sized_with g.A.Cells.row_limit c.args.schema.now key old new now c.requires.sized sets
          c.make_room.ensures.of_schema.sized;
      room = room_set g.A.Cells.is_ready c.args.schema.now c.args.op.now key c.key-key.ensures old new now sets
          c.in_ok-make_room-in-Some.ensures.room;
    }

pub returns-in_err-make_room-in-Some-clause-made : goal.returns-in_err-make_room-in-Some-clause-made
returns-in_err-make_room-in-Some-clause-made g c =
    let cells = g.A.Cells.cells in
    let m = c.args.series.now in
    let old = entries_of m in
    let key = c.key-key.result.now in
    let at : Some c.in-Some.index ≡ index_of m.indices.entries key = c.in-Some.ensures in
    let was = c.index_mut.result.now in
    let found = element_found m.indexed key c.in-Some.index was at c.index_mut.ensures.value in
    let now = c.make_room.new.archives in
    let new = entries_at m.indices.entries (set m.archives.items c.in-Some.index now) in
    let sets = sets_at m.indexed key c.in-Some.index now at in
    let ordered_before = entries_ordered m.indexed in
    let ordered = entries_ordered (still_indexed m.indexed c.in-Some.index now) in
    record {
      unchanged = cells_same cells old new key now sets ordered_before ordered
          (λ i. held_same cells was.items now.items i c.make_room.ensures.unchanged
          ∙ sym (before_found cells key old ordered_before was found i));
      sized = sized_with g.A.Cells.row_limit c.args.schema.now key old new now c.requires.sized sets
          c.make_room.ensures.of_schema.sized;
      room = search rules;
    }

pub returns-in_ok-insert-in-None-clause-key : goal.returns-in_ok-insert-in-None-clause-key
returns-in_ok-insert-in-None-clause-key g c =
    let keys = c.args.series.now.keys.items in
    ap (λ ks. slice_get ks c.len-index.result) c.in_ok-insert-in-None.ensures.keys
    ∙ at_end keys c.len-index.result c.key-key.result.now (search rules) ∙ ap (λ k. Some k) c.key-key.ensures

pub returns-in_ok-insert-in-None-clause-made : goal.returns-in_ok-insert-in-None-clause-made
returns-in_ok-insert-in-None-clause-made g c = record {
  unchanged =
      let cells = g.A.Cells.cells in
      let m = c.args.series.now in
      let old = entries_of m in
      let unknown : None ≡ index_of m.indices.entries c.key-key.result.now = c.in-None.ensures in
      let none = sym (archives_nowhere m.indexed c.key-key.result.now unknown) in
      let fresh = c.in_ok-archives-in-None in
      let next = c.insert.new.self in
      let new = entries_of next in
      let sets = c.in_ok-insert-in-None.ensures.sets in
      let ordered_before = entries_ordered m.indexed in
      let ordered = entries_ordered next.indexed in
      let now = c.make_room-in-None.new.archives in
      cells_same cells old new c.key-key.result.now now sets ordered_before ordered
      (λ i. held_same cells fresh.archives.items now.items i c.make_room-in-None.ensures.unchanged
      ∙ sym (before_fresh cells c.key-key.result.now old ordered_before fresh.archives.items none fresh.ensures.empty
      i));
  sized =
      let m = c.args.series.now in
      let sets = c.in_ok-insert-in-None.ensures.sets in
      sized_with g.A.Cells.row_limit c.args.schema.now c.key-key.result.now (entries_of m)
      (entries_of c.insert.new.self) c.make_room-in-None.new.archives c.requires.sized sets
      c.make_room-in-None.ensures.of_schema.sized;
  room =
      let m = c.args.series.now in
      let old = entries_of m in
      let next = c.insert.new.self in
      let new = entries_of next in
      let sets = c.in_ok-insert-in-None.ensures.sets in
      let now = c.make_room-in-None.new.archives in
      room_set g.A.Cells.is_ready c.args.schema.now c.args.op.now c.key-key.result.now c.key-key.ensures old new now
      sets
      c.in_ok-make_room-in-None.ensures.room;
}
