use Rattle.std.proofs.Common.{rules, ◌≡◌, ◌<◌, length, Some, None, true≢false, sym, ◌∙◌, arith}
use Rattle.rr_cells.specs.declared.op.Op.TheVariants.{Join}
use Rattle.rr_replica.specs.Indexed.{index_of}
use Rattle.rr_replica.specs.SeriesMap.{entries_of}
use Rattle.rr_replica.proofs.IndexedLemmas.{key_at, archives_nowhere, entries_ordered, sized_with}
use Rattle.rr_replica.proofs.Each.{sized_many}
use Rattle.rr_replica.proofs.JoinedCell.{cells_joined, before_fresh}
use Rattle.rr_replica.proofs.NumberedLemmas.{unknown}
use Rattle.rr_replica.proofs.RoomLemmas.{room_nowhere}
use Rattle.rr_replica.proofs.joins.join_in.Goals as goal

pub join_at-requires-clause-key : goal.join_at-requires-clause-key
join_at-requires-clause-key g c =
    let m = c.args.series.now in
    let at : Some c.in-Some.index ≡ index_of m.indices.entries c.args.cell.now.key = c.in-Some.ensures in
    key_at m.keys.items m.indices.entries m.indexed.there c.args.cell.now.key c.in-Some.index (sym at)

pub returns-in_ok-insert-in-None-clause-cell : goal.returns-in_ok-insert-in-None-clause-cell
returns-in_ok-insert-in-None-clause-cell g c =
    let cells = g.A.Cells.cells in
    let limit = g.A.Cells.row_limit in
    let schema = c.args.schema.now in
    let cell = c.args.cell.now in
    let m = c.args.series.now in
    let old = entries_of m in
    let unknown : None ≡ index_of m.indices.entries c.args.cell.now.key = c.in-None.ensures in
    let none = sym (archives_nowhere m.indexed c.args.cell.now.key unknown) in
    let fresh = c.in_ok-archives-in-None in
    let next = c.insert.new.self in
    let new = entries_of next in
    let sets = c.in_ok-insert-in-None.ensures.sets in
    let ordered_before = entries_ordered m.indexed in
    let ordered = entries_ordered next.indexed in
    let before = before_fresh cells cell.key old ordered_before fresh.archives.items none fresh.ensures.empty in
    let many = sized_many limit schema fresh.archives.items fresh.ensures.of_schema.sized in
    let is_within = c.requires.suits.op_of.archive in
    let within : cell.archive < length fresh.archives.items = omega arith in
    record {
      joined = cells_joined cells limit schema c.requires.suits.layout cell old new c.join_into.new.archives
          sets ordered_before ordered c.requires.live fresh.archives.items fresh.ensures.of_schema.sized before within
          c.in_ok-join_into-in-None.ensures.joined;
      unchanged = search rules;
      sized = sized_with limit schema cell.key old new c.join_into.new.archives c.requires.suits.sized sets
          c.in_ok-join_into-in-None.ensures.of_schema.sized;
      room = search rules;
    }

pub returns-in_err-archives-in-None-clause-cell : goal.returns-in_err-archives-in-None-clause-cell
returns-in_err-archives-in-None-clause-cell g c = record {
  joined = search rules;
  unchanged = search rules;
  sized = search rules;
  room =
      λ h.
      let m = c.args.series.now in
      let unknown : None ≡ index_of m.indices.entries c.args.cell.now.key = c.in-None.ensures in
      let none = sym (archives_nowhere m.indexed c.args.cell.now.key unknown) in
      absurd (room_nowhere g.A.Cells.is_ready c.args.schema.now (Join c.args.cell.now) (entries_of m) none h);
}

pub returns-in_err-join_into-in-None-clause-cell : goal.returns-in_err-join_into-in-None-clause-cell
returns-in_err-join_into-in-None-clause-cell g c = record {
  joined = search rules;
  unchanged = search rules;
  sized = search rules;
  room =
      λ h.
      let m = c.args.series.now in
      let unknown : None ≡ index_of m.indices.entries c.args.cell.now.key = c.in-None.ensures in
      let none = sym (archives_nowhere m.indexed c.args.cell.now.key unknown) in
      absurd (room_nowhere g.A.Cells.is_ready c.args.schema.now (Join c.args.cell.now) (entries_of m) none h);
}

pub returns-in_err-insert-in-None-clause-cell : goal.returns-in_err-insert-in-None-clause-cell
returns-in_err-insert-in-None-clause-cell g c = record {
  joined = search rules;
  unchanged = search rules;
  sized = search rules;
  room =
      λ h.
      let m = c.args.series.now in
      let unknown : None ≡ index_of m.indices.entries c.args.cell.now.key = c.in-None.ensures in
      let none = sym (archives_nowhere m.indexed c.args.cell.now.key unknown) in
      absurd (room_nowhere g.A.Cells.is_ready c.args.schema.now (Join c.args.cell.now) (entries_of m) none h);
}

pub returns-in_ok-insert-in-None-clause-keys : goal.returns-in_ok-insert-in-None-clause-keys
returns-in_ok-insert-in-None-clause-keys g c = λ t.
    absurd (true≢false (sym t ∙ unknown c.args.series.now.indexed c.args.cell.now.key c.in-None.ensures))
