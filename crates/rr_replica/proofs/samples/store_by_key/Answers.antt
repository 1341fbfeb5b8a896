use Rattle.std.proofs.Common.{rules, ◌≡◌, [], true, get_or, Some, None, sym}
use Rattle.rr_cells.specs.declared.op.Op.TheVariants.{Put}
use Rattle.rr_replica.specs.InMemory.{sample_of_unkeyed, keyed_sample}
use Rattle.rr_replica.specs.Indexed.{index_of}
use Rattle.rr_replica.specs.SeriesMap.{entries_of}
use Rattle.rr_replica.proofs.IndexedLemmas.{key_numbered, key_within, archives_nowhere, entries_ordered}
use Rattle.rr_replica.proofs.Each.{sized_many}
use Rattle.rr_cells.proofs.ReplicaStateLemmas.{IsTyped}
use Rattle.rr_replica.proofs.InMemoryLemmas.{before_fresh, can_take, cells_with, kept_with}
use Rattle.rr_replica.proofs.RoomLemmas.{room_nowhere}
use Rattle.rr_replica.proofs.samples.store_by_key.Goals as goal

pub store_in-requires : goal.store_in-requires
store_in-requires g c =
    let m = c.args.series.now in
    let old = entries_of m in
    let unknown : None ≡ index_of m.indices.entries c.args.key.now = c.in-None.ensures in
    let none = sym (archives_nowhere m.indexed c.args.key.now unknown) in
    let fresh = c.in_ok-archives-in-None in
    record {
      of_schema = search rules;
      newer = can_take g.A.Cells.cells g.A.Cells.row_limit c.args.schema.now c.args.key.now c.args.sample old
          c.requires.held c.args.sample.number_at_most fresh.archives.items
          (before_fresh g.A.Cells.cells g.A.Cells.row_limit c.args.schema.now c.args.key.now c.args.sample old
          c.requires.held c.args.sample.number_at_most fresh.archives.items none fresh.ensures.empty);
    }

pub store_at-requires-clause-there : goal.store_at-requires-clause-there
store_at-requires-clause-there g c =
    let m = c.args.series.now in
    let at : Some c.in-Some.index ≡ index_of m.indices.entries c.args.key.now = c.in-Some.ensures in
    key_within m.keys.items m.indices.entries m.indexed.there c.args.key.now c.in-Some.index at

pub returns-in-Some : goal.returns-in-Some
returns-in-Some g c =
    let m = c.args.series.now in
    let at : Some c.in-Some.index ≡ index_of m.indices.entries c.args.key.now = c.in-Some.ensures in
    let same : get_or m.keys.items c.in-Some.index [] ≡ c.args.key.now =
    key_numbered m.keys.items m.indices.entries m.indexed.there c.args.key.now c.in-Some.index at in
    let step = rw same at c.store_at.ensures in
    step.sample

pub returns-in_ok-insert-in-None : goal.returns-in_ok-insert-in-None
returns-in_ok-insert-in-None g c =
    let cells = g.A.Cells.cells in
    let limit = g.A.Cells.row_limit in
    let schema = c.args.schema.now in
    let m = c.args.series.now in
    let old = entries_of m in
    let unknown : None ≡ index_of m.indices.entries c.args.key.now = c.in-None.ensures in
    let none = sym (archives_nowhere m.indexed c.args.key.now unknown) in
    let fresh = c.in_ok-archives-in-None in
    let next = c.insert.new.self in
    let new = entries_of next in
    let sets = c.in_ok-insert-in-None.ensures.sets in
    let ordered_before = entries_ordered m.indexed in
    let ordered = entries_ordered next.indexed in
    let before = before_fresh cells limit schema c.args.key.now c.args.sample old c.requires.held
    c.args.sample.number_at_most fresh.archives.items none fresh.ensures.empty in
    let now = c.store_in.new.archives in
    let typed : IsTyped (keyed_sample c.args.key.now c.args.sample) =
    record { key = search rules; time = search rules; value = search rules } in
    let many = sized_many limit schema fresh.archives.items fresh.ensures.of_schema.sized in
    let size = c.store_in.ensures.of_schema.sized in
    record {
      put = cells_with cells limit schema c.args.key.now c.args.sample old c.requires.held c.args.sample.number_at_most
          new now sets ordered fresh.archives.items before size many c.in_ok-store_in-in-None.ensures.put;
      held_with = kept_with cells limit schema c.args.key.now c.args.sample old c.requires.held
          c.args.sample.number_at_most new now sets ordered fresh.archives.items before size typed many
          c.in_ok-store_in-in-None.ensures.put;
      unchanged = tt;
      held = tt;
      room = λ h i. true;
    }

pub returns-in_err-archives-in-None : goal.returns-in_err-archives-in-None
returns-in_err-archives-in-None g c = record {
  put = search rules;
  held_with = search rules;
  unchanged = search rules;
  held = search rules;
  room =
      λ h.
      let m = c.args.series.now in
      let unknown : None ≡ index_of m.indices.entries c.args.key.now = c.in-None.ensures in
      let none = sym (archives_nowhere m.indexed c.args.key.now unknown) in
      absurd (room_nowhere g.A.Cells.is_ready c.args.schema.now (Put (sample_of_unkeyed c.args.key.now c.args.sample))
      (entries_of m) none h);
}

pub returns-in_err-store_in-in-None : goal.returns-in_err-store_in-in-None
returns-in_err-store_in-in-None g c = record {
  put = search rules;
  held_with = search rules;
  unchanged = search rules;
  held = search rules;
  room =
      λ h.
      let m = c.args.series.now in
      let unknown : None ≡ index_of m.indices.entries c.args.key.now = c.in-None.ensures in
      let none = sym (archives_nowhere m.indexed c.args.key.now unknown) in
      absurd (room_nowhere g.A.Cells.is_ready c.args.schema.now (Put (sample_of_unkeyed c.args.key.now c.args.sample))
      (entries_of m) none h);
}

pub returns-in_err-insert-in-None : goal.returns-in_err-insert-in-None
returns-in_err-insert-in-None g c = record {
  put = search rules;
  held_with = search rules;
  unchanged = search rules;
  held = search rules;
  room =
      λ h.
      let m = c.args.series.now in
      let unknown : None ≡ index_of m.indices.entries c.args.key.now = c.in-None.ensures in
      let none = sym (archives_nowhere m.indexed c.args.key.now unknown) in
      absurd (room_nowhere g.A.Cells.is_ready c.args.schema.now (Put (sample_of_unkeyed c.args.key.now c.args.sample))
      (entries_of m) none h);
}
