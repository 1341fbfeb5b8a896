use Rattle.std.proofs.Common.{rules, ◌≡◌, [], set, get_or, refl, sym, ◌∙◌, subst, arith}
use Rattle.std.proofs.lemmas.Result.{on_ok_weaker, on_err_weaker}
use Rattle.rr_cells.specs.declared.op.Op.TheVariants.{Put}
use Rattle.rr_key.specs.Series.{IsKeyText}
use Rattle.rr_replica.specs.InMemory.{sample_of_unkeyed, keyed_sample}
use Rattle.rr_replica.specs.Indexed.{entries_at}
use Rattle.rr_replica.specs.SeriesMap.{entries_of}
use Rattle.rr_replica.proofs.IndexedLemmas.{number_found, same_number, element_found, entries_ordered, sets_at, still_indexed}
use Rattle.rr_replica.proofs.Each.{sized_many}
use Rattle.rr_cells.proofs.ReplicaStateLemmas.{IsTyped}
use Rattle.rr_replica.proofs.InMemoryLemmas.{before_found, can_take, cells_with, kept_with, cells_without, kept_without}
use Rattle.rr_replica.proofs.RoomLemmas.{room_found}
use Rattle.rr_replica.proofs.samples.store_at.Goals as goal

pub index_mut-requires : goal.index_mut-requires
index_mut-requires g c =
    let m = c.args.series.now in
    let many = m.indexed.many in
    let there = c.requires.there in
    let len = m.archives.ok.0 in
    omega (arith, many, there, len)

pub store_in-requires : goal.store_in-requires
store_in-requires g c =
    let m = c.args.series.now in
    let old = entries_of m in
    let key = get_or m.keys.items c.args.index [] in
    let at = number_found m.indexed c.args.index c.requires.there in
    let was = c.index_mut.result.now in
    let found = element_found m.indexed key c.args.index was at c.index_mut.ensures.value in
    record {
      of_schema = record {
        layout = c.requires.held.holds.layout;
        sized = c.requires.held.sized key was (sym found);
      };
      newer = can_take g.A.Cells.cells g.A.Cells.row_limit c.args.schema.now key c.args.sample old c.requires.held
          c.args.sample.number_at_most was.items (before_found g.A.Cells.cells g.A.Cells.row_limit c.args.schema.now
          key c.args.sample old c.requires.held c.args.sample.number_at_most was found);
    }

pub returns : goal.returns
returns g c =
    let cells = g.A.Cells.cells in
    let limit = g.A.Cells.row_limit in
    let schema = c.args.schema.now in
    let m = c.args.series.now in
    let old = entries_of m in
    let key = get_or m.keys.items c.args.index [] in
    let at = number_found m.indexed c.args.index c.requires.there in
    let was = c.index_mut.result.now in
    let found = element_found m.indexed key c.args.index was at c.index_mut.ensures.value in
    let now = c.store_in.new.archives in
    let new = entries_at m.indices.entries (set m.archives.items c.args.index now) in
    let sets = sets_at m.indexed key c.args.index now at in
    let ordered_before = entries_ordered m.indexed in
    let ordered = entries_ordered (still_indexed m.indexed c.args.index now) in
    let before = before_found cells limit schema key c.args.sample old c.requires.held
    c.args.sample.number_at_most was found in
    let text : c.index.result.now ≡ key = same_number m.keys.items c.args.index c.index.result.now c.requires.there
    c.index.ensures in
    let typed : IsTyped (keyed_sample key c.args.sample) = record {
      key = subst IsKeyText (c.text-text.ensures.value ∙ text) c.text-text.ensures.grammar;
      time = search rules;
      value = search rules;
    } in
    let many = sized_many limit schema was.items (c.requires.held.sized key was (sym found)) in
    let step = c.store_in.ensures in
    record {
      keys = refl;
      sample = record {
        put = on_ok_weaker c.store_in.result (cells_with cells limit schema key c.args.sample old
            c.requires.held c.args.sample.number_at_most new now sets ordered was.items before step.of_schema.sized
            many)
            step.put;
        held_with = on_ok_weaker c.store_in.result (kept_with cells limit schema key c.args.sample old
            c.requires.held c.args.sample.number_at_most new now sets ordered was.items before step.of_schema.sized
            typed
            many) step.put;
        unchanged = on_err_weaker c.store_in.result (cells_without cells limit schema key c.args.sample old
            c.requires.held c.args.sample.number_at_most new now sets ordered was.items before step.of_schema.sized)
            step.unchanged;
        held = on_err_weaker c.store_in.result (kept_without cells limit schema key c.args.sample old
            c.requires.held c.args.sample.number_at_most new now sets ordered was.items before step.of_schema.sized)
            step.unchanged;
        room = λ h. step.room (room_found g.A.Cells.is_ready schema (Put (sample_of_unkeyed key c.args.sample))
            old was found h);
      };
    }
