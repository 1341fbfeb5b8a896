use Rattle.std.proofs.Common.{rules, ◌≡◌, ◌+◌, ◌-◌, ◌++◌, ◌∷◌, [], map, take, sym, ap, ◌∙◌, to_z, of_z, w64}
use Rattle.std.specs.FinMap.{entries, entries_sorted}
use Rattle.std.specs.List.{filter}
use Rattle.std.specs.Option.{option_map}
use Rattle.std.proofs.lemmas.List.{map_push}
use Rattle.rr_cells.specs.Listing.{owned_cell, seen_cell}
use Rattle.rr_replica.proofs.NextCell.{is_past}
use Rattle.rr_replica.specs.ReplicaWithRoom.{replica_state}
use Rattle.rr_delta.specs.Summaries.{cells_from}
use Rattle.rr_delta.proofs.Walks.{walked_on}
use Rattle.rr_changes.specs.Changes.{name_in}
use Rattle.rr_changes.proofs.WalkingLemmas.{all_told, lists_next, none_more, one_told}
use Rattle.rr_changes.proofs.walking.next_cells.Goals as goal

pub loop-preserved : goal.loop-preserved
loop-preserved g c =
    let es = entries c.args.replica.now.cells in
    let cell = c.in-Some.cell in
    let e = seen_cell cell in
    let new = c.in_ok-to_cell.field-0 in
    let prefix = map owned_cell c.loop.cells.items in
    let slot : to_z w64 (of_z w64 cell.slot) ≡ cell.slot = search rules in
    let owned : owned_cell new ≡ e = search rules in
    let items : c.push.new.self.items ≡ c.loop.cells.items ++ new ∷ [] = search rules in
    let left = ap (λ o. cells_from o es) (rw slot at (rw c.loop.invariant.walk at c.next_cell-next.ensures.next).listed)
    ∙ walked_on e.0 es (entries_sorted c.args.replica.now.cells) in
    record {
      cells =
          (λ i. (ap (map owned_cell) items ∙ map_push owned_cell c.loop.cells.items new
          ∙ ap (λ v. prefix ++ v ∷ []) owned) i ++ take (c.args.limit - (c.loop.counter + 1)) (left i))
          ∙ one_told prefix c.args.limit c.loop.counter e (filter (is_past e.0) es) c.loop-test.true
          ∙ ap (λ o. prefix ++ take (c.args.limit - c.loop.counter) (cells_from (option_map seen_cell o) es))
          (sym c.in-Some.is)
          ∙ c.loop.invariant.cells;
      walk = c.next_cell-next.ensures.same ∙ c.loop.invariant.walk;
    }

pub returns-in_default : goal.returns-in_default
returns-in_default g c = lists_next (replica_state c.args.replica.now) c.args.limit (name_in c.args.after) c.loop.cells
    c.schema-schema.ensures.holds (sym (none_more (map owned_cell c.loop.cells.items) (c.args.limit - c.loop.counter))
    ∙ ap (λ o. map owned_cell c.loop.cells.items ++ take (c.args.limit - c.loop.counter) (cells_from (option_map seen_cell o)
    (entries c.args.replica.now.cells))) (sym c.in_default.is)
    ∙ c.loop.invariant.cells)

pub returns : goal.returns
returns g c = lists_next (replica_state c.args.replica.now) c.args.limit (name_in c.args.after) c.loop.cells
    c.schema-schema.ensures.holds (sym (all_told (map owned_cell c.loop.cells.items) c.args.limit c.loop.counter
    (cells_from (option_map seen_cell c.loop.next) (entries c.args.replica.now.cells)) c.loop-test.false)
    ∙ c.loop.invariant.cells)
