use Rattle.std.proofs.Common.{rules, ◌≡◌, ◌+◌, [], ◌∷◌, length, map, slice_get, ap, sym, ◌∙◌}
use Rattle.rr_replica.specs.Indexed.{entries_at, items_of}
use Rattle.rr_cells.specs.Listing.{at_most_usize, count_of}
use Rattle.rr_replica.specs.Series.{all_cells}
use Rattle.rr_replica.specs.SeriesMap.{entries_of}
use Rattle.rr_replica.specs.InMemory.{held_series}
use Rattle.rr_replica.proofs.Counted.{at_most-then, at_most-start, at_most-fits, len-held_series}
use Rattle.rr_replica.proofs.IndexedLemmas.{entries_ordered}
use Rattle.rr_replica.proofs.WalkLemmas.{walk_length}
use Rattle.rr_replica.proofs.nth_cell.count_cells.Goals as goal

pub loop-index-preserved : goal.loop-index-preserved
loop-index-preserved g c =
    let cells = g.A.Cells.cells in
    let archives = c.args.series.now.archives.items in
    let rest = c.next.new.self in
    let key = c.in-Some.field-0-0.now in
    let index = c.in-Some.index.now in
    let items = items_of (slice_get archives index) in
    let more : c.loop-index.index-iterator ≡ (key, index) ∷ rest = search rules in
    let part = count_of (map cells items) in
    let left = length (all_cells (held_series cells (entries_at rest archives))) in
    let sum : c.count_in-count.result ≡ at_most_usize (c.loop-index.count + part) = c.count_in-count.ensures
    ∙ ap (λ l. at_most_usize (c.loop-index.count + count_of (map cells l))) c.at.ensures in (
      at_most-then part left c.loop-index.count c.count_in-count.result sum
          ∙ ap (λ n. at_most_usize (c.loop-index.count + n)) (sym (walk_length cells (key, index) rest archives))
          ∙ ap (λ es. at_most_usize (c.loop-index.count
          + length (all_cells (held_series cells (entries_at es archives))))) (sym more)
          ∙ c.loop-index.invariant.0,
      at_most-fits c.count_in-count.result (c.loop-index.count + part) sum,
    )

pub returns : goal.returns
returns g c =
    let m = c.args.series.now in
    let archives = m.archives.items in
    let none : c.loop-index.index-iterator ≡ [] = search rules in
    at_most-start c.loop-index.count c.loop-index.invariant.1
    ∙ ap (λ es. at_most_usize (c.loop-index.count + length
    (all_cells (held_series g.A.Cells.cells (entries_at es archives))))) (sym none)
    ∙ c.loop-index.invariant.0
    ∙ ap at_most_usize (sym (len-held_series g.A.Cells.cells (entries_of m) (entries_ordered m.indexed)))
