use Rattle.std.proofs.Common.{rules, ◌≡◌, ◌+◌, [], ◌∷◌, Some, slice_get, map, ap, sym, ◌∙◌, subst}
use Rattle.rr_replica.specs.Indexed.{entries_at, items_of}
use Rattle.rr_cells.specs.Listing.{seen_cell, count_of}
use Rattle.rr_replica.specs.Series.{cells_from, all_cells}
use Rattle.rr_replica.specs.SeriesMap.{entries_of}
use Rattle.rr_replica.specs.InMemory.{held_series}
use Rattle.rr_replica.proofs.Counted.{get-all_first, get-all_later, entries-held_series}
use Rattle.rr_replica.proofs.IndexedLemmas.{entries_ordered}
use Rattle.rr_replica.proofs.WalkLemmas.{AreFew, walk_cells, walk_few}
use Rattle.rr_replica.proofs.nth_cell.nth_cell.Goals as goal

pub nth_in-requires : goal.nth_in-requires
nth_in-requires g c =
    let archives = c.args.series.now.archives.items in
    let more : c.loop-key.key-iterator ≡ (c.in-Some.key.now, c.in-Some.index.now) ∷ c.next.new.self = search rules in
    let few = walk_few (c.in-Some.key.now, c.in-Some.index.now) c.next.new.self archives
    (subst (λ es. AreFew (entries_at es archives)) more c.loop-key.invariant.1) in
    rw c.at.ensures few.0

pub returns-in-Ok : goal.returns-in-Ok
returns-in-Ok g c =
    let cells = g.A.Cells.cells in
    let m = c.args.series.now in
    let archives = m.archives.items in
    let rest = c.next.new.self in
    let key = c.in-Some.key.now in
    let index = c.in-Some.index.now in
    let items = items_of (slice_get archives index) in
    let more : c.loop-key.key-iterator ≡ (key, index) ∷ rest = search rules in
    let found : slice_get (cells_from key 0 (map cells items)) c.loop-key.left ≡ Some (seen_cell c.in-Ok.cell) =
    ap (λ l. slice_get (cells_from key 0 (map cells l)) c.loop-key.left) (sym c.at.ensures)
    ∙ c.in-Ok.ensures.found in
    sym (get-all_first key (map cells items) (held_series cells (entries_at rest archives)) c.loop-key.left
    (seen_cell c.in-Ok.cell) found)
    ∙ ap (λ l. slice_get l c.loop-key.left) (sym (walk_cells cells (key, index) rest archives))
    ∙ ap (λ es. slice_get (all_cells (held_series cells (entries_at es archives))) c.loop-key.left) (sym more)
    ∙ c.loop-key.invariant.0
    ∙ ap (λ es. slice_get es c.args.number) (sym (entries-held_series cells (entries_of m) (entries_ordered m.indexed)))

pub loop-key-preserved : goal.loop-key-preserved
loop-key-preserved g c =
    let cells = g.A.Cells.cells in
    let archives = c.args.series.now.archives.items in
    let rest = c.next.new.self in
    let key = c.in-Some.key.now in
    let index = c.in-Some.index.now in
    let items = items_of (slice_get archives index) in
    let more : c.loop-key.key-iterator ≡ (key, index) ∷ rest = search rules in
    let past : c.loop-key.left ≡ count_of (map cells items) + c.in-Err.rest = c.in-Err.ensures.past
    ∙ ap (λ l. count_of (map cells l) + c.in-Err.rest) c.at.ensures in (
      sym (get-all_later key (map cells items) (held_series cells (entries_at rest archives)) c.loop-key.left
          c.in-Err.rest past)
          ∙ ap (λ l. slice_get l c.loop-key.left) (sym (walk_cells cells (key, index) rest archives))
          ∙ ap (λ es. slice_get (all_cells (held_series cells (entries_at es archives))) c.loop-key.left) (sym more)
          ∙ c.loop-key.invariant.0,
      (walk_few (key, index) rest archives (subst (λ es. AreFew (entries_at es archives)) more
          c.loop-key.invariant.1)).1,
    )

pub returns : goal.returns
returns g c =
    let m = c.args.series.now in
    let archives = m.archives.items in
    let none : c.loop-key.key-iterator ≡ [] = search rules in
    ap (λ es. slice_get (all_cells (held_series g.A.Cells.cells (entries_at es archives))) c.loop-key.left) (sym none)
    ∙ c.loop-key.invariant.0
    ∙ ap (λ es. slice_get es c.args.number) (sym (entries-held_series g.A.Cells.cells (entries_of m)
    (entries_ordered m.indexed)))
