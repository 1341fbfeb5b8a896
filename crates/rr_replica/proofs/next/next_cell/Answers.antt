use Rattle.std.proofs.Common.{rules, ◌≡◌, [], ◌∷◌, slice_get, ap, sym, ◌∙◌, subst}
use Rattle.std.specs.BTreeMap.Range.{entries_between}
use Rattle.std.specs.declared.ops.Bound.TheVariants.{Included, Unbounded}
use Rattle.std.specs.Option.{option_map}
use Rattle.rr_archive.specs.CellSlots.{cell_slot}
use Rattle.rr_text.specs.Bytes.{bytes_cmp}
use Rattle.rr_replica.specs.Indexed.{entries_at}
use Rattle.rr_cells.specs.Listing.{seen_cell, first_after}
use Rattle.rr_replica.specs.Listing.{seen_name}
use Rattle.rr_replica.specs.SeriesMap.{entries_of}
use Rattle.rr_replica.proofs.Counted.{entries-held_series}
use Rattle.rr_replica.proofs.IndexedLemmas.{entries_ordered}
use Rattle.rr_replica.proofs.NextCell.{LeftFrom, left_from, left_none}
use Rattle.rr_replica.proofs.WalkLemmas.{AreFew, AreFrom, walk_few, between_at, between_few, from_key, walk_more, walk_found}
use Rattle.rr_replica.proofs.next.next_cell.Goals as goal

pub loop-key-init : goal.loop-key-init
loop-key-init g c =
    let name = c.args.name.now in
    let m = c.args.series.now in
    let left : c.into_iter-key-iterator.result ≡ entries_between bytes_cmp (Included name.key.now) Unbounded
    m.indices.entries = c.into_iter-key-iterator.ensures.into_iter_gives ∙ (c.range-key-items.ensures.between tt) in
    let entries = ap (λ es. entries_at es m.archives.items) left
    ∙ sym (between_at (Included name.key.now) Unbounded m.indices.entries m.archives.items) in (
      left_from name.key.now name.archive (cell_slot name.slot name.origin) g.A.Cells.cells (entries_of m)
          (entries_at c.into_iter-key-iterator.result m.archives.items) c.requires entries,
      subst AreFew (sym entries) (between_few (Included name.key.now) Unbounded (entries_of m) c.requires),
      subst (AreFrom name.key.now) (sym left) (from_key name.key.now m.indices.entries),
    )

pub next_in-requires : goal.next_in-requires
next_in-requires g c =
    let name = c.args.name.now in
    let archives = c.args.series.now.archives.items in
    let rest = c.next.new.self in
    let key = c.in-Some-2.key.now in
    let index = c.in-Some-2.index.now in
    let more : c.loop-key.key-iterator ≡ (key, index) ∷ rest = search rules in
    let few = walk_few (key, index) rest archives (subst (λ es. AreFew (entries_at es archives)) more
    c.loop-key.invariant.1) in
    record {
      not_before = (subst (AreFrom name.key.now) more c.loop-key.invariant.2).0;
      few_archives =
          rw c.at.ensures few.0;
    }

pub returns-in-Some-next_in : goal.returns-in-Some-next_in
returns-in-Some-next_in g c =
    let name = c.args.name.now in
    let m = c.args.series.now in
    let rest = c.next.new.self in
    let key = c.in-Some-2.key.now in
    let index = c.in-Some-2.index.now in
    let more : c.loop-key.key-iterator ≡ (key, index) ∷ rest = search rules in
    let left = subst (λ es. LeftFrom name.key.now name.archive (cell_slot name.slot name.origin) g.A.Cells.cells
    (entries_of m) (entries_at es m.archives.items)) more c.loop-key.invariant.0 in
    let found = sym (rw c.at.ensures at c.next_in.ensures) ∙ ap (option_map seen_cell) c.in-Some-next_in.is in
    sym (ap (first_after (seen_name name)) (entries-held_series g.A.Cells.cells (entries_of m)
    (entries_ordered m.indexed))
    ∙ walk_found name.key.now name.archive (cell_slot name.slot name.origin) g.A.Cells.cells (entries_of m)
    (entries_at rest m.archives.items) key (slice_get m.archives.items index) (seen_cell c.in-Some-next_in.cell)
    left found)

pub loop-key-preserved : goal.loop-key-preserved
loop-key-preserved g c =
    let name = c.args.name.now in
    let m = c.args.series.now in
    let rest = c.next.new.self in
    let key = c.in-Some-2.key.now in
    let index = c.in-Some-2.index.now in
    let more : c.loop-key.key-iterator ≡ (key, index) ∷ rest = search rules in
    let left = subst (λ es. LeftFrom name.key.now name.archive (cell_slot name.slot name.origin) g.A.Cells.cells
    (entries_of m) (entries_at es m.archives.items)) more c.loop-key.invariant.0 in
    let none = sym (rw c.at.ensures at c.next_in.ensures) ∙ ap (option_map seen_cell) c.in_default-next_in.is in (
      walk_more name.key.now name.archive (cell_slot name.slot name.origin) g.A.Cells.cells (entries_of m)
          (entries_at rest m.archives.items) key (slice_get m.archives.items index) left none,
      (walk_few (key, index) rest m.archives.items (subst (λ es. AreFew (entries_at es m.archives.items)) more
          c.loop-key.invariant.1)).1,
      (subst (AreFrom name.key.now) more c.loop-key.invariant.2).1,
    )

pub returns : goal.returns
returns g c =
    let name = c.args.name.now in
    let m = c.args.series.now in
    let past : c.loop-key.key-iterator ≡ [] = search rules in
    let none : entries_at c.loop-key.key-iterator m.archives.items ≡ [] =
    ap (λ es. entries_at es m.archives.items) past in
    sym (ap (first_after (seen_name name)) (entries-held_series g.A.Cells.cells (entries_of m)
    (entries_ordered m.indexed))
    ∙ left_none name.key.now name.archive (cell_slot name.slot name.origin) g.A.Cells.cells (entries_of m)
    (entries_at c.loop-key.key-iterator m.archives.items) c.loop-key.invariant.0 none)
