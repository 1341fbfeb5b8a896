use Rattle.std.proofs.Common.{rules, ◌≡◌, ◌++◌, ◌∷◌, ◌∙◌, List, [], ap, subst, map, length}
use Rattle.std.specs.List.{flat_map, range_with_len}
use Rattle.std.specs.Prelude.{OnOk}
use Rattle.rr_cells.specs.CellBounds.{NamedCell}
use Rattle.rr_changes.specs.Listing.{changes_in, named_cell}
use Rattle.rr_desk.specs.KeeperState.{cells_of}
use Rattle.rr_commit.specs.Packing.{Packs}
use Rattle.rr_commit.proofs.PackingLemmas.{archive_more}
use Rattle.rr_commit.proofs.packing.Packing.add_series.Goals as goal

pub loop-archive-preserved : goal.loop-archive-preserved
loop-archive-preserved g c done are =
    let k = c.args.keeper.now in
    let own = c.args.series.now in
    let i = c.loop-archive.archive in
    let before = flat_map (changes_in k.schema (cells_of k) own) (range_with_len 0 i) in
    let here : map (named_cell own.key i) c.cells.result.now ≡ changes_in k.schema (cells_of k) own i = search rules in
    subst (λ (es : List NamedCell). Packs c.add_cells.new.self done es 0)
    (ap (λ l. before ++ l) here ∙ archive_more (changes_in k.schema (cells_of k) own) i)
    (c.in_ok-add_cells.ensures done before (c.loop-archive.invariant done are))

pub returns : goal.returns
returns g c done are =
    let k = c.args.keeper.now in
    let own = c.args.series.now in
    let all : c.loop-archive.archive ≡ length k.schema.archives = search rules in
    subst (λ n. OnOk c.settle.result (Packs c.settle.new.self
    (done ++ flat_map (changes_in k.schema (cells_of k) own) (range_with_len 0 n) ∷ []) [] 0)) all
    (c.settle.ensures.series done
    (flat_map (changes_in k.schema (cells_of k) own) (range_with_len 0 c.loop-archive.archive))
    (c.loop-archive.invariant done are))
