use Rattle.std.proofs.Common.{rules, ◌≡◌, ◌<◌, ◌≤◌, ◌+◌, arith, length, get_or, min, map, take, ap, ◌∙◌}
use Rattle.std.specs.FinMap as fin
use Rattle.rr_cells.specs.Listing.{count_of, at_most_usize}
use Rattle.rr_replica.proofs.Counted.{at_most-sum, count_more, take_all}
use Rattle.rr_replica.proofs.nth_cell.count_in.Goals as goal

pub loop-archive-preserved : goal.loop-archive-preserved
loop-archive-preserved g c =
    let xs = c.args.archives.now in
    let within : c.loop-archive.archive-index < length xs = search rules in
    let item : c.archive-item.result ≡ get_or xs c.loop-archive.archive-index c.archive-item.result = search rules in
    let one : c.cell_count.result ≡ fin.len (g.A.Cells.cells
    (get_or xs c.loop-archive.archive-index c.archive-item.result)) = c.cell_count.ensures
    ∙ ap (λ a. fin.len (g.A.Cells.cells a)) item in
    at_most-sum c.loop-archive.count (fin.len (g.A.Cells.cells
    (get_or xs c.loop-archive.archive-index c.archive-item.result)))
    (c.args.others + count_of (map g.A.Cells.cells (take c.loop-archive.archive-index xs)))
    c.saturating_add-count.result c.loop-archive.invariant
    (c.saturating_add-count.ensures ∙ ap (λ n. min (c.loop-archive.count + n) 18_446_744_073_709_551_615) one)
    ∙ ap at_most_usize {x = c.args.others + count_of (map g.A.Cells.cells (take c.loop-archive.archive-index xs))
    + fin.len (g.A.Cells.cells (get_or xs c.loop-archive.archive-index c.archive-item.result))}
    {y = c.args.others + count_of (map g.A.Cells.cells (take (c.loop-archive.archive-index + 1) xs))}
    (let more = count_more g.A.Cells.cells xs c.loop-archive.archive-index c.archive-item.result within in
    omega arith)

pub returns : goal.returns
returns g c =
    let past : length c.args.archives.now ≤ c.loop-archive.archive-index = search rules in
    c.loop-archive.invariant ∙ ap (λ xs. at_most_usize (c.args.others + count_of (map g.A.Cells.cells xs)))
    (take_all c.args.archives.now c.loop-archive.archive-index past)
