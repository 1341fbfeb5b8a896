use Rattle.std.proofs.Common.{rules, ◌≡◌, ◌<◌, ◌+◌, ◌-◌, length, Some, None, slice_get, ap, sym, ◌∙◌, subst, arith}
use Rattle.std.specs.Option.{option_map}
use Rattle.std.specs.FinMap as fin
use Rattle.rr_archive.specs.Cells.{cell_of}
use Rattle.rr_replica.proofs.Counted.{IsLeft, left_start, left_seen, left_past, none_seen, one_item}
use Rattle.rr_replica.proofs.nth_cell.nth_in.Goals as goal

pub loop-i-init : goal.loop-i-init
loop-i-init g c = left_start g.A.Cells.cells c.args.key.now c.args.archives.now c.args.number

pub returns-in-Some-clause-found : goal.returns-in-Some-clause-found
returns-in-Some-clause-found g c =
    let within : c.loop-i.i < length c.args.archives.now = search rules in
    let cell : Some c.in-Some.cell ≡ option_map cell_of
    (slice_get (fin.entries (g.A.Cells.cells c.index-archives-i.result)) c.loop-i.left) = search rules in
    left_seen g.A.Cells.cells c.args.key.now c.args.archives.now c.args.number c.loop-i.i c.loop-i.left
    c.index-archives-i.result c.in-Some.cell within c.index-archives-i.is c.loop-i.invariant cell
    ∙ ap (λ x. Some x) (sym c.named.ensures)

pub overflow_sub-left : goal.overflow_sub-left
overflow_sub-left g c =
    let within : c.loop-i.i < length c.args.archives.now = search rules in
    let none : None ≡ option_map cell_of (slice_get (fin.entries (g.A.Cells.cells c.index-archives-i.result))
    c.loop-i.left) = search rules in
    let count : c.cell_count-left.result ≡ fin.len (g.A.Cells.cells c.index-archives-i.result) =
    c.cell_count-left.ensures ∙ ap (λ a. fin.len (g.A.Cells.cells a))
    (one_item c.args.archives.now c.loop-i.i c.index-archives-i.result c.index-archives-i-in-None.result within
    c.index-archives-i.is c.index-archives-i-in-None.is) in
    let past = none_seen (g.A.Cells.cells c.index-archives-i.result) c.loop-i.left none in
    omega arith

pub loop-i-preserved : goal.loop-i-preserved
loop-i-preserved g c =
    let within : c.loop-i.i < length c.args.archives.now = search rules in
    let none : None ≡ option_map cell_of (slice_get (fin.entries (g.A.Cells.cells c.index-archives-i.result))
    c.loop-i.left) = search rules in
    let count : c.cell_count-left.result ≡ fin.len (g.A.Cells.cells c.index-archives-i.result) =
    c.cell_count-left.ensures ∙ ap (λ a. fin.len (g.A.Cells.cells a))
    (one_item c.args.archives.now c.loop-i.i c.index-archives-i.result c.index-archives-i-in-None.result within
    c.index-archives-i.is c.index-archives-i-in-None.is) in
    subst (λ n. IsLeft g.A.Cells.cells c.args.key.now c.args.archives.now c.args.number (c.loop-i.i + 1)
    (c.loop-i.left - n)) (sym count)
    (left_past g.A.Cells.cells c.args.key.now c.args.archives.now c.args.number c.loop-i.i c.loop-i.left
    c.index-archives-i.result within c.index-archives-i.is c.loop-i.invariant none)
