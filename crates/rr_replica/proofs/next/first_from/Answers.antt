use Rattle.std.proofs.Common.{rules, ◌≡◌, ◌<◌, ◌≤◌, length, Some, None, slice_get, ap, sym, ◌∙◌}
use Rattle.std.specs.Option.{option_map}
use Rattle.std.specs.FinMap as fin
use Rattle.rr_archive.specs.Cells.{cell_of}
use Rattle.rr_replica.proofs.NextCell.{first_found, first_later, first_none}
use Rattle.rr_replica.proofs.next.first_from.Goals as goal

pub returns-in-Some : goal.returns-in-Some
returns-in-Some g c =
    let within : c.loop-i.i < length c.args.archives.now = search rules in
    let cell : Some c.in-Some.cell ≡ option_map cell_of
    (slice_get (fin.entries (g.A.Cells.cells c.index-archives-i.result)) 0) = search rules in
    ap (λ x. Some x) c.named.ensures
    ∙ sym (first_found c.args.key.now c.loop-i.i g.A.Cells.cells c.args.archives.now c.index-archives-i.result
    c.in-Some.cell within c.index-archives-i.is cell)
    ∙ c.loop-i.invariant

pub loop-i-preserved : goal.loop-i-preserved
loop-i-preserved g c =
    let within : c.loop-i.i < length c.args.archives.now = search rules in
    let none : None ≡ option_map cell_of (slice_get (fin.entries (g.A.Cells.cells c.index-archives-i.result)) 0) =
    search rules in
    first_later c.args.key.now c.loop-i.i g.A.Cells.cells c.args.archives.now c.index-archives-i.result within
    c.index-archives-i.is none
    ∙ c.loop-i.invariant

pub returns : goal.returns
returns g c =
    let past : length c.args.archives.now ≤ c.loop-i.i = search rules in
    sym (first_none c.args.key.now c.loop-i.i g.A.Cells.cells c.args.archives.now past) ∙ c.loop-i.invariant
