use Rattle.std.proofs.Common.{rules, ◌≡◌, map, Some, ap, sym, ◌∙◌, to_z, of_z, w64}
use Rattle.std.specs.Option.{option_map}
use Rattle.rr_archive.specs.CellSlots.{cell_slot}
use Rattle.rr_archive.specs.Cells.{cell_of, next_cell}
use Rattle.rr_cells.specs.CellBounds.{NamedCell}
use Rattle.rr_replica.proofs.NextCell.{same_key, next_key_is_later, later_cells, own_found, own_none, own_past}
use Rattle.rr_replica.proofs.next.next_in.Goals as goal

pub returns-then-ne : goal.returns-then-ne
returns-then-ne g c =
    let name = c.args.name.now in
    let less = next_key_is_later name.key.now c.args.key.now c.requires.not_before (sym c.ne.ensures ∙ c.if-ne.true) in
    c.first_from.ensures ∙ sym (later_cells name.key.now name.archive (cell_slot name.slot name.origin) c.args.key.now
    (map g.A.Cells.cells c.args.archives.now) less)

pub returns-then-own-archives : goal.returns-then-own-archives
returns-then-own-archives g c =
    let name = c.args.name.now in
    let same = same_key name.key.now c.args.key.now (sym c.ne.ensures ∙ c.if-ne.false) in
    sym (own_past c.args.key.now name.archive (cell_slot name.slot name.origin) g.A.Cells.cells c.args.archives.now
    name.key.now same c.if-own-archives.true)

pub returns-in-Some : goal.returns-in-Some
returns-in-Some g c =
    let name = c.args.name.now in
    let same = same_key name.key.now c.args.key.now (sym c.ne.ensures ∙ c.if-ne.false) in
    let back : to_z w64 (of_z w64 name.slot) ≡ name.slot = search rules in
    let cell : Some c.in-Some.cell ≡ option_map cell_of
    (next_cell (g.A.Cells.cells c.index-archives-own.result) (cell_slot name.slot name.origin)) = sym c.in-Some.is
    ∙ rw back at c.next_cell.ensures in
    ap (λ (x : NamedCell). Some x) c.named.ensures
    ∙ sym (own_found c.args.key.now name.archive (cell_slot name.slot name.origin) g.A.Cells.cells c.args.archives.now
    name.key.now same c.index-archives-own.result c.in-Some.cell c.if-own-archives.false c.index-archives-own.is
    cell)

pub returns-in-None : goal.returns-in-None
returns-in-None g c =
    let name = c.args.name.now in
    let same = same_key name.key.now c.args.key.now (sym c.ne.ensures ∙ c.if-ne.false) in
    let back : to_z w64 (of_z w64 name.slot) ≡ name.slot = search rules in
    c.first_from-in-None.ensures
    ∙ sym (own_none c.args.key.now name.archive (cell_slot name.slot name.origin) g.A.Cells.cells c.args.archives.now
    name.key.now same c.index-archives-own.result c.if-own-archives.false c.index-archives-own.is
    (sym c.in-None.is ∙ rw back at c.next_cell.ensures))
