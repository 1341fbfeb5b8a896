use Rattle.std.proofs.Common.{rules, ◌≡◌, sym, ap, ◌∙◌, Some, None}
use Rattle.std.proofs.Math.Facts.{to_z-of_z}
use Rattle.std.specs.Int.{w64}
use Rattle.rr_archive.specs.ArchiveState.{row_in}
use Rattle.rr_archive.proofs.ArchiveStateLemmas.{items_of}
use Rattle.rr_archive.proofs.Listing.{row_of-cells_in, listed_from}
use Rattle.rr_archive.proofs.plain.PlainArchiveArchive.row.Goals as goal

pub returns-in-Some : goal.returns-in-Some
returns-in-Some c =
    let back = to_z-of_z {w = w64} {z = c.args.slot} (search rules) in
    let has : Some c.in-Some.row.now ≡ row_in c.args.self.now.slots.rows.entries c.args.slot =
    rw back at c.in-Some.ensures.value in
    let items : c.as_slice.result.now ≡ c.in-Some.row.now.items = search rules in
    let held = c.args.self.now.held in
    items ∙ ap items_of has ∙ sym (row_of-cells_in c.args.self.now.slots.rows.entries c.args.slot
    (listed_from c.args.self.now.slots.rows.entries c.args.self.now.slots.ordered c.args.self.now.slots.ascend))

pub returns-in-None : goal.returns-in-None
returns-in-None c =
    let back = to_z-of_z {w = w64} {z = c.args.slot} (search rules) in
    let none : None ≡ row_in c.args.self.now.slots.rows.entries c.args.slot = rw back at c.in-None.ensures.value in
    let held = c.args.self.now.held in
    ap items_of none ∙ sym (row_of-cells_in c.args.self.now.slots.rows.entries c.args.slot
    (listed_from c.args.self.now.slots.rows.entries c.args.self.now.slots.ordered c.args.self.now.slots.ascend))
