use Rattle.std.proofs.Common.{rules, ◌≡◌, ℤ, ◌∷◌, [], map, Some, sym, ap, ◌∙◌, subst, to_z, of_z, w64}
use Rattle.rr_archive.specs.declared.entry.Entry.{Entry}
use Rattle.rr_archive.specs.Cells.{row_of}
use Rattle.rr_fetch.specs.Consolidation.{consolidation_of, IsRow}
use Rattle.rr_fetch.specs.LentRows.{lent_cells}
use Rattle.rr_fetch.proofs.LentRowsLemmas.{with_slot, entries_back}
use Rattle.rr_fetch.proofs.answering.value_at.Goals as goal

pub consolidate_one-value-requires : goal.consolidate_one-value-requires
consolidate_one-value-requires g c =
    let row = row_of (lent_cells (λ a. g.A.Cells.cells a.now) c.args.rows.now.archive) c.args.slot in
    let slot : to_z w64 (of_z w64 c.args.slot) ≡ c.args.slot = search rules in
    let cells : c.cells.result.now ≡ with_slot c.args.slot row = c.cells.ensures ∙ rw slot at c.in_ok-read.ensures.row in
    let lone = rw c.in-Some.is at c.lone_entry.ensures in
    let one : row ≡ c.in-Some.entry.now ∷ [] =
    sym (entries_back c.args.slot row) ∙ ap (map (λ (c : ℤ × Entry). c.1)) (sym cells) ∙ lone in
    record { archive_exists = search rules; row = subst IsRow one c.requires.row }

pub returns-in-Some-clause-value : goal.returns-in-Some-clause-value
returns-in-Some-clause-value g c =
    let row = row_of (lent_cells (λ a. g.A.Cells.cells a.now) c.args.rows.now.archive) c.args.slot in
    let slot : to_z w64 (of_z w64 c.args.slot) ≡ c.args.slot = search rules in
    let cells : c.cells.result.now ≡ with_slot c.args.slot row = c.cells.ensures ∙ rw slot at c.in_ok-read.ensures.row in
    let lone = rw c.in-Some.is at c.lone_entry.ensures in
    let one : row ≡ c.in-Some.entry.now ∷ [] =
    sym (entries_back c.args.slot row) ∙ ap (map (λ (c : ℤ × Entry). c.1)) (sym cells) ∙ lone in
    c.consolidate_one-value.ensures
    ∙ ap (consolidation_of c.args.schema.now c.args.request.now.archive c.args.request.now.cf) (sym one)

pub consolidate-requires : goal.consolidate-requires
consolidate-requires g c =
    let row = row_of (lent_cells (λ a. g.A.Cells.cells a.now) c.args.rows.now.archive) c.args.slot in
    let slot : to_z w64 (of_z w64 c.args.slot) ≡ c.args.slot = search rules in
    let cells : c.cells-2.result.now ≡ with_slot c.args.slot row = c.cells-2.ensures
    ∙ rw slot at c.in_ok-read.ensures.row in
    let copied : c.deref.result.now ≡ row = c.deref.ensures.value ∙ c.in_ok-copy_entries.ensures
    ∙ ap (map (λ (c : ℤ × Entry). c.1)) cells ∙ entries_back c.args.slot row in
    record { archive_exists = search rules; row = subst IsRow (sym copied) c.requires.row }

pub returns-clause-value : goal.returns-clause-value
returns-clause-value g c =
    let row = row_of (lent_cells (λ a. g.A.Cells.cells a.now) c.args.rows.now.archive) c.args.slot in
    let slot : to_z w64 (of_z w64 c.args.slot) ≡ c.args.slot = search rules in
    let cells : c.cells-2.result.now ≡ with_slot c.args.slot row = c.cells-2.ensures
    ∙ rw slot at c.in_ok-read.ensures.row in
    let copied : c.deref.result.now ≡ row = c.deref.ensures.value ∙ c.in_ok-copy_entries.ensures
    ∙ ap (map (λ (c : ℤ × Entry). c.1)) cells ∙ entries_back c.args.slot row in
    c.consolidate.ensures
    ∙ ap (consolidation_of c.args.schema.now c.args.request.now.archive c.args.request.now.cf) copied
