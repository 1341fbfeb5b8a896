use Rattle.std.proofs.Common.{rules, ◌≡◌, ◌<◌, ◌≤◌, length, sym, ap, ◌∙◌, Some, to_z, of_z, w64}
use Rattle.std.specs.Prelude.{slice_get}
use Rattle.std.proofs.lemmas.Option.{slice_get-get_or, slice_get_past}
use Rattle.rr_ring.specs.declared.stored_row.StoredRow.{StoredRow}
use Rattle.rr_ring.specs.StoredRows.{items_at}
use Rattle.rr_ring.specs.Blocks.{block_items}
use Rattle.rr_ring.proofs.block.Block.entries.Goals as goal

pub returns-in-Some : goal.returns-in-Some
unfolding block_items
returns-in-Some c =
    let rows = c.args.self.now.rows.items in
    let row : StoredRow = c.in-Some.row.now in
    let slot : to_z w64 (of_z w64 c.args.slot) ≡ c.args.slot = search rules in
    let all : c.deref.result.now ≡ rows = search rules in
    let within : c.args.number < length c.deref.result.now = c.in-Some.ensures.lookup.3.0 in
    let has : slice_get rows c.args.number ≡ Some row =
    ap (λ xs. slice_get xs c.args.number) (sym all) ∙ slice_get-get_or c.deref.result.now c.args.number row within
    ∙ ap (λ x. Some x) (sym c.in-Some.ensures.lookup.1) in
    c.entries.ensures ∙ ap (items_at (Some row)) slot ∙ ap (λ o. items_at o c.args.slot) (sym has)

pub returns-in-None : goal.returns-in-None
unfolding block_items
returns-in-None c =
    let rows = c.args.self.now.rows.items in
    let all : c.deref.result.now ≡ rows = search rules in
    let past : length rows ≤ c.args.number = rw all at c.in-None.ensures.lookup.3 in
    sym (ap (λ o. items_at o c.args.slot) (slice_get_past rows c.args.number past))
