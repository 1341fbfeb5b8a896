use Rattle.std.proofs.Common.{pos, ap, ◌∙◌}
use Rattle.rr_packed.specs.PackedRows.{cells_packed, entries_at, items_packed}
use Rattle.rr_packed.proofs.packed_rows.PackedRows.cells.Goals as goal

pub returns-clause-rows : goal.returns-clause-rows
unfolding items_packed
returns-clause-rows c = λ number.
    ap (λ cells. entries_at cells (pos number)) (c.of.ensures ∙ ap cells_packed c.deref.ensures.value)
