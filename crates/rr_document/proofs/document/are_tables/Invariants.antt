use Rattle.std.proofs.Common.{◌≡◌, drop}
use Rattle.toml.specs.View.{items_view}
use Rattle.rr_document.specs.Document.{are_tables}
use Rattle.rr_document.proofs.document.are_tables.Given as goal

-- the values that are left decide
abbrev pub invariant-loop-value : goal.invariant-loop-value
invariant-loop-value l = are_tables (items_view (drop l.value-index l.values.items))
    ≡ are_tables (items_view l.values.items)
