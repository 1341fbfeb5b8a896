use Rattle.std.proofs.Common.{◌≡◌, drop}
use Rattle.toml.specs.View.{items_view}
use Rattle.rr_document.specs.Document.{archives_in}
use Rattle.rr_document.proofs.DocumentLemmas.{with_prefix}
use Rattle.rr_document.proofs.document.archives_in.Given as goal

-- the archives so far and those of the tables that are left are all archives
abbrev pub invariant-loop-value : goal.invariant-loop-value
invariant-loop-value l = with_prefix l.archives.items (archives_in (items_view (drop l.value-index l.values.items)))
    ≡ archives_in (items_view l.values.items)
