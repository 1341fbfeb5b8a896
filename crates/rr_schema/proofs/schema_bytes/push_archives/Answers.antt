use Rattle.std.proofs.Common.{◌∙◌, ◌++◌, ap}
use Rattle.rr_schema.specs.declared.archive.ArchiveSpec.{ArchiveSpec}
use Rattle.rr_schema.specs.SchemaBytes.{archive_bytes}
use Rattle.std.proofs.Common.{get_or}
use Rattle.rr_schema.proofs.SchemaBytesLemmas.{archives_more}
use Rattle.rr_schema.proofs.schema_bytes.push_archives.Goals as goal

pub loop-archive-preserved : goal.loop-archive-preserved
loop-archive-preserved c =
    let any : ArchiveSpec = record { steps = 0; rows = 0; num = 0; den = 0 } in
    let i = c.loop-archive.archive-index in
    c.in_ok-push_archive.ensures ∙ ap (λ l. l ++ archive_bytes (get_or c.args.archives.items.now i any))
    c.loop-archive.invariant
    ∙ archives_more c.args.bytes.now.items c.args.archives.items.now i any c.loop-archive-test.true
