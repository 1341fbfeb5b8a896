use Rattle.std.proofs.Common.{◌≡◌, ◌++◌, take}
use Rattle.std.specs.List.{flat_map}
use Rattle.rr_schema.specs.SchemaBytes.{archive_bytes}
use Rattle.rr_schema.proofs.schema_bytes.push_archives.Given as goal

-- the archives so far are added
abbrev pub invariant-loop-archive : goal.invariant-loop-archive
invariant-loop-archive l = l.bytes.items ≡ l.initial.bytes.items
    ++ flat_map archive_bytes (take l.archive-index l.archives.items.now)
