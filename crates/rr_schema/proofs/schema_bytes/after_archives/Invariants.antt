use Rattle.std.proofs.Common.{◌≡◌, ◌++◌, take}
use Rattle.std.specs.List.{flat_map}
use Rattle.rr_schema.specs.SchemaBytes.{archive_bytes}
use Rattle.rr_schema.proofs.schema_bytes.after_archives.Given as goal

-- the bytes are the archives so far, and what is left
abbrev pub invariant-loop-archive : goal.invariant-loop-archive
invariant-loop-archive l = l.bytes ≡ flat_map archive_bytes (take l.archive-index l.archives.items.now) ++ l.left
