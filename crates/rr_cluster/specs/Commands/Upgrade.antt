-- upgrade S:R:N/D
use Rattle.std.specs.Prelude.{ℕ, List, Result, Ok, ok_or}
use Rattle.std.specs.FinMap.{empty}
use Rattle.rr_schema.specs.declared.archive.ArchiveSpec.{ArchiveSpec}
use Rattle.rr_schema.specs.Schema.{Layout}
use Rattle.rr_schema.specs.Check.{schema_fault}
use Rattle.rr_cells.specs.Raising.{with_archive}
use Rattle.rr_cluster.specs.declared.fault.CommandFault.{CommandFault}
use Rattle.rr_cluster.specs.declared.fault.CommandFault.TheVariants.{BadNumber}
use Rattle.rr_text.specs.Results.{◌>>=◌}
use Rattle.rr_cluster.specs.Commands.Schema.{unless_faulty}
use Rattle.rr_cluster.specs.State.{State}
use Rattle.rr_cluster.specs.Words.{archive_of}

-- a schema with one more archive, if it has no fault
abbrev pub layout_with : Layout → ArchiveSpec → Result Layout CommandFault
layout_with s a =
    let archives = with_archive a s.archives in
    unless_faulty (schema_fault s.step archives) (record { step = s.step; archives = archives })

-- the schema has one more archive; nodes and pages are gone, and their names are free, while snapshots stay as they are
-- and origins stay used
unfoldable pub after_upgrade : {K : Type 0} → State K → List ℕ → Result (State K) CommandFault
after_upgrade m word = do
  archive ← ok_or (archive_of word) BadNumber
  s ← layout_with m.schema archive
  Ok (record m { schema = s; nodes = empty; pages = empty })
