-- The schema that a file's own header names.
use Rattle.std.specs.Prelude.{ℕ, Bool, true, false, List, take, IsOk}
use Rattle.rr_schema.specs.Schema.{Layout}
use Rattle.rr_journal.specs.declared.fault.JournalFault.{JournalFault}
use Rattle.rr_journal.specs.declared.fault.JournalFault.TheVariants.{BadDigest, SchemaDiffers, Short}
use Rattle.rr_journal.specs.Header.{header_at, header_len}
use Rattle.rr_directory.specs.declared.fault.FileFault.{FileFault}
use Rattle.rr_directory.specs.declared.fault.FileFault.TheVariants.{BadHeader}
use Rattle.rr_directory.specs.Fault.{of_header}

-- the header of a file is whole under a schema: so it names that one
abbrev pub IsWholeUnder : Layout → List ℕ → Type 0
IsWholeUnder s bytes = IsOk (header_at s (take (header_len s) bytes))

-- a header differs from the schema that it names itself only if that is none: it is damaged, or too short to name one
abbrev pub own_fault : JournalFault → Bool → FileFault
own_fault SchemaDiffers true = BadHeader BadDigest
own_fault SchemaDiffers false = BadHeader Short
own_fault fault named = of_header fault
