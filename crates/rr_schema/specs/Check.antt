-- The first fault of a schema, in the order of its checks.
use Rattle.std.specs.Prelude.{ℕ, ◌||◌, ◌==◌, nat_lt, nat_le, List, [], ◌∷◌, length, Option, Some, None, if◌then◌else◌}
use Rattle.rr_schema.specs.declared.archive.ArchiveSpec.{ArchiveSpec}
use Rattle.rr_schema.specs.declared.fault.SchemaFault.{SchemaFault}
use Rattle.rr_schema.specs.declared.fault.SchemaFault.TheVariants.{BadStep, NoArchive, TooManyArchives, BadSteps, BadRows, BadXff, StepsNotRising}
use Rattle.rr_text.specs.Results.{first_fault}
use Rattle.rr_text.specs.declared.limits.TheConstants.{MAX_STEP, MAX_ARCHIVES, MAX_STEPS, MAX_ROWS, MAX_XFF_DEN}

-- of an archive; the one before it has `before` steps, 0 if it is the first
abbrev pub archive_fault : ℕ → ArchiveSpec → Option SchemaFault
archive_fault before a =
    if a.steps == 0 || nat_lt MAX_STEPS a.steps then Some BadSteps
    else (if a.rows == 0 || nat_lt MAX_ROWS a.rows then Some BadRows
    else (if nat_le a.den a.num || nat_lt MAX_XFF_DEN a.den then Some BadXff
    else (if nat_le a.steps before then Some StepsNotRising else None)))

-- of archives; the one before them has `before` steps
abbrev pub archives_fault : ℕ → List ArchiveSpec → Option SchemaFault
archives_fault before [] = None
archives_fault before (a ∷ others) = first_fault (archive_fault before a) (archives_fault a.steps others)

abbrev pub schema_fault : ℕ → List ArchiveSpec → Option SchemaFault
schema_fault step archives =
    if step == 0 || nat_lt MAX_STEP step then Some BadStep
    else (if length archives == 0 then Some NoArchive
    else (if nat_lt MAX_ARCHIVES (length archives) then Some TooManyArchives
    else archives_fault 0 archives))
