-- The printed names of faults: each is its variant's.
use Rattle.std.specs.Prelude.{ℕ, List, codes}
use Rattle.rr_schema.specs.declared.fault.OriginFault.{OriginFault}
use Rattle.rr_schema.specs.declared.fault.OriginFault.TheVariants as origin
use Rattle.rr_schema.specs.declared.fault.SchemaFault.{SchemaFault}
use Rattle.rr_schema.specs.declared.fault.SchemaFault.TheVariants as schema

abbrev pub origin_fault_name : OriginFault → List ℕ
origin_fault_name origin.BadOrigin = codes "BadOrigin"

abbrev pub schema_fault_name : SchemaFault → List ℕ
schema_fault_name schema.BadToml = codes "BadToml"
schema_fault_name schema.MissingField = codes "MissingField"
schema_fault_name schema.WrongKind = codes "WrongKind"
schema_fault_name schema.BadStep = codes "BadStep"
schema_fault_name schema.NoArchive = codes "NoArchive"
schema_fault_name schema.TooManyArchives = codes "TooManyArchives"
schema_fault_name schema.BadSteps = codes "BadSteps"
schema_fault_name schema.BadRows = codes "BadRows"
schema_fault_name schema.BadXff = codes "BadXff"
schema_fault_name schema.StepsNotRising = codes "StepsNotRising"
schema_fault_name schema.Memory = codes "Memory"
