-- The faults of a configuration, and their printed names.
use Rattle.std.specs.Prelude.{ℕ, List, codes}
use Rattle.rr_schema.specs.declared.fault.SchemaFault.{SchemaFault}
use Rattle.rr_schema.specs.declared.fault.SchemaFault.TheVariants as schema
use Rattle.rr_schema.specs.Fault.{schema_fault_name}
use Rattle.rr_config.specs.declared.fault.ConfigFault.{ConfigFault}
use Rattle.rr_config.specs.declared.fault.ConfigFault.TheVariants as config

-- each is its variant's, and that of a schema's fault is the schema's
abbrev pub config_fault_name : ConfigFault → List ℕ
config_fault_name (config.Schema fault) = schema_fault_name fault
config_fault_name config.MissingField = codes "MissingField"
config_fault_name config.WrongKind = codes "WrongKind"
config_fault_name config.BadCount = codes "BadCount"
config_fault_name config.BadPrecision = codes "BadPrecision"
config_fault_name config.Memory = codes "Memory"

-- a schema's fault as one of the configuration
abbrev pub of_schema_fault : SchemaFault → ConfigFault
of_schema_fault schema.Memory = config.Memory
of_schema_fault schema.BadToml = config.Schema schema.BadToml
of_schema_fault schema.MissingField = config.Schema schema.MissingField
of_schema_fault schema.WrongKind = config.Schema schema.WrongKind
of_schema_fault schema.BadStep = config.Schema schema.BadStep
of_schema_fault schema.NoArchive = config.Schema schema.NoArchive
of_schema_fault schema.TooManyArchives = config.Schema schema.TooManyArchives
of_schema_fault schema.BadSteps = config.Schema schema.BadSteps
of_schema_fault schema.BadRows = config.Schema schema.BadRows
of_schema_fault schema.BadXff = config.Schema schema.BadXff
of_schema_fault schema.StepsNotRising = config.Schema schema.StepsNotRising
