-- The TOML text of a configuration, and the schema in it.
use Rattle.std.specs.Prelude.{ℕ, List, Result, Ok, Err, ok_or}
use Rattle.toml.specs.Data.{Members}
use Rattle.rr_schema.specs.declared.fault.SchemaFault.{SchemaFault}
use Rattle.rr_schema.specs.declared.fault.SchemaFault.TheVariants.{BadToml}
use Rattle.rr_document.specs.Document.{table_of}
use Rattle.rr_config.specs.declared.fault.ConfigFault.{ConfigFault}
use Rattle.rr_config.specs.Fault.{of_schema_fault}

-- the table that a text writes
abbrev pub members_of : List ℕ → Result Members ConfigFault
members_of text = ok_or (table_of text) (of_schema_fault BadToml)

-- a result for a schema as one for the configuration
abbrev pub of_schema : {A : Type 0} → Result A SchemaFault → Result A ConfigFault
of_schema (Ok x) = Ok x
of_schema (Err fault) = Err (of_schema_fault fault)
