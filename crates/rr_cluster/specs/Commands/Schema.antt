-- schema STEP S:R:N/D ..
use Rattle.std.specs.Prelude.{ℕ, List, Option, None, Some, Result, Ok, Err, ok_or}
use Rattle.rr_schema.specs.declared.fault.SchemaFault.{SchemaFault}
use Rattle.rr_schema.specs.Schema.{Layout}
use Rattle.rr_schema.specs.Check.{schema_fault}
use Rattle.rr_cluster.specs.declared.fault.CommandFault.{CommandFault}
use Rattle.rr_cluster.specs.declared.fault.CommandFault.TheVariants.{BadNumber, Schema}
use Rattle.rr_cluster.specs.declared.words.TheConstants.{MAX_U32}
use Rattle.rr_text.specs.Results.{◌>>=◌}
use Rattle.rr_cluster.specs.Words.{archives_of, number_within}

-- a schema, if it has no fault
abbrev pub unless_faulty : Option SchemaFault → Layout → Result Layout CommandFault
unless_faulty None layout = Ok layout
unless_faulty (Some fault) layout = Err (Schema fault)

-- the schema of the words STEP S:R:N/D ..
unfoldable pub layout_of : List ℕ → List (List ℕ) → Result Layout CommandFault
layout_of step archives = do
  seconds ← ok_or (number_within 0 MAX_U32 step) BadNumber
  specs ← ok_or (archives_of archives) BadNumber
  unless_faulty (schema_fault seconds specs) (record { step = seconds; archives = specs })
