-- What the TOML text of a schema says: the schema, or the first fault, key by key.
use Rattle.std.specs.Prelude.{ℕ, ◌-◌, ◌^◌, Bool, true, ◌&&◌, nat_lt, is_some, List, [], ◌∷◌, ℤ, pos, negsuc, codes, Option, Some, None, Result, Ok, Err, if◌then◌else◌}
use Rattle.std.specs.Str.{is_utf8}
use Rattle.toml.specs.Data.{Data, Items, no_items, item, Members, get_member, as_integer, as_array, as_table}
use Rattle.toml.specs.Parse.{parse_document}
use Rattle.rr_schema.specs.declared.archive.ArchiveSpec.{ArchiveSpec}
use Rattle.rr_schema.specs.declared.fault.SchemaFault.{SchemaFault}
use Rattle.rr_schema.specs.declared.fault.SchemaFault.TheVariants.{BadToml, MissingField, WrongKind}
use Rattle.rr_schema.specs.Schema.{Layout}
use Rattle.rr_schema.specs.Check.{schema_fault}
use Rattle.rr_text.specs.Results.{◌>>=◌, unless_faulty}

-- a key that must be there
abbrev pub needed : Option Data → Result Data SchemaFault
needed None = Err MissingField
needed (Some value) = Ok value

-- a value that must be of a kind
abbrev pub of_kind : {A : Type 0} → Option A → Result A SchemaFault
of_kind None = Err WrongKind
of_kind (Some value) = Ok value

-- a whole number that doesn't fit 32 bits becomes the greatest one that does, which is past each limit
abbrev pub in_32_bits : ℤ → ℕ
in_32_bits (pos n) = if nat_lt n (2 ^ 32) then n else 2 ^ 32 - 1
in_32_bits (negsuc n) = 2 ^ 32 - 1

-- the whole number at a key
abbrev pub whole_at : List ℕ → Members → Result ℕ SchemaFault
whole_at key table = do
  value ← needed (get_member key table)
  number ← of_kind (as_integer value)
  Ok (in_32_bits number)

-- the archive of a table
unfoldable pub archive_in : Members → Result ArchiveSpec SchemaFault
archive_in table = do
  steps ← whole_at (codes "steps") table
  rows ← whole_at (codes "rows") table
  num ← whole_at (codes "xff_num") table
  den ← whole_at (codes "xff_den") table
  Ok (record { steps = steps; rows = rows; num = num; den = den })

-- whether each of these values is a table
abbrev pub are_tables : Items → Bool
are_tables no_items = true
are_tables (item value values) = is_some (as_table value) && are_tables values

-- the array of tables at a key
abbrev pub tables_at : List ℕ → Members → Result Items SchemaFault
tables_at key table = do
  value ← needed (get_member key table)
  values ← of_kind (as_array value)
  if are_tables values then Ok values else Err WrongKind

-- the archives of an array of tables, one after the other
unfoldable pub archives_in : Items → Result (List ArchiveSpec) SchemaFault
archives_in no_items = Ok []
archives_in (item value values) = do
  table ← of_kind (as_table value)
  archive ← archive_in table
  others ← archives_in values
  Ok (archive ∷ others)

-- the array of tables after a step: what is read before any archive
abbrev pub tables_in : Members → Result Items SchemaFault
tables_in table = do
  step ← whole_at (codes "step") table
  tables_at (codes "archive") table

-- the schema of a table: other keys are ignored
unfoldable pub layout_in : Members → Result Layout SchemaFault
layout_in table = do
  step ← whole_at (codes "step") table
  tables ← tables_at (codes "archive") table
  archives ← archives_in tables
  unless_faulty (schema_fault step archives) (record { step = step; archives = archives })

-- the table that a text writes, if it is UTF-8 and TOML
abbrev pub table_of : List ℕ → Option Members
table_of text = if is_utf8 text then parse_document text else None

-- the schema of a text
abbrev pub layout_of : List ℕ → Result Layout SchemaFault
layout_of text = read (table_of text)
  where
    read : Option Members → Result Layout SchemaFault
    read None = Err BadToml
    read (Some table) = layout_in table
