-- What the TOML text of a configuration says: the configuration, or the first fault, key by key.
use Rattle.std.specs.Prelude.{ℕ, Bool, List, map, Option, option_map, Result, Ok}
use Rattle.std.specs.String.{string_bytes}
use Rattle.toml.specs.Data.{Members}
use Rattle.rr_document.specs.Document.{layout_in}
use Rattle.rr_text.specs.Results.{◌>>=◌}
use Rattle.rr_schema.specs.Schema.{Layout}
use Rattle.rr_line.specs.declared.precision.Precision.{Precision}
use Rattle.rr_config.specs.declared.config.Config.{Config}
use Rattle.rr_config.specs.declared.fault.ConfigFault.{ConfigFault}
use Rattle.rr_config.specs.Addresses.{addresses_in}
use Rattle.rr_config.specs.Document.{members_of, of_schema}
use Rattle.rr_config.specs.Habits.{habits_in}
use Rattle.rr_config.specs.Intake.{intake_in}

-- a configuration, with its texts by their bytes
pub record ConfigView : Type 0 where
  pub schema : Layout
  pub lines : List ℕ
  pub fetch : List (List ℕ)
  pub peers : List (List ℕ)
  pub rounds : ℕ
  pub visits : ℕ
  pub lead : Option ℕ
  pub precision : Precision
  pub idle : Option ℕ
  pub every : Option ℕ
  pub quiet : Bool
  pub status : Option (List ℕ)

abbrev pub config_view : Config → ConfigView
config_view c = record {
  schema = c.schema;
  lines = string_bytes c.lines;
  fetch = map string_bytes c.fetch.items;
  peers = map string_bytes c.peers.items;
  rounds = c.rounds;
  visits = c.visits;
  lead = c.lead;
  precision = c.precision;
  idle = c.idle;
  every = c.every;
  quiet = c.quiet;
  status = option_map string_bytes c.status;
}

-- the configuration of a table: the schema, and then its other keys, each with its faults; any further keys are ignored
unfoldable pub config_in : Members → Result ConfigView ConfigFault
config_in table = do
  schema ← of_schema (layout_in table)
  addresses ← addresses_in table
  intake ← intake_in table
  habits ← habits_in table
  Ok (record {
    schema = schema;
    lines = addresses.lines;
    fetch = addresses.fetch;
    peers = addresses.peers;
    rounds = intake.rounds;
    visits = intake.visits;
    lead = intake.lead;
    precision = intake.precision;
    idle = habits.idle;
    every = habits.every;
    quiet = habits.quiet;
    status = habits.status;
  })

-- the configuration of a text
abbrev pub config_of : List ℕ → Result ConfigView ConfigFault
config_of text = members_of text >>= config_in
