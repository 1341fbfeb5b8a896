-- What a configuration lets a node take.
use Rattle.std.specs.Prelude.{codes, None, Result, Ok}
use Rattle.toml.specs.Data.{Members, get_member}
use Rattle.rr_text.specs.Results.{◌>>=◌}
use Rattle.rr_line.specs.declared.precision.Precision.TheVariants.{Ns}
use Rattle.rr_config.specs.declared.intake.Intake.{Intake}
use Rattle.rr_config.specs.declared.fault.ConfigFault.{ConfigFault}
use Rattle.rr_config.specs.Values.{if_there, count_of, some_count_of, precision_of}

-- what a table lets a node take
unfoldable pub intake_in : Members → Result Intake ConfigFault
intake_in table = do
  rounds ← if_there 0 count_of (get_member (codes "rounds") table)
  visits ← if_there 0 count_of (get_member (codes "visits") table)
  lead ← if_there None some_count_of (get_member (codes "lead") table)
  precision ← if_there Ns precision_of (get_member (codes "precision") table)
  Ok (record { rounds = rounds; visits = visits; lead = lead; precision = precision })
