-- The habits that a configuration gives a node.
use Rattle.std.specs.Prelude.{ℕ, Bool, false, List, codes, Option, None, option_map, Result, Ok}
use Rattle.std.specs.String.{string_bytes}
use Rattle.toml.specs.Data.{Members, get_member}
use Rattle.rr_text.specs.Results.{◌>>=◌}
use Rattle.rr_config.specs.declared.habits.Habits.{Habits}
use Rattle.rr_config.specs.declared.fault.ConfigFault.{ConfigFault}
use Rattle.rr_config.specs.Values.{if_there, flag_of, some_text_of, some_seconds_of}

-- habits, with the name of the file by its bytes
pub record HabitsView : Type 0 where
  pub idle : Option ℕ
  pub every : Option ℕ
  pub quiet : Bool
  pub status : Option (List ℕ)

abbrev pub habits_view : Habits → HabitsView
habits_view h = record {
  idle = h.idle;
  every = h.every;
  quiet = h.quiet;
  status = option_map string_bytes h.status;
}

-- the habits that a table gives a node
unfoldable pub habits_in : Members → Result HabitsView ConfigFault
habits_in table = do
  idle ← if_there None some_seconds_of (get_member (codes "idle") table)
  every ← if_there None some_seconds_of (get_member (codes "every") table)
  quiet ← if_there false flag_of (get_member (codes "quiet") table)
  status ← if_there None some_text_of (get_member (codes "status") table)
  Ok (record { idle = idle; every = every; quiet = quiet; status = status })
