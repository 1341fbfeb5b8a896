-- The memory promised for answers.
use Rattle.std.specs.Prelude.{ℕ, ◌+◌, ◌-◌, ◌^◌, max, min, Option, Some, None, unwrap_or}
use Rattle.rr_reactor.specs.declared.promises.Promises.{Promises}

-- what is held and promised
abbrev pub all_of : Promises → ℕ
all_of p = min (p.held + p.promised) (2 ^ 64 - 1)

-- what there is after so much was promised for an answer, or nothing for lack of room
abbrev pub promised_by : Promises → ℕ → Option ℕ → Promises
promised_by p size (Some bytes) = record { held = p.held; promised = min (p.promised + bytes) (2 ^ 64 - 1); lacked = p.lacked }
promised_by p size None = record { held = p.held; promised = p.promised; lacked = Some (max (unwrap_or p.lacked 0) size) }
