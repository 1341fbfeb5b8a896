-- Logs of calls over memory.
use Rattle.std.specs.Prelude.{◌≡◌, ℕ, ◌+◌, ◌<◌, ◌≤◌, List, [], ◌∷◌, ◌++◌, map, Option, option_map}
use Rattle.rr_host.specs.Calls.{Grows}

-- the calls that were noted, unless one couldn't be, and for how many more there is room
pub record Log (C : Type 0) : Type 0 where
  pub calls : Option (List C)
  pub room : ℕ

abbrev pub map_log : {C D : Type 0} → (C → D) → Log C → Log D
map_log f log = record { calls = option_map (map f) log.calls; room = log.room }

-- a call was noted: it isn't lost if there was room for it, and takes no more room than that of one
pub record HasNoted {C : Type 0} (call : C) (old new : Log C) : Type 0 where
  pub grown : Grows old.calls new.calls (call ∷ [])
  pub kept : 0 < old.room → new.calls ≡ option_map (λ calls. calls ++ call ∷ []) old.calls
  pub room : old.room ≤ new.room + 1
