-- The calls of a gate.
use Rattle.std.specs.Prelude.{◌≡◌, ⊤, ◌⊎◌, true, false, List, [], ◌∷◌, ◌++◌, Option, None, Some, Result, Ok, Err}
use Rattle.rr_desk.specs.declared.fault.FetchFault.{FetchFault}
use Rattle.rr_desk.specs.declared.fault.FetchFault.TheVariants.{GateShut, Memory}
use Rattle.rr_desk.specs.declared.gate.GateCall.{GateCall}
use Rattle.rr_desk.specs.declared.gate.GateCall.TheVariants.{After, Before}

-- these calls were made, as far as calls are known; once they aren't known, they aren't known later
abbrev pub WasAsked : Option (List GateCall) → Option (List GateCall) → List GateCall → Type 0
WasAsked None None calls = ⊤
WasAsked None (Some since) calls = ⊥
WasAsked (Some before) None calls = ⊤
WasAsked (Some before) (Some since) calls = since ≡ before ++ calls

-- the last call was this one, where calls are known
abbrev pub WasAskedLast : Option (List GateCall) → GateCall → Type 0
WasAskedLast None call = ⊤
WasAskedLast (Some calls) call = (before : List GateCall) × (calls ≡ before ++ call ∷ [])

-- the calls of one fetch: the gate is asked, and told once the answer is made; or it is shut; or memory ran out, before
-- it was asked or after it let the answer pass
abbrev pub LetsPass : {X : Type 0} → Result X FetchFault → Option (List GateCall) → Option (List GateCall) → Type 0
LetsPass (Ok text) before since = WasAsked before since (Before true ∷ After ∷ [])
LetsPass (Err GateShut) before since = WasAsked before since (Before false ∷ [])
LetsPass (Err Memory) before since = WasAsked before since [] ⊎ WasAsked before since (Before true ∷ [])
