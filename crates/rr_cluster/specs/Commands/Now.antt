-- now T [LEAD]
use Rattle.std.specs.Prelude.{ℕ, List, Option, Result, Ok}
use Rattle.rr_cluster.specs.declared.fault.CommandFault.{CommandFault}
use Rattle.rr_text.specs.Results.{◌>>=◌}
use Rattle.rr_cluster.specs.State.{State}
use Rattle.rr_cluster.specs.Words.{moment_of, lead_of}

unfoldable pub after_now : {K : Type 0} → State K → List ℕ → Option (List ℕ) → Result (State K) CommandFault
after_now m time lead = do
  clock ← moment_of time
  most ← lead_of m.lead lead
  Ok (record m { clock = clock; lead = most })
