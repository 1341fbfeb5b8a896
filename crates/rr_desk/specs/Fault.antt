-- The printed names of faults: each is its variant's.
use Rattle.std.specs.Prelude.{ℕ, List, codes}
use Rattle.rr_desk.specs.declared.fault.OpenFault.{OpenFault}
use Rattle.rr_desk.specs.declared.fault.OpenFault.TheVariants as why
use Rattle.rr_desk.specs.declared.fault.FetchFault.{FetchFault}
use Rattle.rr_desk.specs.declared.fault.FetchFault.TheVariants as fetched

abbrev pub open_fault_name : OpenFault → List ℕ
open_fault_name why.BadCount = codes "BadCount"
open_fault_name why.Memory = codes "Memory"

abbrev pub fetch_fault_name : FetchFault → List ℕ
fetch_fault_name fetched.GateShut = codes "GateShut"
fetch_fault_name fetched.Memory = codes "Memory"
