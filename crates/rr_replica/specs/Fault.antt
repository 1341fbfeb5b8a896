-- The printed names of faults: each is its variant's.
use Rattle.std.specs.Prelude.{ℕ, List, codes}
use Rattle.rr_replica.specs.declared.fault.PutFault.{PutFault}
use Rattle.rr_replica.specs.declared.fault.PutFault.TheVariants.{NumbersSpent, Memory}
use Rattle.rr_replica.specs.declared.fault.WriteFault.{WriteFault}
use Rattle.rr_replica.specs.declared.fault.WriteFault.TheVariants as write
use Rattle.rr_replica.specs.declared.fault.JoinFault.{JoinFault}
use Rattle.rr_replica.specs.declared.fault.JoinFault.TheVariants as joined

abbrev pub put_fault_name : PutFault → List ℕ
put_fault_name NumbersSpent = codes "NumbersSpent"
put_fault_name Memory = codes "Memory"

abbrev pub write_fault_name : WriteFault → List ℕ
write_fault_name write.AheadOfClock = codes "AheadOfClock"
write_fault_name write.NumbersSpent = codes "NumbersSpent"
write_fault_name (write.Memory put) = codes "Memory"

abbrev pub join_fault_name : JoinFault → List ℕ
join_fault_name (joined.Memory count) = codes "Memory"
