-- The printed names of faults: each is its variant's, or that of the fault within.
use Rattle.std.specs.Prelude.{ℕ, List, codes}
use Rattle.rr_journal.specs.Fault.{journal_fault_name}
use Rattle.rr_recovery.specs.declared.fault.RecoveryFault.{RecoveryFault}
use Rattle.rr_recovery.specs.declared.fault.RecoveryFault.TheVariants.{ReadFailed, BadRecord, OriginUsed, Memory}

abbrev pub recovery_fault_name : RecoveryFault → List ℕ
recovery_fault_name ReadFailed = codes "ReadFailed"
recovery_fault_name (BadRecord fault) = journal_fault_name fault
recovery_fault_name OriginUsed = codes "OriginUsed"
recovery_fault_name Memory = codes "Memory"
