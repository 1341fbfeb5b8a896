-- The printed names of faults, and the faults of lower layers as a file's.
use Rattle.std.specs.Prelude.{ℕ, List, codes}
use Rattle.rr_journal.specs.declared.fault.JournalFault.{JournalFault}
use Rattle.rr_journal.specs.declared.fault.JournalFault.TheVariants as journal
use Rattle.rr_journal.specs.Fault.{journal_fault_name}
use Rattle.rr_recovery.specs.declared.fault.RecoveryFault.{RecoveryFault}
use Rattle.rr_recovery.specs.declared.fault.RecoveryFault.TheVariants as recovery
use Rattle.rr_directory.specs.declared.directory.DirectoryFault.{DirectoryFault}
use Rattle.rr_directory.specs.declared.directory.DirectoryFault.TheVariants as directory
use Rattle.rr_directory.specs.declared.fault.FileFault.{FileFault}
use Rattle.rr_directory.specs.declared.fault.FileFault.TheVariants as file

abbrev pub file_fault_name : FileFault → List ℕ
file_fault_name file.ReadFailed = codes "ReadFailed"
file_fault_name (file.BadHeader fault) = journal_fault_name fault
file_fault_name file.Misnamed = codes "Misnamed"
file_fault_name file.OtherJournal = codes "OtherJournal"
file_fault_name (file.FileMissing offset) = codes "FileMissing"
file_fault_name file.NotChained = codes "NotChained"
file_fault_name (file.BadRecord fault) = journal_fault_name fault
file_fault_name file.OriginUsed = codes "OriginUsed"
file_fault_name file.Torn = codes "Torn"
file_fault_name (file.Damaged at fault) = codes "Damaged"
file_fault_name file.NotWhole = codes "NotWhole"
file_fault_name file.Memory = codes "Memory"

abbrev pub of_directory : DirectoryFault → FileFault
of_directory directory.ReadFailed = file.ReadFailed
of_directory directory.Memory = file.Memory

abbrev pub of_recovery : RecoveryFault → FileFault
of_recovery recovery.ReadFailed = file.ReadFailed
of_recovery (recovery.BadRecord fault) = file.BadRecord fault
of_recovery recovery.OriginUsed = file.OriginUsed
of_recovery recovery.Memory = file.Memory

-- of a header: the reader's and memory's aren't faults of the bytes
abbrev pub of_header : JournalFault → FileFault
of_header journal.ReadFailed = file.ReadFailed
of_header journal.Memory = file.Memory
of_header fault = file.BadHeader fault
