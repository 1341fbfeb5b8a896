-- The printed name of a fault of reading: its variant's.
use Rattle.std.specs.Prelude.{ℕ, List, codes}
use Rattle.rr_io.specs.declared.stream.ReadFault.{ReadFault}
use Rattle.rr_io.specs.declared.stream.ReadFault.TheVariants as read

abbrev pub read_fault_name : ReadFault → List ℕ
read_fault_name read.ReadFailed = codes "ReadFailed"
read_fault_name read.TooManyReads = codes "TooManyReads"
read_fault_name read.Memory = codes "Memory"
