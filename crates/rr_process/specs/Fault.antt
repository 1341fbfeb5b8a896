-- The printed names of faults, and the program's lines for them.
use Rattle.std.specs.Prelude.{ℕ, List, codes}
use Rattle.rr_io.specs.declared.stream.ReadFault.{ReadFault}
use Rattle.rr_io.specs.declared.stream.ReadFault.TheVariants as read
use Rattle.rr_process.specs.declared.fault.ToolFault.{ToolFault}
use Rattle.rr_process.specs.declared.fault.ToolFault.TheVariants.{ReadFailed, WriteFailed, TooManyReads, Memory}

-- the printed name is the variant's
abbrev pub tool_fault_name : ToolFault → List ℕ
tool_fault_name ReadFailed = codes "ReadFailed"
tool_fault_name WriteFailed = codes "WriteFailed"
tool_fault_name TooManyReads = codes "TooManyReads"
tool_fault_name Memory = codes "Memory"

-- the line for standard error
abbrev pub message_of : ToolFault → List ℕ
message_of ReadFailed = codes "rr: read failed"
message_of WriteFailed = codes "rr: write failed"
message_of TooManyReads = codes "rr: too many reads"
message_of Memory = codes "rr: out of memory"

-- why an input isn't read to its end
abbrev pub of_read_fault : ReadFault → ToolFault
of_read_fault read.ReadFailed = ReadFailed
of_read_fault read.TooManyReads = TooManyReads
of_read_fault read.Memory = Memory
