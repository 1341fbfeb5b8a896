-- The faults of connections, and their printed names.
use Rattle.std.specs.Prelude.{◌≡◌, ⊤, ◌⊎◌, ℕ, Bool, true, false, List, codes}
use Rattle.rr_text.specs.declared.limits.TheConstants.{MAX_READS}
use Rattle.rr_io.specs.Counted.{HasRisen, HasRisenBy}
use Rattle.rr_io.specs.declared.stream.ReadFault.{ReadFault}
use Rattle.rr_io.specs.declared.stream.ReadFault.TheVariants as read
use Rattle.rr_gossip.specs.declared.fault.GossipFault.{GossipFault}
use Rattle.rr_gossip.specs.declared.fault.GossipFault.TheVariants as session
use Rattle.rr_gossip.specs.Fault.{gossip_fault_name}
use Rattle.rr_host.specs.Streams.{Stream}
use Rattle.rr_node.specs.declared.fault.NodeFault.{NodeFault}
use Rattle.rr_node.specs.declared.fault.NodeFault.TheVariants as node

-- each is its variant's; that of a session's fault is the session's
abbrev pub node_fault_name : NodeFault → List ℕ
node_fault_name node.ReadFailed = codes "ReadFailed"
node_fault_name node.WriteFailed = codes "WriteFailed"
node_fault_name node.TooManyReads = codes "TooManyReads"
node_fault_name node.BadAddress = codes "BadAddress"
node_fault_name (node.Session fault) = gossip_fault_name fault
node_fault_name node.Memory = codes "Memory"

-- whether a connection ended within a session
abbrev pub is_of_session : NodeFault → Bool
is_of_session node.ReadFailed = false
is_of_session node.WriteFailed = false
is_of_session node.TooManyReads = false
is_of_session node.BadAddress = false
is_of_session (node.Session fault) = true
is_of_session node.Memory = false

-- why an input isn't read to its end
abbrev pub of_read_fault : ReadFault → NodeFault
of_read_fault read.ReadFailed = node.ReadFailed
of_read_fault read.TooManyReads = node.TooManyReads
of_read_fault read.Memory = node.Memory

-- a session's fault as one of its connection
abbrev pub of_session_fault : GossipFault → NodeFault
of_session_fault session.ReadFailed = node.Session session.ReadFailed
of_session_fault session.Ended = node.Session session.Ended
of_session_fault session.FrameTooLong = node.Session session.FrameTooLong
of_session_fault session.BadFrame = node.Session session.BadFrame
of_session_fault session.UnexpectedFrame = node.Session session.UnexpectedFrame
of_session_fault session.TooManyFrames = node.Session session.TooManyFrames
of_session_fault session.SchemaDiffers = node.Session session.SchemaDiffers
of_session_fault session.WriteFailed = node.Session session.WriteFailed
of_session_fault session.Memory = node.Memory
of_session_fault session.Failed = node.Session session.Failed

-- the faults of a line connection
abbrev pub IsOfLines : NodeFault → Type 0
IsOfLines fault = (fault ≡ node.ReadFailed) ⊎ (fault ≡ node.WriteFailed) ⊎ (fault ≡ node.TooManyReads)
    ⊎ (fault ≡ node.Memory)

-- those of an input that isn't read to its end
abbrev pub IsInputFault : NodeFault → Type 0
IsInputFault fault = (fault ≡ node.ReadFailed) ⊎ (fault ≡ node.TooManyReads)

-- those of a session
abbrev pub IsOfSession : NodeFault → Type 0
IsOfSession fault = (why : GossipFault) × (fault ≡ of_session_fault why)

-- those of a fetch connection
abbrev pub IsOfReader : NodeFault → Type 0
IsOfReader fault = IsOfLines fault ⊎ IsOfSession fault

-- the faults of a call that writes
abbrev pub IsOfWriting : NodeFault → Type 0
IsOfWriting fault = (fault ≡ node.WriteFailed) ⊎ (fault ≡ node.Memory)

abbrev pub is_memory : NodeFault → Bool
is_memory node.ReadFailed = false
is_memory node.WriteFailed = false
is_memory node.TooManyReads = false
is_memory node.BadAddress = false
is_memory (node.Session fault) = false
is_memory node.Memory = true

-- if a stream is to blame for the fault of its connection, its calls show it
abbrev pub IsToBlame : Stream → Stream → NodeFault → Type 0
IsToBlame before after node.ReadFailed = HasRisen before.input.failures after.input.failures
IsToBlame before after node.WriteFailed = HasRisen before.output.failures after.output.failures
IsToBlame before after node.TooManyReads =
    HasRisenBy MAX_READS before.input.reads after.input.reads × (after.input.ends ≡ before.input.ends)
IsToBlame before after node.BadAddress = ⊤
IsToBlame before after (node.Session session.ReadFailed) = HasRisen before.input.failures after.input.failures
IsToBlame before after (node.Session session.WriteFailed) = HasRisen before.output.failures after.output.failures
IsToBlame before after (node.Session fault) = ⊤
IsToBlame before after node.Memory = ⊤
