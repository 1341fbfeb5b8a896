-- The printed names of faults: each is its variant's, or that of the fault within.
use Rattle.std.specs.Prelude.{ℕ, List, codes}
use Rattle.rr_journal.specs.Fault.{journal_fault_name}
use Rattle.rr_replication.specs.declared.fault.PartFault.{PartFault}
use Rattle.rr_replication.specs.declared.fault.PartFault.TheVariants.{Damaged, BadRecord, Memory}
use Rattle.rr_replication.specs.declared.peer_fault.PeerFault.{PeerFault}
use Rattle.rr_replication.specs.declared.peer_fault.PeerFault.TheVariants as peer

abbrev pub part_fault_name : PartFault → List ℕ
part_fault_name Damaged = codes "Damaged"
part_fault_name (BadRecord fault) = journal_fault_name fault
part_fault_name Memory = codes "Memory"

abbrev pub peer_fault_name : PeerFault → List ℕ
peer_fault_name peer.BadAddress = codes "BadAddress"
peer_fault_name peer.ReadFailed = codes "ReadFailed"
peer_fault_name peer.WriteFailed = codes "WriteFailed"
peer_fault_name peer.Ended = codes "Ended"
peer_fault_name peer.BadAnswer = codes "BadAnswer"
peer_fault_name peer.SchemaDiffers = codes "SchemaDiffers"
peer_fault_name peer.Gone = codes "Gone"
peer_fault_name peer.NotWhole = codes "NotWhole"
peer_fault_name (peer.Part fault) = part_fault_name fault
peer_fault_name peer.Memory = codes "Memory"
