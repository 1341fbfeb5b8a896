-- The printed names of faults, each its variant's, and the faults of a body as those of a session.
use Rattle.std.specs.Prelude.{ℕ, List, codes, Result, Ok, Err}
use Rattle.rr_page.specs.declared.fault.PageFault.{PageFault}
use Rattle.rr_page.specs.declared.fault.PageFault.TheVariants as page
use Rattle.rr_gossip.specs.declared.fault.GossipFault.{GossipFault}
use Rattle.rr_gossip.specs.declared.fault.GossipFault.TheVariants.{ReadFailed, Ended, FrameTooLong, BadFrame, UnexpectedFrame, TooManyFrames, SchemaDiffers, WriteFailed, Memory, Failed}

abbrev pub gossip_fault_name : GossipFault → List ℕ
gossip_fault_name ReadFailed = codes "ReadFailed"
gossip_fault_name Ended = codes "Ended"
gossip_fault_name FrameTooLong = codes "FrameTooLong"
gossip_fault_name BadFrame = codes "BadFrame"
gossip_fault_name UnexpectedFrame = codes "UnexpectedFrame"
gossip_fault_name TooManyFrames = codes "TooManyFrames"
gossip_fault_name SchemaDiffers = codes "SchemaDiffers"
gossip_fault_name WriteFailed = codes "WriteFailed"
gossip_fault_name Memory = codes "Memory"
gossip_fault_name Failed = codes "Failed"

-- another schema and a lack of memory are faults of their own; any other fault of a body is BadFrame
abbrev pub body_fault : PageFault → GossipFault
body_fault page.Short = BadFrame
body_fault page.BadMagic = BadFrame
body_fault page.BadVersion = BadFrame
body_fault page.SchemaDiffers = SchemaDiffers
body_fault page.TooManyCells = BadFrame
body_fault page.BadKey = BadFrame
body_fault page.BadArchive = BadFrame
body_fault page.BadContribution = BadFrame
body_fault page.OutOfOrder = BadFrame
body_fault page.TrailingBytes = BadFrame
body_fault page.Memory = Memory

-- what is read from a body, with the faults of a session
abbrev pub as_body : {A : Type 0} → Result A PageFault → Result A GossipFault
as_body (Ok x) = Ok x
as_body (Err fault) = Err (body_fault fault)
