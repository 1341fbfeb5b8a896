-- The printed names of faults: each is its variant's.
use Rattle.std.specs.Prelude.{ℕ, List, codes}
use Rattle.rr_snapshot.specs.declared.fault.SaveFault.{SaveFault}
use Rattle.rr_snapshot.specs.declared.fault.SaveFault.TheVariants.{TooManyCells, WriteFailed, Memory}
use Rattle.rr_page.specs.declared.fault.PageFault.{PageFault}
use Rattle.rr_page.specs.declared.fault.PageFault.TheVariants as page
use Rattle.rr_snapshot.specs.declared.fault.LoadFault.{LoadFault}
use Rattle.rr_snapshot.specs.declared.fault.LoadFault.TheVariants as why

abbrev pub save_fault_name : SaveFault → List ℕ
save_fault_name TooManyCells = codes "TooManyCells"
save_fault_name WriteFailed = codes "WriteFailed"
save_fault_name Memory = codes "Memory"

abbrev pub load_fault_name : LoadFault → List ℕ
load_fault_name why.ReadFailed = codes "ReadFailed"
load_fault_name why.Short = codes "Short"
load_fault_name why.BadMagic = codes "BadMagic"
load_fault_name why.BadVersion = codes "BadVersion"
load_fault_name why.SchemaDiffers = codes "SchemaDiffers"
load_fault_name why.BadOrigin = codes "BadOrigin"
load_fault_name why.BadKey = codes "BadKey"
load_fault_name why.BadArchive = codes "BadArchive"
load_fault_name why.BadContribution = codes "BadContribution"
load_fault_name why.OutOfOrder = codes "OutOfOrder"
load_fault_name why.BadDigest = codes "BadDigest"
load_fault_name why.TrailingBytes = codes "TrailingBytes"
load_fault_name why.OriginUsed = codes "OriginUsed"
load_fault_name why.Memory = codes "Memory"

-- the fault of a field that a page has too; no fault of a snapshot is TooManyCells
abbrev pub load_fault : PageFault → LoadFault
load_fault page.Short = why.Short
load_fault page.BadMagic = why.BadMagic
load_fault page.BadVersion = why.BadVersion
load_fault page.SchemaDiffers = why.SchemaDiffers
load_fault page.TooManyCells = why.BadContribution
load_fault page.BadKey = why.BadKey
load_fault page.BadArchive = why.BadArchive
load_fault page.BadContribution = why.BadContribution
load_fault page.OutOfOrder = why.OutOfOrder
load_fault page.TrailingBytes = why.TrailingBytes
load_fault page.Memory = why.Memory
