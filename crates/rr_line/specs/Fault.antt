-- Why a line is refused.
use Rattle.std.specs.Prelude.{ℕ, List, codes}
use Rattle.rr_line.specs.declared.fault.LineFault.{LineFault}
use Rattle.rr_line.specs.declared.fault.LineFault.TheVariants as fault

-- the printed name of a fault is its variant's
abbrev pub line_fault_name : LineFault → List ℕ
line_fault_name fault.NoMeasurement = codes "NoMeasurement"
line_fault_name fault.MissingTagKey = codes "MissingTagKey"
line_fault_name fault.MissingTagValue = codes "MissingTagValue"
line_fault_name fault.TooManyTags = codes "TooManyTags"
line_fault_name fault.DuplicateTag = codes "DuplicateTag"
line_fault_name fault.NoFields = codes "NoFields"
line_fault_name fault.MissingFieldKey = codes "MissingFieldKey"
line_fault_name fault.MissingFieldValue = codes "MissingFieldValue"
line_fault_name fault.BooleanField = codes "BooleanField"
line_fault_name fault.IntegerRange = codes "IntegerRange"
line_fault_name fault.UnsignedField = codes "UnsignedField"
line_fault_name fault.FloatField = codes "FloatField"
line_fault_name fault.TextField = codes "TextField"
line_fault_name fault.BadField = codes "BadField"
line_fault_name fault.TooManyFields = codes "TooManyFields"
line_fault_name fault.DuplicateField = codes "DuplicateField"
line_fault_name fault.BadTime = codes "BadTime"
line_fault_name fault.TimeRange = codes "TimeRange"
line_fault_name fault.KeyTooLong = codes "KeyTooLong"
line_fault_name fault.Memory = codes "Memory"
