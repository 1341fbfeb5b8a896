-- The printed names of faults: each is its variant's.
use Rattle.std.specs.Prelude.{ℕ, List, codes}
use Rattle.rr_key.specs.declared.fault.KeyFault.{KeyFault}
use Rattle.rr_key.specs.declared.fault.KeyFault.TheVariants.{EmptyName, BadName, DuplicateTag, TooManyTags, KeyTooLong, BadKey, Memory}

abbrev pub key_fault_name : KeyFault → List ℕ
key_fault_name EmptyName = codes "EmptyName"
key_fault_name BadName = codes "BadName"
key_fault_name DuplicateTag = codes "DuplicateTag"
key_fault_name TooManyTags = codes "TooManyTags"
key_fault_name KeyTooLong = codes "KeyTooLong"
key_fault_name BadKey = codes "BadKey"
key_fault_name Memory = codes "Memory"
