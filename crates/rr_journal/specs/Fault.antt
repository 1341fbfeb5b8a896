-- The printed names of faults: each is its variant's, or that of the fault within.
use Rattle.std.specs.Prelude.{◌≡◌, ◌≢◌, ℕ, List, codes, Result, Err, IfErr}
use Rattle.rr_text.specs.Results.{Gives}
use Rattle.rr_codec.specs.Fault.{codec_fault_name}
use Rattle.rr_journal.specs.declared.fault.JournalFault.{JournalFault}
use Rattle.rr_journal.specs.declared.fault.JournalFault.TheVariants.{ReadFailed, Short, BadMagic, BadVersion, BadDecimals, SchemaDiffers, BadDigest, TooLong, BadKind, BadKey, BadArchive, Packed, BadOrigin, TrailingBytes, Memory}

abbrev pub journal_fault_name : JournalFault → List ℕ
journal_fault_name ReadFailed = codes "ReadFailed"
journal_fault_name Short = codes "Short"
journal_fault_name BadMagic = codes "BadMagic"
journal_fault_name BadVersion = codes "BadVersion"
journal_fault_name BadDecimals = codes "BadDecimals"
journal_fault_name SchemaDiffers = codes "SchemaDiffers"
journal_fault_name BadDigest = codes "BadDigest"
journal_fault_name TooLong = codes "TooLong"
journal_fault_name BadKind = codes "BadKind"
journal_fault_name BadKey = codes "BadKey"
journal_fault_name BadArchive = codes "BadArchive"
journal_fault_name (Packed fault) = codec_fault_name fault
journal_fault_name BadOrigin = codes "BadOrigin"
journal_fault_name TrailingBytes = codes "TrailingBytes"
journal_fault_name Memory = codes "Memory"

-- the result is the definition's reading of the bytes, and no memory is taken
pub record Finds {X Y : Type 0} (view : X → Y) (result : Result X JournalFault) (answer : Result Y JournalFault)
    : Type 0 where
  pub read : Gives view result answer
  pub no_memory : result ≢ Err Memory

-- the bytes are checked, and no memory is taken: each fault is the definition's
pub record Refuses {X Y : Type 0} (result : Result X JournalFault) (answer : Result Y JournalFault) : Type 0 where
  pub refused : IfErr result (λ fault. answer ≡ Err fault)
  pub no_memory : result ≢ Err Memory
