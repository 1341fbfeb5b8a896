-- The printed names of faults: each is its variant's.
use Rattle.std.specs.Prelude.{◌≢◌, ℕ, List, codes, Result, Err}
use Rattle.rr_text.specs.Results.{Gives}
use Rattle.rr_codec.specs.declared.fault.CodecFault.{CodecFault}
use Rattle.rr_codec.specs.declared.fault.CodecFault.TheVariants.{Short, BadNumber, BadOrigin, BadContribution, OutOfOrder, TrailingBytes, Memory}

abbrev pub codec_fault_name : CodecFault → List ℕ
codec_fault_name Short = codes "Short"
codec_fault_name BadNumber = codes "BadNumber"
codec_fault_name BadOrigin = codes "BadOrigin"
codec_fault_name BadContribution = codes "BadContribution"
codec_fault_name OutOfOrder = codes "OutOfOrder"
codec_fault_name TrailingBytes = codes "TrailingBytes"
codec_fault_name Memory = codes "Memory"

-- the answer is the definition's, and no memory is taken for it
pub record Finds {X Y : Type 0} (view : X → Y) (result : Result X CodecFault) (answer : Result Y CodecFault)
    : Type 0 where
  pub read : Gives view result answer
  pub no_memory : result ≢ Err Memory
