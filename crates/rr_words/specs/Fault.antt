-- The printed names of refusals.
use Rattle.std.specs.Prelude.{ℕ, List, codes}
use Rattle.rr_words.specs.declared.fault.WordsFault.{WordsFault}
use Rattle.rr_words.specs.declared.fault.WordsFault.TheVariants.{Refused, Memory}

-- the printed name is the variant's
abbrev pub words_fault_name : WordsFault → List ℕ
words_fault_name (Refused text) = codes "Refused"
words_fault_name Memory = codes "Memory"
