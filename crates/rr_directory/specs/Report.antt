-- What is reported of a directory.
use Rattle.std.specs.Prelude.{ℕ, ◌-◌, List, [], ◌∷◌, ◌++◌, codes, Option, None, Some}
use Rattle.std.specs.Fmt.{decimal}
use Rattle.rr_journal.specs.declared.step.Stop.{Stop}
use Rattle.rr_journal.specs.declared.step.Stop.TheVariants as stop
use Rattle.rr_directory.specs.declared.fault.Refusal.{Refusal}
use Rattle.rr_directory.specs.declared.report.FileEnding.{FileEnding}
use Rattle.rr_directory.specs.declared.report.FileEnding.TheVariants.{End, Torn, Damaged, Refused}
use Rattle.rr_directory.specs.declared.report.FileReport.{FileReport}
use Rattle.rr_directory.specs.Fault.{file_fault_name}
use Rattle.rr_directory.specs.Names.{name_text}

-- how a file of a length ends, by why its reading stopped at a byte
abbrev pub ending_of : Stop → ℕ → ℕ → FileEnding
ending_of stop.End len at = End
ending_of stop.Torn len at = Torn (len - at)
ending_of (stop.Damaged fault) len at = Damaged at

abbrev pub ending_text : FileEnding → List ℕ
ending_text End = codes "end"
ending_text (Torn len) = codes "torn " ++ decimal len
ending_text (Damaged at) = codes "damaged at " ++ decimal at
ending_text (Refused fault) = file_fault_name fault

-- the line of a file
abbrev pub report_text : FileReport → List ℕ
report_text r =
    name_text r.name ++ codes " records " ++ decimal r.records ++ codes " cells " ++ decimal r.cells ++ codes " " ++
    ending_text r.ending ++ 10 ∷ []

-- the last line
abbrev pub verdict_text : Option Refusal → List ℕ
verdict_text None = codes "joined" ++ 10 ∷ []
verdict_text (Some r) = codes "refused " ++ name_text r.file ++ codes " " ++ file_fault_name r.fault ++ 10 ∷ []
