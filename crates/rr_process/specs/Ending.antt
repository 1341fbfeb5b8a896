-- How a run of the program ends, and with which status.
use Rattle.std.specs.Prelude.{ℕ, ◌==◌, if◌then◌else◌}
use Rattle.rr_process.specs.declared.ending.Ending.{Ending}
use Rattle.rr_process.specs.declared.ending.Ending.TheVariants as ending
use Rattle.rr_process.specs.declared.fault.ToolFault.TheVariants as fault
use Rattle.rr_words.specs.declared.fault.WordsFault.{WordsFault}
use Rattle.rr_words.specs.declared.fault.WordsFault.TheVariants as words

-- after lines, by how many of them were refused
abbrev pub ending_of_lines : ℕ → Ending
ending_of_lines refused = if refused == 0 then ending.Done else ending.LinesRefused

-- after words that are refused, or that no memory was left for
abbrev pub of_words_fault : WordsFault → Ending
of_words_fault (words.Refused text) = ending.WordsRefused text
of_words_fault words.Memory = ending.Failed fault.Memory

-- the status of the process
abbrev pub status_of : Ending → ℕ
status_of ending.Done = 0
status_of ending.LinesRefused = 1
status_of ending.DirectoryRefused = 1
status_of (ending.WordsRefused text) = 2
status_of (ending.ConfigRefused name) = 2
status_of (ending.LoadRefused name) = 2
status_of ending.BadAddress = 3
status_of ending.Stopped = 3
status_of (ending.Failed fault) = 3
