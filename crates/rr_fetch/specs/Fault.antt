-- The printed names of faults: each is its variant's.
use Rattle.std.specs.Prelude.{ℕ, List, codes}
use Rattle.rr_fetch.specs.declared.fault.RequestFault.{RequestFault}
use Rattle.rr_fetch.specs.declared.fault.RequestFault.TheVariants as request
use Rattle.rr_fetch.specs.declared.fault.AnswerFault.{AnswerFault}
use Rattle.rr_fetch.specs.declared.fault.AnswerFault.TheVariants as answer

abbrev pub request_fault_name : RequestFault → List ℕ
request_fault_name request.BadCommand = codes "BadCommand"
request_fault_name request.BadCf = codes "BadCf"
request_fault_name request.BadNumber = codes "BadNumber"
request_fault_name request.BadKey = codes "BadKey"
request_fault_name request.EmptyRange = codes "EmptyRange"
request_fault_name request.TooManyRows = codes "TooManyRows"
request_fault_name request.Memory = codes "Memory"

abbrev pub answer_fault_name : AnswerFault → List ℕ
answer_fault_name answer.Memory = codes "Memory"
answer_fault_name answer.WriteFailed = codes "WriteFailed"
