-- What a refused query is told: the name of its fault, and what helps.
use Rattle.std.specs.Prelude.{ℕ, Bool, ◌&&◌, is_none, List, codes, if◌then◌else◌}
use Rattle.rr_fetch.specs.declared.fault.RequestFault.{RequestFault}
use Rattle.rr_fetch.specs.declared.fault.RequestFault.TheVariants as request
use Rattle.rr_web.specs.Query.{parameter_of}

abbrev pub lacks : List ℕ → List ℕ → Bool
lacks query name = is_none (parameter_of query name)

-- whether a second of its range is lacking, which `last` stands for too
abbrev pub lacks_second : List ℕ → List ℕ → Bool
lacks_second query name = lacks query (codes "last") && lacks query name

-- the first parameter of a fetch that is missing, where one is
abbrev pub missing_in : List ℕ → List ℕ
missing_in query =
    if lacks query (codes "cf") then codes "BadCommand: no parameter cf"
    else (if lacks query (codes "resolution") then codes "BadCommand: no parameter resolution"
    else (if lacks_second query (codes "start") then codes "BadCommand: no parameter start"
    else (if lacks_second query (codes "end") then codes "BadCommand: no parameter end"
    else codes "BadCommand: no parameter key")))

abbrev pub text_of : RequestFault → List ℕ
text_of request.BadCommand = codes "BadCommand"
text_of request.BadCf = codes "BadCf: cf must be AVERAGE, MIN, MAX or LAST"
text_of request.BadNumber = codes "BadNumber: resolution, start, end and last must be numbers in their ranges"
text_of request.BadKey = codes "BadKey: key must be a key text, its tags in order"
text_of request.EmptyRange = codes "EmptyRange: start must be before end"
text_of request.TooManyRows = codes "TooManyRows: the range has more than 100,000 rows"
text_of request.Memory = codes "Memory"

-- why the fetch that a query asks for is refused
abbrev pub fault_in : List ℕ → RequestFault → List ℕ
fault_in query request.BadCommand = missing_in query
fault_in query other = text_of other
