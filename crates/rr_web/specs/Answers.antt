-- The rows of a fetch as replies, and refusals of queries.
use Rattle.std.specs.Prelude.{ℕ, List, [], ◌∷◌, ◌++◌, codes, Option, None, Some, if◌then◌else◌}
use Rattle.std.specs.Str.{bytes_eq}
use Rattle.rr_text.specs.declared.bytes.TheConstants.{LINE_FEED}
use Rattle.rr_web.specs.declared.answers.Form.{Form}
use Rattle.rr_web.specs.declared.answers.Form.TheVariants.{Csv, Json}
use Rattle.rr_web.specs.declared.reply.Status.TheVariants as status
use Rattle.rr_web.specs.declared.reply.Kind.TheVariants as kind
use Rattle.rr_web.specs.Json.{fetch_json}
use Rattle.rr_web.specs.Query.{parameter_of}
use Rattle.rr_web.specs.Reply.{ReplyView, reply_of}

-- the form of a name
abbrev pub form_of : List ℕ → Option Form
form_of name =
    if bytes_eq name (codes "csv") then Some Csv
    else (if bytes_eq name (codes "json") then Some Json else None)

-- the form that a query names, CSV if it names none
abbrev pub form_in : List ℕ → Option Form
form_in query = named (parameter_of query (codes "format"))
  where
    named : Option (List ℕ) → Option Form
    named None = Some Csv
    named (Some name) = form_of name

-- the line of a refusal: the name of a fault, as on the fetch port, and what helps
abbrev pub refusal_text : List ℕ → List ℕ
refusal_text fault = codes "error " ++ fault ++ LINE_FEED ∷ []

-- the CSV records of a key, in a form
abbrev pub records_reply : Form → List ℕ → List ℕ → ReplyView
records_reply Csv key records = reply_of status.Ok kind.Csv records
records_reply Json key records = reply_of status.Ok kind.Json (fetch_json key records)
