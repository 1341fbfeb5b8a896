-- A fetch that can be answered, before it is.
use Rattle.std.specs.Prelude.{ℕ, ℤ, ◌+◌, ◌*◌, List, [], ◌∷◌, ◌++◌, length, Option, None, Some, Result, Ok, Err}
use Rattle.rr_connection.specs.Requests.{RequestView}
use Rattle.rr_text.specs.Options.{◌>>=◌}
use Rattle.rr_schema.specs.Schema.{Layout}
use Rattle.rr_cells.specs.FetchText.{Request, comma, field_text}
use Rattle.rr_fetch.specs.declared.fault.RequestFault.{RequestFault}
use Rattle.rr_fetch.specs.Requests.{request_view}
use Rattle.rr_web.specs.declared.answers.Form.{Form}
use Rattle.rr_web.specs.declared.answers.Form.TheVariants.{Csv, Json}
use Rattle.rr_web.specs.declared.ask.Ask.{Ask}
use Rattle.rr_web.specs.declared.ask.Ask.TheVariants as ask
use Rattle.rr_web.specs.declared.fetch.Fetch.{Fetch}
use Rattle.rr_web.specs.declared.fetch.TheConstants.{JSON_ROW, REST}
use Rattle.rr_web.specs.Ask.{ask_of}
use Rattle.rr_web.specs.Answers.{form_in}
use Rattle.rr_web.specs.Fetches.{request_in}
use Rattle.rr_web.specs.Target.{target_parts}

-- a fetch in memory
abbrev pub fetch_view : Fetch → Form × Request
fetch_view f = (f.form, request_view f.request)

-- the most bytes that a row takes besides, in a form
abbrev pub extra : Form → ℕ
extra Csv = 0
extra Json = JSON_ROW

-- the memory that the answer takes: for each row the longest record of the key, and what its form takes besides
abbrev pub room_of : Form × Request → ℕ
room_of (form, q) = (length (field_text q.key ++ comma ∷ []) + (REST + extra form)) * q.rows

-- a request that isn't refused
abbrev pub found : Result Request RequestFault → Option Request
found (Ok q) = Some q
found (Err fault) = None

-- the fetch that a query asks for, if it asks for one that isn't refused
abbrev pub fetch_in : Layout → List ℕ → ℤ → Option (Form × Request)
fetch_in s query now = do
  form ← form_in query
  q ← found (request_in s query now)
  Some (form, q)

-- the same if a fetch is what is asked for
abbrev pub if_fetch : Ask → Option (Form × Request) → Option (Form × Request)
if_fetch ask.Fetch fetch = fetch
if_fetch other fetch = None

-- the fetch that a request asks for, if it asks for one that isn't refused
abbrev pub fetch_asked : Layout → ℤ → RequestView → Option (Form × Request)
fetch_asked s now r =
    if_fetch (ask_of r.method (target_parts r.target).0) (fetch_in s (target_parts r.target).1 now)
