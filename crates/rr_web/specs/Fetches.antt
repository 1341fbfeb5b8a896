-- The fetch that a query asks for, and its reply.
use Rattle.std.specs.Prelude.{ℕ, ℤ, pos, ◌-ℤ◌, List, codes, Option, None, Some, Result, Ok, Err}
use Rattle.std.specs.Fmt.{signed_decimal}
use Rattle.std.specs.Int.{saturate_signed, w64}
use Rattle.rr_text.specs.Options.{◌>>=◌}
use Rattle.rr_text.specs.Text.{number_at}
use Rattle.rr_schema.specs.Schema.{Layout}
use Rattle.rr_cells.specs.Cells.{Cells}
use Rattle.rr_cells.specs.FetchText.{Request}
use Rattle.rr_fetch.specs.declared.fault.RequestFault.{RequestFault}
use Rattle.rr_fetch.specs.declared.fault.RequestFault.TheVariants.{BadCommand}
use Rattle.rr_fetch.specs.Answers.{cells_text}
use Rattle.rr_fetch.specs.Requests.{read}
use Rattle.rr_fetch.specs.Words.{Parts}
use Rattle.rr_web.specs.declared.answers.Form.{Form}
use Rattle.rr_web.specs.declared.fetches.Words.{Words}
use Rattle.rr_web.specs.declared.reply.Status.TheVariants.{BadRequest}
use Rattle.rr_web.specs.declared.reply.Kind.TheVariants.{Plain}
use Rattle.rr_web.specs.Answers.{form_in, records_reply, refusal_text}
use Rattle.rr_web.specs.Faults.{fault_in}
use Rattle.rr_web.specs.Query.{parameter_of}
use Rattle.rr_web.specs.Reply.{ReplyView, reply_of}

-- the bytes of words in memory
abbrev pub words_view : Words → Parts
words_view w = record {
  function = w.function.items;
  resolution = w.resolution.items;
  start = w.start.items;
  end = w.end.items;
  key = w.key.items;
}

-- the second this many seconds before another
abbrev pub second_before : ℤ → ℕ → List ℕ
second_before end seconds = signed_decimal (saturate_signed w64 (end -ℤ pos seconds))

-- the second that a text of `last` goes back to; a text that isn't a number stays, to be refused as BadNumber
abbrev pub back_to : ℤ → List ℕ → Option ℕ → List ℕ
back_to end text None = text
back_to end text (Some seconds) = second_before end seconds

-- the start, or the second that `last` goes back to
abbrev pub start_by : ℤ → Option (List ℕ) → Option (List ℕ) → Option (List ℕ)
start_by end None start = start
start_by end (Some last) start = Some (back_to end last (number_at last))

-- the end, or the second that `last` goes back from
abbrev pub end_by : ℤ → Option (List ℕ) → Option (List ℕ) → Option (List ℕ)
end_by now None end = end
end_by now (Some last) end = Some (signed_decimal now)

-- five words, if none is missing
abbrev pub together : Option (List ℕ) → Option (List ℕ) → Option (List ℕ) → Option (List ℕ) → Option (List ℕ)
    → Option Parts
together function resolution start end key = do
  f ← function
  r ← resolution
  s ← start
  e ← end
  k ← key
  Some (record { function = f; resolution = r; start = s; end = e; key = k })

-- the words of the request of a query, each the value of its parameter
abbrev pub words_in : List ℕ → ℤ → Option Parts
words_in query now = together (parameter_of query (codes "cf")) (parameter_of query (codes "resolution"))
    (start_by now (parameter_of query (codes "last")) (parameter_of query (codes "start")))
    (end_by now (parameter_of query (codes "last")) (parameter_of query (codes "end")))
    (parameter_of query (codes "key"))

-- the request of words, or its first fault
abbrev pub request_of : Layout → Option Parts → Result Request RequestFault
request_of s None = Err BadCommand
request_of s (Some words) = read s words

-- the request of a query, or its first fault
abbrev pub request_in : Layout → List ℕ → ℤ → Result Request RequestFault
request_in s query now = request_of s (words_in query now)

-- a form and a request, or why there isn't one
abbrev pub asked_by : List ℕ → Option Form → Result Request RequestFault → Result (Form × Request) (List ℕ)
asked_by query None request = Err (codes "BadFormat: format must be csv or json")
asked_by query (Some form) (Err fault) = Err (fault_in query fault)
asked_by query (Some form) (Ok q) = Ok (form, q)

-- what a query asks for
abbrev pub asked_in : Layout → List ℕ → ℤ → Result (Form × Request) (List ℕ)
asked_in s query now = asked_by query (form_in query) (request_in s query now)

-- the reply by the cells: the rows in the form, or the refusal
abbrev pub reply_by : Layout → Cells → Result (Form × Request) (List ℕ) → ReplyView
reply_by s m (Err fault) = reply_of BadRequest Plain (refusal_text fault)
reply_by s m (Ok (form, q)) = records_reply form q.key (cells_text s m q)
