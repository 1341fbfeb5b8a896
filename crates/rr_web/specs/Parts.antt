-- What a peer asks for in a journal or a checkpoint, and how it is answered.
use Rattle.std.specs.Prelude.{ℕ, false, List, [], ◌∷◌, ◌++◌, codes, decimal, Option, None, Some, option_map}
use Rattle.rr_connection.specs.Answer.{ReplyView as ResponseView}
use Rattle.rr_text.specs.Text.{number_at}
use Rattle.rr_web.specs.declared.parts.Given.{Given}
use Rattle.rr_web.specs.declared.parts.Given.TheVariants as given
use Rattle.rr_web.specs.declared.parts.JournalPlace.{JournalPlace}
use Rattle.rr_web.specs.declared.parts.PartQuery.{PartQuery}
use Rattle.rr_web.specs.Query.{parameter_of}

-- ---- what is asked for

pub record QueryView : Type 0 where
  pub from : Option ℕ
  pub begins : Option ℕ
  pub id : Option (List ℕ)
  pub schema : Option (List ℕ)
  pub decimals : Option (List ℕ)

abbrev pub query_view : PartQuery → QueryView
query_view q = record {
  from = q.from;
  begins = q.begins;
  id = option_map (λ text. text.items) q.id;
  schema = option_map (λ text. text.items) q.schema;
  decimals = option_map (λ text. text.items) q.decimals;
}

-- a number that may be absent, or nothing if the text isn't one
abbrev pub number_or_none : Option ℕ → Option (Option ℕ)
number_or_none None = None
number_or_none (Some number) = Some (Some number)

abbrev pub number_in : Option (List ℕ) → Option (Option ℕ)
number_in None = Some None
number_in (Some text) = number_or_none (number_at text)

-- by the numbers and the texts that a query names
abbrev pub asked_by : Option (Option ℕ) → Option (Option ℕ) → List ℕ → Option QueryView
asked_by None begins query = None
asked_by (Some from) None query = None
asked_by (Some from) (Some begins) query = Some
    (record {
      from = from;
      begins = begins;
      id = parameter_of query (codes "id");
      schema = parameter_of query (codes "schema");
      decimals = parameter_of query (codes "decimals");
    })

abbrev pub part_query_in : List ℕ → Option QueryView
part_query_in query =
    asked_by (number_in (parameter_of query (codes "from"))) (number_in (parameter_of query (codes "begins"))) query

-- ---- what is answered

-- what is given, by its bytes
pub data GivenView : Type 0 where
  Bytes : List ℕ → GivenView
  Nothing : GivenView
  Gone : GivenView
  Differs : GivenView
  Refused : List ℕ → GivenView

abbrev pub given_view : Given → GivenView
given_view (given.Bytes bytes) = Bytes bytes.items
given_view given.Nothing = Nothing
given_view given.Gone = Gone
given_view given.Differs = Differs
given_view (given.Refused name) = Refused name.now

abbrev pub status_of : GivenView → ℕ
status_of (Bytes bytes) = 200
status_of Nothing = 204
status_of (Refused name) = 400
status_of Differs = 409
status_of Gone = 410

-- where a journal is: its id and its end
abbrev pub lent_place : JournalPlace → List ℕ × ℕ
lent_place place = (place.id.now, place.end)

abbrev pub place_fields : List ℕ × ℕ → List (List ℕ × List ℕ)
place_fields place = (codes "rr-journal-id", place.0) ∷ (codes "rr-journal-end", decimal place.1) ∷ []

abbrev pub told_fields : Option (List ℕ × ℕ) → List (List ℕ × List ℕ)
told_fields None = []
told_fields (Some place) = place_fields place

abbrev pub part_fields : GivenView → List (List ℕ × List ℕ)
part_fields (Bytes bytes) = (codes "content-type", codes "application/octet-stream") ∷ []
part_fields (Refused name) = (codes "content-type", codes "text/plain; charset=utf-8") ∷ []
part_fields other = []

abbrev pub refused_text : List ℕ → List ℕ
refused_text name = codes "error " ++ name ++ codes "\n"

abbrev pub part_body : GivenView → List ℕ
part_body (Bytes bytes) = bytes
part_body (Refused name) = refused_text name
part_body other = []

abbrev pub part_response : GivenView → Option (List ℕ × ℕ) → ResponseView
part_response given place = record {
  status = status_of given;
  fields = told_fields place ++ part_fields given;
  body = part_body given;
  closes = false;
}
