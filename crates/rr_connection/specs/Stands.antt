-- What a connection has received and given: the requests that it gave are those that its stream begins with.
use Rattle.std.specs.Prelude.{◌≡◌, ◌≢◌, ℕ, Bool, true, false, ◌&&◌, List, [], ◌∷◌, ◌++◌, Option, Some, None, ⊤, nat_le, length, bytes_eq, codes}
use Rattle.httparse.specs.Grammar.{RequestHead}
use Rattle.http1.specs.declared.conn.Limits.{Limits}
use Rattle.http1.specs.declared.conn.Reading.TheVariants as Reading
use Rattle.http1.specs.declared.conn.Writing.TheVariants as Writing
use Rattle.http1.specs.declared.decode.Decoder.{Decoder}
use Rattle.http1.specs.declared.decode.Decoder.TheVariants.{UntilClose}
use Rattle.http1.specs.declared.framing.Framing.{Framing}
use Rattle.http1.specs.declared.framing.Framing.TheVariants.{NoBody}
use Rattle.http1.specs.declared.server.Server.{Server}
use Rattle.http1.specs.Body.{Body}
use Rattle.http1.specs.Decoder.{Completes, decoder_for, with_front as with_more}
use Rattle.http1.specs.Message as Wire
use Rattle.http1.specs.Message.{AcceptsRequest}
use Rattle.http1.specs.Server.{new_server, request_of}
use Rattle.rr_connection.specs.declared.http.HttpConnection.{HttpConnection}
use Rattle.rr_connection.specs.declared.http.Phase.{Phase}
use Rattle.rr_connection.specs.declared.http.Phase.TheVariants.{Receives, Waits, Over}
use Rattle.rr_connection.specs.declared.request.Request.{Request}
use Rattle.rr_connection.specs.declared.room.TheConstants.{MAX_UNSENT}
use Rattle.rr_connection.specs.Requests.{RequestView, request_view, given_of, ReadsOn}

-- what is to be sent
abbrev pub unsent_of : HttpConnection → List ℕ
unsent_of c = c.unsent.items

-- a request of the grammar, or that there is none
abbrev pub Asked : Type 0
Asked = Option Wire.Request

abbrev pub RequestList : Type 0
RequestList = List Wire.Request

-- the reader of requests while it reads a body, by its head
abbrev pub in_body : Limits → RequestHead → Framing → Decoder → Bool → Server
in_body limits head framing decoder waits = record {
  limits = limits;
  reading = Reading.Body decoder;
  writing = Writing.Head;
  request = record (request_of head framing) { expects_continue = waits };
}

-- the reader once a whole request was read
abbrev pub asked_by : Limits → Wire.Request → Server
asked_by limits m = record {
  limits = limits;
  reading = Reading.Done;
  writing = Writing.Head;
  request = record (request_of m.head NoBody) { expects_continue = false };
}

-- what is given of a head, with the bytes of its body so far
abbrev pub so_far : RequestHead → List ℕ → RequestView
so_far head bytes = given_of (record { head = head; body = record { bytes = bytes; trailers = [] } })

-- a head was read from `start` on, and then this part of its body: what is unread completes it
pub record IsWithin (limits : Limits) (server : Server) (part : Request) (start unread : List ℕ) : Type 0 where
  pub head : RequestHead
  pub framing : Framing
  pub after : List ℕ
  pub decoder : Decoder
  pub waits : Bool
  pub reader : server ≡ in_body limits head framing decoder waits
  pub given : request_view part ≡ so_far head part.body.items
  pub accepts : (more : List ℕ) → AcceptsRequest limits (start ++ more) head framing (after ++ more)
  pub bounded : decoder ≢ UntilClose
  pub back : (more : List ℕ) (body : Body) (rest : List ℕ) → Completes decoder (unread ++ more) body rest → Completes (decoder_for limits framing) (after ++ more) (with_more part.body.items body) rest
  pub forth : (more : List ℕ) (whole : Body) (rest : List ℕ) → Completes (decoder_for limits framing) (after ++ more) whole rest → (body : Body) × (whole ≡ with_more part.body.items body) × Completes decoder (unread ++ more) body rest

-- where the reader stands in the stream, after these requests: at a head, or within a body
abbrev pub Receiving : Option Request → Server → List ℕ → Limits → List ℕ → RequestList → Type 0
Receiving None server unread limits received requests =
    (server ≡ new_server limits) × ReadsOn limits received requests unread
Receiving (Some part) server unread limits received requests =
    (start : List ℕ) × ReadsOn limits received requests start × IsWithin limits server part start unread

-- a request is out: the last of these
abbrev pub Waiting : HttpConnection → Limits → List ℕ → RequestList → Wire.Request → Type 0
Waiting c limits received answered m =
    (c.server ≡ asked_by limits m) × (c.part ≡ None) × (c.is_head ≡ bytes_eq m.head.method (codes "HEAD"))
    × ReadsOn limits received (answered ++ m ∷ []) c.unread.items

abbrev pub StandsAt : Phase → HttpConnection → Limits → List ℕ → RequestList → Asked → Type 0
StandsAt Receives c limits received answered None = Receiving c.part c.server c.unread.items limits received answered
StandsAt Receives c limits received answered (Some m) = ⊥
StandsAt Waits c limits received answered None = ⊥
StandsAt Waits c limits received answered (Some m) = Waiting c limits received answered m
StandsAt Over c limits received answered asked = ⊤

-- these bytes were received, these requests were given and answered, and this one is out; nothing is claimed once
-- nothing more is read
abbrev pub HasGiven : HttpConnection → Limits → List ℕ → RequestList → Asked → Type 0
HasGiven c = StandsAt c.phase c

-- whatever a connection had received and given, it still has
abbrev pub Keeps : HttpConnection → HttpConnection → Type 0
Keeps old new =
    (limits : Limits) (received : List ℕ) (answered : RequestList) (asked : Asked) → HasGiven old limits received answered asked
    → HasGiven new limits received answered asked

abbrev pub receives : Phase → Bool
receives Receives = true
receives Waits = false
receives Over = false

-- the next request may be given
abbrev pub is_ready : HttpConnection → Bool
is_ready c = receives c.phase && nat_le (length (unsent_of c)) MAX_UNSENT
