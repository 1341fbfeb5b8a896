-- Requests in a stream: one more behind others, and the one whose body is being read.
use Rattle.std.proofs.Common.{◌≡◌, ℕ, false, List, [], ◌∷◌, ◌++◌, Option, Some, None, is_some, refl, sym, ap, ◌∙◌, subst, subst₂, append_assoc, append-nil, length, arith}
use Rattle.httparse.specs.Grammar.{RequestHead}
use Rattle.httparse.proofs.GrammarLemmas.{request_unique}
use Rattle.http1.specs.declared.conn.Limits.{Limits}
use Rattle.http1.specs.declared.server.Server.{Server}
use Rattle.http1.specs.Body.{Body}
use Rattle.http1.specs.Decoder.{Completes, decoder_for, with_front as with_more}
use Rattle.http1.specs.Framing.{method_kind, request_framing}
use Rattle.http1.specs.Message as Wire
use Rattle.http1.specs.Message.{known_of, ReadsRequestMessage, ReadsRequests}
use Rattle.http1.proofs.OneParse.{completes_from_body, requests_unique}
use Rattle.rr_connection.specs.declared.request.Request.{Request}
use Rattle.rr_connection.specs.Requests.{ReadsOn, GoesOnWith}
use Rattle.rr_connection.specs.declared.http.HttpConnection.{HttpConnection}
use Rattle.rr_connection.specs.declared.http.Phase.{Phase}
use Rattle.rr_connection.specs.Stands.{IsWithin, Receiving, Waiting, HasGiven, StandsAt, RequestList, Asked}

-- a stream of requests and one more is cut in front of the last
cut_last : (limits : Limits) (ms : RequestList) (m : Wire.Request) (stream rest : List ℕ) → ReadsRequests limits stream (ms ++ m ∷ []) rest
    → (start : List ℕ) × ReadsRequests limits stream ms start × ReadsRequestMessage limits start m rest
cut_last limits [] m stream rest x = (stream, refl, subst (ReadsRequestMessage limits stream m) x.2 x.1)
cut_last limits (first ∷ ms) m stream rest x =
    let later = cut_last limits ms m x.0 rest x.2 in
    (later.0, (x.0, x.1, later.1), later.2)

-- and one more is put behind the others
pub put_last : (limits : Limits) (ms : RequestList) (m : Wire.Request) (stream start rest : List ℕ) → ReadsRequests limits stream ms start
    → ReadsRequestMessage limits start m rest → ReadsRequests limits stream (ms ++ m ∷ []) rest
put_last limits [] m stream start rest x y = (rest, subst (λ s. ReadsRequestMessage limits s m rest) (sym x) y, refl)
put_last limits (first ∷ ms) m stream start rest x y = (x.0, x.1, put_last limits ms m x.0 start rest x.2 y)

-- the request that follows is read where those before it end
pub next_at : (limits : Limits) (received : List ℕ) (ms : RequestList) (start more : List ℕ) (m : Wire.Request) → ReadsOn limits received ms start
    → GoesOnWith limits (received ++ more) ms m → (rest : List ℕ) × ReadsRequestMessage limits (start ++ more) m rest
next_at limits received ms start more m on x =
    let last = cut_last limits ms m (received ++ more) x.0 x.1 in
    let same = requests_unique limits ms ms (received ++ more) last.0 (start ++ more) refl last.1 (on more) in
    (x.0, subst (λ s. ReadsRequestMessage limits s m x.0) same.1 last.2)

-- the same where no more was received
pub next_now : (limits : Limits) (received : List ℕ) (ms : RequestList) (start : List ℕ) (m : Wire.Request) → ReadsOn limits received ms start
    → GoesOnWith limits received ms m → (rest : List ℕ) × ReadsRequestMessage limits (start ++ []) m rest
next_now limits received ms start m on x =
    next_at limits received ms start [] m on (subst (λ s. GoesOnWith limits s ms m) (sym (append-nil received)) x)

-- what is known of a request that follows, once its head and a part of its body are read
pub record Continued (limits : Limits) (server : Server) (part : Request) (start unread more : List ℕ) (m : Wire.Request) (w : IsWithin limits server part start unread) : Type 0 where
  pub head : m.head ≡ w.head
  pub body : Body
  pub whole : m.body ≡ with_more part.body.items body
  pub rest : List ℕ
  pub completes : Completes w.decoder (unread ++ more) body rest

pub continued : (limits : Limits) (server : Server) (part : Request) (start unread more : List ℕ) (m : Wire.Request) (rest : List ℕ) (w : IsWithin limits server part start unread)
    → ReadsRequestMessage limits (start ++ more) m rest → Continued limits server part start unread more m w
continued limits server part start unread more m rest w x =
    let own = w.accepts more in
    let same = request_unique (start ++ more) m.head w.head x.after_head (w.after ++ more) x.head.reads own.reads in
    let framed = sym x.head.framed ∙ ap (λ (h : RequestHead). request_framing (method_kind h.method) h.minor (known_of h.fields)) same.0 ∙ own.framed in
    let framing : x.framing ≡ w.framing = cc in
    let completes : Completes (decoder_for limits w.framing) (w.after ++ more) m.body rest =
    subst₂ (λ f s. Completes (decoder_for limits f) s m.body rest) framing same.1 (completes_from_body limits x.framing x.after_head m.body rest x.body) in
    let found = w.forth more m.body rest completes in
    record { head = same.0; body = found.0; whole = found.1; rest = rest; completes = found.2 }

-- more was received
pub reads_more : (limits : Limits) (received : List ℕ) (ms : RequestList) (unread bytes : List ℕ) → ReadsOn limits received ms unread
    → ReadsOn limits (received ++ bytes) ms (unread ++ bytes)
reads_more limits received ms unread bytes on =
    λ more. rw (append_assoc received bytes more, append_assoc unread bytes more) (on (bytes ++ more))

pub within_more : (limits : Limits) (server : Server) (part : Request) (start unread bytes : List ℕ) → IsWithin limits server part start unread
    → IsWithin limits server part (start ++ bytes) (unread ++ bytes)
within_more limits server part start unread bytes w = record {
  head = w.head;
  framing = w.framing;
  after = w.after ++ bytes;
  decoder = w.decoder;
  waits = w.waits;
  reader = w.reader;
  given = w.given;
  accepts = λ more. rw (append_assoc start bytes more, append_assoc w.after bytes more) (w.accepts (bytes ++ more));
  bounded = w.bounded;
  back = λ more body rest x.
      rw (append_assoc w.after bytes more) (w.back (bytes ++ more) body rest (rw (append_assoc unread bytes more) at x));
  forth = λ more whole rest x.
      rw (append_assoc unread bytes more) (w.forth (bytes ++ more) whole rest (rw (append_assoc w.after bytes more) at x));
}

no_bytes : (bytes : List ℕ) → length bytes ≡ 0 → bytes ≡ []
no_bytes [] is = refl
no_bytes (b ∷ bytes) is = absurd (omega arith)

-- where nothing is unread, and no body is being read, all that was received was given
pub all_given : (part : Option Request) (server : Server) (unread : List ℕ) (limits : Limits) (received : List ℕ) (answered : RequestList)
    → is_some part ≡ false → length unread ≡ 0 → Receiving part server unread limits received answered → ReadsRequests limits received answered []
all_given None server unread limits received answered none empty x =
    subst₂ (λ s u. ReadsRequests limits s answered u) (append-nil received) (append-nil unread ∙ no_bytes unread empty) (x.1 [])
all_given (Some part) server unread limits received answered none empty x = cc

module _ (c : HttpConnection) (limits : Limits) (received : List ℕ) (answered : RequestList) where
  -- a connection that receives stands where its reader does
  pub receiving : c.phase ≡ Phase.Receives → HasGiven c limits received answered None → Receiving c.part c.server c.unread.items limits received answered
  receiving is x = subst (λ p. StandsAt p c limits received answered None) is x

  pub given_by : c.phase ≡ Phase.Receives → Receiving c.part c.server c.unread.items limits received answered → HasGiven c limits received answered None
  given_by is x = subst (λ p. StandsAt p c limits received answered None) (sym is) x

  pub waiting : (m : Wire.Request) → c.phase ≡ Phase.Waits → HasGiven c limits received answered (Some m) → Waiting c limits received answered m
  waiting m is x = subst (λ p. StandsAt p c limits received answered (Some m)) is x

receiving_more : (part : Option Request) (server : Server) (unread bytes : List ℕ) (limits : Limits) (received : List ℕ) (answered : RequestList)
    → Receiving part server unread limits received answered → Receiving part server (unread ++ bytes) limits (received ++ bytes) answered
receiving_more None server unread bytes limits received answered x = (x.0, reads_more limits received answered unread bytes x.1)
receiving_more (Some part) server unread bytes limits received answered x =
    (x.0 ++ bytes, reads_more limits received answered x.0 bytes x.1, within_more limits server part x.0 unread bytes x.2)

-- more was received
pub stands_more : (phase : Phase) (c new : HttpConnection) (bytes : List ℕ) (limits : Limits) (received : List ℕ) (answered : RequestList) (asked : Asked)
    → new.part ≡ c.part → new.server ≡ c.server → new.is_head ≡ c.is_head → new.unread.items ≡ c.unread.items ++ bytes
    → StandsAt phase c limits received answered asked → StandsAt phase new limits (received ++ bytes) answered asked
stands_more Phase.Receives c new bytes limits received answered None part server head is x =
    rw (part, server, is) (receiving_more c.part c.server c.unread.items bytes limits received answered x)
stands_more Phase.Receives c new bytes limits received answered (Some m) part server head is x = absurd x
stands_more Phase.Waits c new bytes limits received answered None part server head is x = absurd x
stands_more Phase.Waits c new bytes limits received answered (Some m) part server head is x =
    (server ∙ x.0, part ∙ x.1, head ∙ x.2, rw is (reads_more limits received (answered ++ m ∷ []) c.unread.items bytes x.3))
stands_more Phase.Over c new bytes limits received answered asked part server head is x = tt
