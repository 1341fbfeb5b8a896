-- What a response leaves of the reader of requests.
use Rattle.std.proofs.Common.{◌≡◌, ◌≢◌, ℕ, Bool, true, false, cond, codes, bytes_eq, List, [], ◌∷◌, ◌++◌, None, Result, Ok, Err, refl, sym, ap, ◌∙◌, subst, subst₂}
use Rattle.http1.specs.declared.conn.Limits.{Limits}
use Rattle.http1.specs.declared.conn.Writing.TheVariants as Writing
use Rattle.http1.specs.declared.error.WriteError.{WriteError}
use Rattle.http1.specs.declared.server.Server.{Server}
use Rattle.http1.specs.Conn.{Plan, is_read}
use Rattle.http1.specs.Message as Wire
use Rattle.http1.specs.Server.{new_server, closed_server, responding, response_plan}
use Rattle.rr_connection.specs.declared.http.HttpConnection.{HttpConnection}
use Rattle.rr_connection.specs.declared.http.Phase.TheVariants as Phase
use Rattle.rr_connection.specs.Answer.{ReplyView, answered_by, begun, body_written, headers_of, response_to, size_of}
use Rattle.rr_connection.specs.Stands.{asked_by, HasGiven, Receiving, RequestList, Waiting}
use Rattle.rr_connection.proofs.StreamLemmas.{given_by}

-- a response changes neither what is read nor its limits
abbrev SameReading : Server → Server → Type 0
SameReading old new = (new.reading ≡ old.reading) × (new.limits ≡ old.limits)

responding_same : (s : Server) (p : Result Plan WriteError) → SameReading s (responding s p)
responding_same s (Ok p) = (refl, refl)
responding_same s (Err e) = (refl, refl)

body_same : (is_head : Bool) (s : Server) (body : List ℕ) → SameReading s (body_written is_head s body)
body_same true s body = (refl, refl)
body_same false s body = (refl, refl)

cycle_open : (keep read : Bool) (s : Server) → read ≡ true
    → (cond keep (cond read (new_server s.limits) s) (closed_server s)).writing ≢ Writing.Closed
    → cond keep (cond read (new_server s.limits) s) (closed_server s) ≡ new_server s.limits
cycle_open true true s is stays = refl
cycle_open true false s is stays = cc
cycle_open false read s is stays = absurd (stays refl)

-- unless the connection is to end, the next request is read
pub reads_next : (limits : Limits) (m : Wire.Request) (is_head : Bool) (reply : ReplyView) → (answered_by (asked_by limits m) is_head reply).writing ≢ Writing.Closed
    → answered_by (asked_by limits m) is_head reply ≡ new_server limits
reads_next limits m is_head reply stays =
    let s = asked_by limits m in
    let t = begun s reply in
    let u = body_written is_head t reply.body in
    let head = responding_same s (response_plan s reply.status (size_of reply.body) (headers_of reply.fields reply.closes)) in
    let body = body_same is_head t reply.body in
    let read : is_read u.reading ≡ true = ap is_read (body.0 ∙ head.0) in
    cycle_open u.request.keep_alive (is_read u.reading) (record u { writing = Writing.Done }) read stays ∙ ap new_server (body.1 ∙ head.1)

-- the same of a response to the request that is out
pub text_of : (limits : Limits) (m : Wire.Request) (s : Server) (is_head : Bool) (reply : ReplyView) (before after : List ℕ)
    → s ≡ asked_by limits m → is_head ≡ bytes_eq m.head.method (codes "HEAD") → after ≡ before ++ response_to s is_head reply
    → after ≡ before ++ response_to (asked_by limits m) (bytes_eq m.head.method (codes "HEAD")) reply
text_of limits m s is_head reply before after reader head x = subst₂ (λ r h. after ≡ before ++ response_to r h reply) reader head x

pub next_of : (limits : Limits) (m : Wire.Request) (s new : Server) (is_head : Bool) (reply : ReplyView)
    → s ≡ asked_by limits m → new ≡ answered_by s is_head reply → new.writing ≢ Writing.Closed → new ≡ new_server limits
next_of limits m s new is_head reply reader is stays =
    let now : new ≡ answered_by (asked_by limits m) is_head reply = is ∙ ap (λ r. answered_by r is_head reply) reader in
    now ∙ reads_next limits m is_head reply (λ wrong. stays (ap (λ (r : Server). r.writing) now ∙ wrong))

-- after it, the request that was out is one that was answered
pub given_next : (old new : HttpConnection) (limits : Limits) (received : List ℕ) (answered : RequestList) (m : Wire.Request)
    → new.phase ≡ Phase.Receives → new.server ≡ new_server limits → new.part ≡ old.part → new.unread ≡ old.unread
    → Waiting old limits received answered m → HasGiven new limits received (answered ++ m ∷ []) None
given_next old new limits received answered m phase server part unread w =
    let none : new.part ≡ None = part ∙ w.1 in
    given_by new limits received (answered ++ m ∷ []) phase
    (subst (λ p. Receiving p new.server new.unread.items limits received (answered ++ m ∷ [])) (sym none) (server, rw unread w.3))

pub closed_of : (limits : Limits) (m : Wire.Request) (s new : Server) (is_head : Bool) (reply : ReplyView)
    → s ≡ asked_by limits m → is_head ≡ bytes_eq m.head.method (codes "HEAD") → new ≡ answered_by s is_head reply → new.writing ≡ Writing.Closed
    → (answered_by (asked_by limits m) (bytes_eq m.head.method (codes "HEAD")) reply).writing ≡ Writing.Closed
closed_of limits m s new is_head reply reader head is closed =
    let now : new ≡ answered_by (asked_by limits m) (bytes_eq m.head.method (codes "HEAD")) reply =
    subst₂ (λ r h. new ≡ answered_by r h reply) reader head is in
    ap (λ (r : Server). r.writing) (sym now) ∙ closed
