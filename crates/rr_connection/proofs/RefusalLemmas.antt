-- Why what was received is refused.
use Rattle.std.proofs.Common.{◌≡◌, ℕ, ◌+◌, ◌<◌, true, List, ◌++◌, length, Option, Some, None, sym, ap, ◌∙◌, subst, inl, inr, arith, length-append}
use Rattle.httparse.specs.Grammar.{RequestHead}
use Rattle.httparse.specs.Spans.{span_bytes}
use Rattle.httparse.specs.declared.spans.HeaderSpan.{HeaderSpan}
use Rattle.httparse.specs.declared.spans.Span.{Span}
use Rattle.http1.specs.declared.conn.BodySize.TheVariants.{Known}
use Rattle.http1.specs.declared.conn.Event.TheVariants.{Data}
use Rattle.http1.specs.declared.conn.Limits.{Limits}
use Rattle.http1.specs.declared.conn.Reading.TheVariants as Reading
use Rattle.http1.specs.declared.decode.Decoder.{Decoder}
use Rattle.http1.specs.declared.decode.Decoder.TheVariants.{Length, Chunked, UntilClose}
use Rattle.http1.specs.declared.error.ReadError.{ReadError}
use Rattle.http1.specs.declared.server.Server.{Server}
use Rattle.http1.specs.Body.{Body}
use Rattle.http1.specs.Conn.{unread_size}
use Rattle.http1.specs.Decoder.{Completes}
use Rattle.http1.specs.Message.{known_of}
use Rattle.http1.specs.Server.{has_codings, reading, ServerReads, ServerRefuses}
use Rattle.rr_connection.specs.declared.http.TheConstants.{MAX_HEADERS}
use Rattle.rr_connection.specs.declared.request.Request.{Request}
use Rattle.rr_connection.specs.Refused.{HasTooManyFields, OnlyWith}
use Rattle.rr_connection.specs.Stands.{Receiving, RequestList}
use Rattle.rr_connection.proofs.StreamLemmas.{next_at, continued}
use Rattle.rr_connection.proofs.EventLemmas.{in_a_body}

module _ (limits : Limits) (received : List ℕ) (answered : RequestList) (unread : List ℕ) (server : Server) where
  -- where a read fails, a request that follows has more fields than there is room for
  pub malformed : (old : Option Request) (error : ReadError) → Receiving old server unread limits received answered
      → ServerRefuses server unread MAX_HEADERS error → OnlyWith HasTooManyFields limits received answered
  malformed None error x refuses more m goes =
      let y = next_at limits received answered unread more m x.1 goes in
      let why = subst (λ s. ServerRefuses s unread MAX_HEADERS error) x.0 refuses in
      inl (why.0 more m.head y.1.framing y.1.after_head y.1.head)
  malformed (Some part) error x refuses more m goes =
      let w = x.2 in
      let y = next_at limits received answered x.0 more m x.1 goes in
      let c = continued limits server part x.0 unread more m y.0 w y.1 in
      let why = subst (λ s. ServerRefuses s unread MAX_HEADERS error) w.reader refuses in
      inr (subst (λ (b : Body). MAX_HEADERS < length b.trailers) (sym c.whole) (why.0 more c.body c.rest c.completes))

  -- a transfer coding that isn't undone
  pub coded : (part : Request) → Receiving (Some part) server unread limits received answered → has_codings server ≡ true
      → OnlyWith (λ m. (known_of m.head.fields).other_coding ≡ true) limits received answered
  coded part x is more m goes =
      let w = x.2 in
      let y = next_at limits received answered x.0 more m x.1 goes in
      let c = continued limits server part x.0 unread more m y.0 w y.1 in
      ap (λ (h : RequestHead). (known_of h.fields).other_coding) c.head ∙ ap has_codings (sym w.reader) ∙ is

  completes_known : (d : Decoder) (stream : List ℕ) (body : Body) (rest : List ℕ) (len : ℕ) → unread_size (Reading.Body d) ≡ Known len
      → Completes d stream body rest → length body.bytes ≡ len
  completes_known (Length left) stream body rest len is x = let same : left ≡ len = cc in x.0 ∙ same
  completes_known (Chunked chunks max_len) stream body rest len is x = cc
  completes_known UntilClose stream body rest len is x = cc

  -- a body whose stated length is too great
  pub stated_too_long : (part : Request) (len max_body : ℕ) → Receiving (Some part) server unread limits received answered
      → unread_size (reading server) ≡ Known len → max_body < len → OnlyWith (λ m. max_body < length m.body.bytes) limits received answered
  stated_too_long part len max_body x is more_than more m goes =
      let w = x.2 in
      let y = next_at limits received answered x.0 more m x.1 goes in
      let c = continued limits server part x.0 unread more m y.0 w y.1 in
      let left = completes_known w.decoder (unread ++ more) c.body c.rest len (ap (λ (s : Server). unread_size s.reading) (sym w.reader) ∙ is) c.completes in
      let whole : length m.body.bytes ≡ length part.body.items + length c.body.bytes =
      ap (λ (b : Body). length b.bytes) c.whole ∙ length-append part.body.items c.body.bytes in
      omega arith

  -- a body of which too much came
  pub too_long : (old : Option Request) (p : Request) (new : Server) (spans : List HeaderSpan) (piece : Span) (len max_body : ℕ) → old ≡ Some p
      → Receiving old server unread limits received answered
      → ServerReads server unread spans new (record { consumed = len; event = Data piece })
      → max_body < length p.body.items + length (span_bytes unread piece)
      → OnlyWith (λ m. max_body < length m.body.bytes) limits received answered
  too_long None p new spans piece len max_body is x did over more m goes = cc
  too_long (Some q) p new spans piece len max_body is x did over more m goes =
      let same : p ≡ q = cc in
      let w = x.2 in
      let y = next_at limits received answered x.0 more m x.1 goes in
      let c = continued limits server q x.0 unread more m y.0 w y.1 in
      let did = in_a_body limits received answered unread spans server new (record { consumed = len; event = Data piece }) q x.0 w did in
      let later = did.1.4.forth more c.body c.rest c.completes in
      let length_p : length p.body.items ≡ length q.body.items = ap (λ (r : Request). length r.body.items) same in
      let whole : length m.body.bytes ≡ length q.body.items + length c.body.bytes =
      ap (λ (b : Body). length b.bytes) c.whole ∙ length-append q.body.items c.body.bytes in
      let piece_of : length c.body.bytes ≡ length (span_bytes unread piece) + length later.0.bytes =
      ap (λ (b : Body). length b.bytes) later.1 ∙ length-append (span_bytes unread piece) later.0.bytes in
      omega arith
