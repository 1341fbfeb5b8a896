-- Each event that is read, as a step in the stream.
use Rattle.std.proofs.Common.{◌≡◌, ◌≢◌, ℕ, Bool, false, not, ◌&&◌, List, [], ◌∷◌, ◌++◌, drop, length, Option, Some, None, Ok, refl, sym, ap, ◌∙◌, subst, append_assoc, append-nil, ◌==◌}
use Rattle.std.proofs.Math.Bool.{and-false}
use Rattle.std.specs.List.{list_any}
use Rattle.httparse.specs.Grammar.{ReadsRequest}
use Rattle.httparse.specs.Spans.{span_bytes}
use Rattle.httparse.specs.declared.spans.HeaderSpan.{HeaderSpan}
use Rattle.httparse.specs.declared.spans.RequestSpans.{RequestSpans}
use Rattle.httparse.specs.declared.spans.Span.{Span}
use Rattle.httparse.proofs.GrammarLemmas.{ReadsRequest-append}
use Rattle.http1.specs.declared.conn.Limits.{Limits}
use Rattle.http1.specs.declared.conn.Event.{Event}
use Rattle.http1.specs.declared.conn.Event.TheVariants.{NeedMore, Head, Informational, Data, End, Paused, Upgraded, Closed}
use Rattle.http1.specs.declared.conn.Progress.{Progress}
use Rattle.http1.specs.declared.conn.Reading.{Reading}
use Rattle.http1.specs.declared.decode.Decoder.{Decoder}
use Rattle.http1.specs.declared.decode.Decoder.TheVariants.{Length, Chunked, UntilClose}
use Rattle.http1.specs.declared.framing.Framing.{Framing}
use Rattle.http1.specs.declared.framing.Framing.TheVariants as Framed
use Rattle.http1.specs.declared.server.Server.{Server}
use Rattle.http1.specs.Body.{body_of}
use Rattle.http1.specs.Conn.{is_read}
use Rattle.http1.specs.Decoder.{Completes, Continues, Runs, decoder_for, with_front as with_more}
use Rattle.http1.specs.Framing.{method_kind}
use Rattle.http1.specs.Message as Wire
use Rattle.http1.specs.Message.{known_of, ReadsRequestMessage, ReadsRequests}
use Rattle.http1.specs.Server.{new_server, request_of, ReadsHead, ReadsInBody, ServerReads}
use Rattle.http1.proofs.FramingFacts.{request_has_an_end}
use Rattle.http1.proofs.OneParse.{body_from_completes}
use Rattle.rr_connection.specs.declared.request.Request.{Request}
use Rattle.rr_connection.specs.Requests.{RequestView, request_view, given_of, begun_at, is_coding, ReadsOn}
use Rattle.rr_connection.specs.Refused.{HasNoOther}
use Rattle.rr_connection.specs.Stands.{IsWithin, Receiving, RequestList, in_body, asked_by, so_far}
use Rattle.rr_connection.proofs.StreamLemmas.{put_last, next_now, continued}

-- no request's body runs until the connection closes
bounded : (limits : Limits) (framing : Framing) → framing ≢ Framed.UntilClose → decoder_for limits framing ≢ UntilClose
bounded limits Framed.NoBody ends = λ is. cc
bounded limits (Framed.Length len) ends = λ is. cc
bounded limits Framed.Chunked ends = λ is. cc
bounded limits Framed.UntilClose ends = λ is. ends refl

still_bounded : (old new : Decoder) (input : List ℕ) (len : ℕ) (piece : List ℕ) → Runs old input new len piece → old ≢ UntilClose → new ≢ UntilClose
still_bounded (Length left) new input len piece runs was = λ is. let wrong = sym runs ∙ is in cc
still_bounded (Chunked chunks max_len) new input len piece runs was = λ is. let wrong = sym runs.1 ∙ is in cc
still_bounded UntilClose new input len piece runs was = absurd (was refl)

-- a client whose request is whole waits for no `100 Continue`
waits_no_more : (waits : Bool) (unread : List ℕ) (next : Reading) → next ≡ Reading.Done → (waits && ((length unread == 0) && not (is_read next))) ≡ false
waits_no_more waits unread next is =
    ap (λ (r : Reading). waits && ((length unread == 0) && not (is_read r))) is ∙ ap (λ b. waits && b) (and-false (length unread == 0)) ∙ and-false waits

module _ (limits : Limits) (received : List ℕ) (answered : RequestList) (unread : List ℕ) (spans : List HeaderSpan) (before new : Server) where
  -- what is read where the reader awaits a head, and within a body
  at_head : (read : Progress RequestSpans) → before ≡ new_server limits → ServerReads before unread spans new read
      → ReadsHead (new_server limits) unread spans new read.consumed read.event
  at_head read is did = subst (λ s. ServerReads s unread spans new read) is did

  pub in_a_body : (read : Progress RequestSpans) (part : Request) (start : List ℕ) (w : IsWithin limits before part start unread)
      → ServerReads before unread spans new read
      → ReadsInBody w.decoder (in_body limits w.head w.framing w.decoder w.waits) unread spans new read
  in_a_body read part start w did = subst (λ s. ServerReads s unread spans new read) w.reader did

  -- a head was read
  pub head_read : (old : Option Request) (part : Request) (head : RequestSpans) (len : ℕ) → request_view part ≡ begun_at unread spans head
      → Receiving old before unread limits received answered → ServerReads before unread spans new (record { consumed = len; event = Head head })
      → Receiving (Some part) new (drop len unread) limits received answered
  head_read None part head len given x did =
      let t = at_head (record { consumed = len; event = Head head }) x.0 did in
      let none : part.body.items ≡ [] = ap (λ (v : RequestView). v.body) given in (
        unread,
        x.1,
        record {
          head = t.head;
          framing = t.framing;
          after = drop len unread;
          decoder = decoder_for limits t.framing;
          waits = (request_of t.head t.framing).expects_continue;
          reader = t.next;
          given = λ i. record {
            method = ((ap (λ (v : RequestView). v.method) given) ∙ t.covered.method) i;
            target = ((ap (λ (v : RequestView). v.target) given) ∙ t.covered.path) i;
            is_encoded = ((ap (λ (v : RequestView). v.is_encoded) given) ∙ ap (list_any is_coding) t.covered.fields) i;
            body = part.body.items;
          };
          accepts = λ more. record {
            reads = ReadsRequest-append unread t.head _ more t.accepts.reads;
            strict = t.accepts.strict;
            host = t.accepts.host;
            framed = t.accepts.framed;
          };
          bounded = bounded limits t.framing (λ is.
              request_has_an_end (method_kind t.head.method) t.head.minor _ (t.accepts.framed ∙ ap Ok is));
          back = λ more body rest y. subst (λ bytes. Completes (decoder_for limits t.framing) (drop len unread ++ more) (with_more bytes body) rest) (sym none) y;
          forth = λ more whole rest y. (whole, ap (λ bytes. with_more bytes whole) (sym none), y);
        },
      )
  head_read (Some q) part head len given x did =
      absurd (in_a_body (record { consumed = len; event = Head head }) q x.0 x.2 did).1

  -- a piece of a body was read
  pub piece_read : (old : Option Request) (part : Request) (piece : Span) (len : ℕ) → (p : Request) → old ≡ Some p
      → request_view part ≡ record (request_view p) { body = p.body.items ++ span_bytes unread piece }
      → Receiving old before unread limits received answered → ServerReads before unread spans new (record { consumed = len; event = Data piece })
      → Receiving (Some part) new (drop len unread) limits received answered
  piece_read None part piece len p is given x did = cc
  piece_read (Some q) part piece len p is given x did =
      let same : p ≡ q = cc in
      let w = x.2 in
      let did = in_a_body (record { consumed = len; event = Data piece }) q x.0 w did in
      let step = did.1 in
      let bytes : part.body.items ≡ q.body.items ++ span_bytes unread piece =
      ap (λ (v : RequestView). v.body) given ∙ ap (λ (r : Request). r.body.items ++ span_bytes unread piece) same in
      let fields : request_view part ≡ record (request_view q) { body = part.body.items } = λ i. record {
        method = (ap (λ (v : RequestView). v.method) given ∙ ap (λ (r : Request). r.method.items) same) i;
        target = (ap (λ (v : RequestView). v.target) given ∙ ap (λ (r : Request). r.target.items) same) i;
        is_encoded = (ap (λ (v : RequestView). v.is_encoded) given ∙ ap (λ (r : Request). r.is_encoded) same) i;
        body = part.body.items;
      } in
      let cont : Continues w.decoder unread step.0 len (span_bytes unread piece) =
      subst (λ n. Continues w.decoder unread step.0 n (span_bytes unread piece)) (sym step.2) step.4 in (
        x.0,
        x.1,
        record {
          head = w.head;
          framing = w.framing;
          after = w.after;
          decoder = step.0;
          waits = new.request.expects_continue;
          reader = λ i. record {
            limits = (ap (λ (s : Server). s.limits) did.2) i;
            reading = (ap (λ (s : Server). s.reading) did.2 ∙ step.1) i;
            writing = (ap (λ (s : Server). s.writing) did.2) i;
            request = record ((ap (λ (s : Server). s.request) did.2) i) { expects_continue = new.request.expects_continue };
          };
          given = fields ∙ ap (λ (v : RequestView). record v { body = part.body.items }) w.given;
          accepts = w.accepts;
          bounded = still_bounded w.decoder step.0 unread len _ cont.runs w.bounded;
          back = λ more body rest y.
              let z = w.back more (with_more (span_bytes unread piece) body) rest (cont.back more body rest y) in
              subst (λ b. Completes (decoder_for limits w.framing) (w.after ++ more) (record body { bytes = b }) rest)
              (sym (append_assoc q.body.items (span_bytes unread piece) body.bytes) ∙ ap (λ b. b ++ body.bytes) (sym bytes)) z;
          forth = λ more whole rest y.
              let z = w.forth more whole rest y in
              let b = cont.forth more z.0 rest z.2 in (
                b.0,
                z.1 ∙ ap (with_more q.body.items) b.1 ∙ ap (λ t. record (b.0) { bytes = t })
                    (sym (append_assoc q.body.items (span_bytes unread piece) b.0.bytes) ∙ ap (λ t. t ++ b.0.bytes) (sym bytes)),
                b.2,
              );
        },
      )

  -- the end of a body was read: the request is whole
  pub end_read : (old : Option Request) (count len : ℕ) → (p : Request) → old ≡ Some p
      → Receiving old before unread limits received answered → ServerReads before unread spans new (record { consumed = len; event = End count })
      → (m : Wire.Request) × (request_view p ≡ given_of m) × (new ≡ asked_by limits m) × ReadsOn limits received (answered ++ m ∷ []) (drop len unread)
  end_read None count len p is x did = cc
  end_read (Some q) count len p is x did =
      let same : p ≡ q = cc in
      let w = x.2 in
      let did = in_a_body (record { consumed = len; event = End count }) q x.0 w did in
      let ends = did.1.1 in
      let m : Wire.Request = record { head = w.head; body = with_more q.body.items (body_of [] ends.trailers) } in (
        m,
        ap request_view same ∙ w.given ∙ ap (λ b. so_far w.head b) (sym (append-nil q.body.items)),
        λ i. record {
          limits = (ap (λ (s : Server). s.limits) did.2) i;
          reading = (ap (λ (s : Server). s.reading) did.2 ∙ did.1.0) i;
          writing = (ap (λ (s : Server). s.writing) did.2) i;
          request = record ((ap (λ (s : Server). s.request) did.2) i) {
            expects_continue = (ap (λ (s : Server). s.request.expects_continue) did.2 ∙ waits_no_more w.waits unread did.0 did.1.0) i;
          };
        },
        λ more. put_last limits answered m (received ++ more) (x.0 ++ more) (drop len unread ++ more) (x.1 more) (record {
          framing = w.framing;
          after_head = w.after ++ more;
          head = w.accepts more;
          body = body_from_completes limits w.framing (w.after ++ more) m.body (drop len unread ++ more)
              (w.back more (body_of [] ends.trailers) (drop len unread ++ more) (ends.completes more));
        }),
      )

  none_at_head : (event : Event RequestSpans) (len : ℕ) → ((r : RequestSpans) → event ≢ Head r) → ReadsHead (new_server limits) unread spans new len event
      → ReadsOn limits received answered unread
      → HasNoOther limits received answered × (new ≡ new_server limits) × ReadsOn limits received answered (drop len unread)
  none_at_head NeedMore len other did on = (
    λ m x.
        let y = next_now limits received answered unread m on x in
        did.2 m.head y.1.after_head (subst (λ s. ReadsRequest s m.head y.1.after_head) (append-nil unread) y.1.head.reads),
    did.1,
    subst (λ n. ReadsOn limits received answered (drop n unread)) (sym did.0) on,
  )
  none_at_head (Head r) len other did on = absurd (other r refl)
  none_at_head (Informational r) len other did on = absurd did
  none_at_head (Data s) len other did on = absurd did
  none_at_head (End count) len other did on = absurd did
  none_at_head Paused len other did on = absurd did
  none_at_head Upgraded len other did on = absurd did
  none_at_head Closed len other did on = absurd did

  none_in_body : (part : Request) (start : List ℕ) (event : Event RequestSpans) (len : ℕ) (w : IsWithin limits before part start unread)
      → ((s : Span) → event ≢ Data s) → ((count : ℕ) → event ≢ End count)
      → ReadsInBody w.decoder (in_body limits w.head w.framing w.decoder w.waits) unread spans new (record { consumed = len; event = event })
      → ReadsOn limits received answered start
      → HasNoOther limits received answered × IsWithin limits new part start (drop len unread)
  none_in_body part start NeedMore len w no_data no_end did on =
      let starves = did.1.2 in (
        λ m x.
            let y = next_now limits received answered start m on x in
            let c = continued limits before part start unread [] m y.0 w y.1 in
            starves.unfinished w.bounded c.body c.rest (subst (λ s. Completes w.decoder s c.body c.rest) (append-nil unread) c.completes),
        record {
          head = w.head;
          framing = w.framing;
          after = w.after;
          decoder = did.1.0;
          waits = new.request.expects_continue;
          reader = λ i. record {
            limits = (ap (λ (s : Server). s.limits) did.2) i;
            reading = (ap (λ (s : Server). s.reading) did.2 ∙ did.1.1) i;
            writing = (ap (λ (s : Server). s.writing) did.2) i;
            request = record ((ap (λ (s : Server). s.request) did.2) i) { expects_continue = new.request.expects_continue };
          };
          given = w.given;
          accepts = w.accepts;
          bounded = still_bounded w.decoder did.1.0 unread len _ starves.continues.runs w.bounded;
          back = λ more body rest y. w.back more body rest (starves.continues.back more body rest y);
          forth = λ more whole rest y.
              let z = w.forth more whole rest y in
              let b = starves.continues.forth more z.0 rest z.2 in
              (b.0, z.1 ∙ ap (with_more part.body.items) b.1, b.2);
        },
      )
  none_in_body part start (Head r) len w no_data no_end did on = absurd did.1
  none_in_body part start (Informational r) len w no_data no_end did on = absurd did.1
  none_in_body part start (Data s) len w no_data no_end did on = absurd (no_data s refl)
  none_in_body part start (End count) len w no_data no_end did on = absurd (no_end count refl)
  none_in_body part start Paused len w no_data no_end did on = absurd did.1
  none_in_body part start Upgraded len w no_data no_end did on = absurd did.1
  none_in_body part start Closed len w no_data no_end did on = absurd did.1

  -- no event but that more is needed: what was received holds no other whole request
  pub none_read : (old : Option Request) (read : Progress RequestSpans)
      → ((r : RequestSpans) → read.event ≢ Head r) → ((s : Span) → read.event ≢ Data s) → ((count : ℕ) → read.event ≢ End count)
      → Receiving old before unread limits received answered → ServerReads before unread spans new read
      → HasNoOther limits received answered × Receiving old new (drop read.consumed unread) limits received answered
  none_read None read no_head no_data no_end x did =
      let y = none_at_head read.event read.consumed no_head (at_head read x.0 did) x.1 in
      (y.0, (y.1, y.2))
  none_read (Some part) read no_head no_data no_end x did =
      let y = none_in_body part x.0 read.event read.consumed x.2 no_data no_end (in_a_body read part x.0 x.2 did) x.1 in
      (y.0, (x.0, x.1, y.1))
