use Rattle.std.proofs.Common.{◌≡◌, ◌+◌, ◌<◌, ◌++◌, Some, length, ap, arith, rules}
use Rattle.httparse.specs.Spans.{span_bytes}
use Rattle.httparse.proofs.RunLemmas.{length-slice_range}
use Rattle.rr_connection.specs.declared.request.Request.{Request}
use Rattle.rr_connection.specs.Requests.{request_view}
use Rattle.rr_connection.proofs.StreamLemmas.{given_by}
use Rattle.rr_connection.proofs.EventLemmas.{piece_read}
use Rattle.rr_connection.proofs.RefusalLemmas.{too_long}
use Rattle.rr_connection.proofs.http.HttpConnection.take.Goals as goal

pub returns-then-piece-saturating_sub-clause-found : goal.returns-then-piece-saturating_sub-clause-found
returns-then-piece-saturating_sub-clause-found c = λ spans limits received answered x.
    let old = c.args.self.now in
    let some : old.part ≡ Some c.in-Some.part = cc in
    let piece = length-slice_range old.unread.items c.args.piece.start c.args.piece.end c.requires.piece.0 c.requires.piece.1 in
    let over : old.max_body < length c.in-Some.part.body.items + length (span_bytes old.unread.items c.args.piece) = omega arith in
    c.refuse-then-piece-saturating_sub.ensures.found limits received answered
    (too_long limits received answered old.unread.items x.0 old.part c.in-Some.part old.server spans c.args.piece c.args.consumed old.max_body some x.1 x.2 over)

pub returns-clause-found : goal.returns-clause-found
returns-clause-found c = λ spans limits received answered x.
    let old = c.args.self.now in
    let some : old.part ≡ Some c.in-Some.part = cc in
    let part : Request = record (c.in-Some.part) { body = c.extend_from_slice.new.self } in
    let bytes : part.body.items ≡ c.in-Some.part.body.items ++ span_bytes old.unread.items c.args.piece = search rules in
    let given : request_view part ≡ record (request_view c.in-Some.part) { body = c.in-Some.part.body.items ++ span_bytes old.unread.items c.args.piece } =
    ap (λ b. record (request_view c.in-Some.part) { body = b }) bytes in
    let r = piece_read limits received answered old.unread.items spans x.0 old.server old.part part c.args.piece c.args.consumed c.in-Some.part some given x.1 x.2 in
    (given_by (record old { part = Some part; unread = c.advance.new.self }) limits received answered c.requires.phase (rw c.advance.ensures.items r), c.requires.phase)
