use Rattle.std.proofs.Common.{Some, sym, ◌∙◌}
use Rattle.rr_connection.proofs.StreamLemmas.{given_by}
use Rattle.rr_connection.proofs.EventLemmas.{head_read}
use Rattle.rr_connection.proofs.RefusalLemmas.{coded, stated_too_long}
use Rattle.rr_connection.proofs.http.HttpConnection.begin.Goals as goal

pub returns-then-has_codings-clause-found : goal.returns-then-has_codings-clause-found
returns-then-has_codings-clause-found c = λ limits received answered x.
    let old = c.args.self.now in
    let begun = rw c.as_slice.ensures at c.in-Ok.ensures in
    let r = head_read limits received answered old.unread.items c.args.spans.now x.0 old.server old.part c.in-Ok.part c.args.head.now c.args.consumed begun x.1 x.2 in
    c.refuse-then-has_codings.ensures.found limits received answered
    (coded limits received answered _ old.server c.in-Ok.part r (sym c.has_codings.ensures ∙ c.if-has_codings.true))

pub returns-clause-found : goal.returns-clause-found
returns-clause-found c = λ limits received answered x.
    let old = c.args.self.now in
    let begun = rw c.as_slice.ensures at c.in-Ok.ensures in
    let r = head_read limits received answered old.unread.items c.args.spans.now x.0 old.server old.part c.in-Ok.part c.args.head.now c.args.consumed begun x.1 x.2 in
    c.refuse-2.ensures.found limits received answered
    (stated_too_long limits received answered _ old.server c.in-Ok.part c.in-Known.len old.max_body r (sym c.unread_size.ensures ∙ c.in-Known.is) c.if-len-self.true)

pub returns-2-clause-found : goal.returns-2-clause-found
returns-2-clause-found c = λ limits received answered x.
    let old = c.args.self.now in
    let begun = rw c.as_slice.ensures at c.in-Ok.ensures in
    let r = head_read limits received answered old.unread.items c.args.spans.now x.0 old.server old.part c.in-Ok.part c.args.head.now c.args.consumed begun x.1 x.2 in
    let now = record old { part = Some c.in-Ok.part; unread = c.advance.new.self } in
    c.invite.ensures.found limits received answered (c.requires.phase, given_by now limits received answered c.requires.phase (rw c.advance.ensures.items r))
