use Rattle.std.proofs.Common.{◌≡◌, ◌∷◌, [], ◌++◌, Some, append-nil, subst₂, refl, ◌∙◌, ap}
use Rattle.http1.specs.Message.{ReadsRequests}
use Rattle.rr_connection.specs.Requests.{RequestView, ReadsOn}
use Rattle.rr_connection.proofs.EventLemmas.{end_read}
use Rattle.rr_connection.proofs.http.HttpConnection.give.Goals as goal

pub returns-clause-found : goal.returns-clause-found
returns-clause-found c = λ spans count limits received answered x.
    let old = c.args.self.now in
    let some : old.part ≡ Some c.in-Some.part = cc in
    let e = end_read limits received answered old.unread.items spans x.0 old.server old.part count c.args.consumed c.in-Some.part some x.1 x.2 in
    let unread = c.release.ensures ∙ c.advance.ensures.items in
    let on : ReadsOn limits received (answered ++ e.0 ∷ []) c.release.new.buffer.items = rw unread e.3 in
    let now : ReadsRequests limits received (answered ++ e.0 ∷ []) c.release.new.buffer.items =
    subst₂ (λ s u. ReadsRequests limits s (answered ++ e.0 ∷ []) u) (append-nil received) (append-nil c.release.new.buffer.items) (on []) in
    let method : c.as_slice.result.now ≡ e.0.head.method = c.as_slice.ensures.value ∙ ap (λ (v : RequestView). v.method) e.1 in
    (e.0, e.1, now, (e.2, c.take.ensures.after, c.eq-self.ensures ∙ rw (method, c.as_slice-2.ensures) refl, on), refl)
