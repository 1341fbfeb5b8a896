use Rattle.rr_connection.proofs.StreamLemmas.{given_by, receiving}
use Rattle.rr_connection.proofs.EventLemmas.{none_read}
use Rattle.rr_connection.proofs.RefusalLemmas.{malformed}
use Rattle.rr_connection.proofs.http.HttpConnection.step.Goals as goal

pub returns-in-Err-clause-found : goal.returns-in-Err-clause-found
returns-in-Err-clause-found c = λ limits received answered x.
    let old = c.args.self.now in
    let refused = rw (c.as_slice.ensures, c.requires.room) at c.in-Err.ensures.err in
    c.refuse.ensures.found limits received answered
    (malformed limits received answered old.unread.items old.server old.part c.in-Err.error (receiving old limits received answered x.0 x.1) refused)

pub returns-in-Head-clause-found : goal.returns-in-Head-clause-found
returns-in-Head-clause-found c = λ limits received answered x.
    let old = c.args.self.now in
    let did = rw (c.as_slice.ensures, c.in-Head.is) at c.in-Ok.ensures.ok in
    c.begin.ensures.found limits received answered (old.server, receiving old limits received answered x.0 x.1, did)

pub returns-in-Data-clause-found : goal.returns-in-Data-clause-found
returns-in-Data-clause-found c = λ limits received answered x.
    let old = c.args.self.now in
    let did = rw (c.as_slice.ensures, c.in-Data.is) at c.in-Ok.ensures.ok in
    c.take.ensures.found c.read.new.headers limits received answered (old.server, receiving old limits received answered x.0 x.1, did)

pub returns-in-End-clause-found : goal.returns-in-End-clause-found
returns-in-End-clause-found c = λ limits received answered x.
    let old = c.args.self.now in
    let did = rw (c.as_slice.ensures, c.in-End.is) at c.in-Ok.ensures.ok in
    c.give.ensures.found c.read.new.headers c.in-End._trailers limits received answered (old.server, receiving old limits received answered x.0 x.1, did)

pub returns-in_default-clause-found : goal.returns-in_default-clause-found
returns-in_default-clause-found c = λ limits received answered x.
    let old = c.args.self.now in
    let did = rw c.as_slice.ensures at c.in-Ok.ensures.ok in
    let r = none_read limits received answered old.unread.items c.read.new.headers old.server c.read.new.self old.part c.in-Ok.read
    c.in_default.not-Head c.in_default.not-Data c.in_default.not-End (receiving old limits received answered x.0 x.1) did in
    let now = record old { server = c.read.new.self; unread = c.release.new.buffer } in
    c.wait.ensures.found limits received answered (r.0, (c.requires.phase, given_by now limits received answered c.requires.phase (rw (c.release.ensures, c.advance.ensures.items) r.1)))
