use Rattle.std.proofs.Common.{◌≡◌, false, length, is_some, refl, sym, ◌∙◌, arith}
use Rattle.rr_connection.proofs.StreamLemmas.{all_given, receiving}
use Rattle.rr_connection.proofs.http.HttpConnection.wait.Goals as goal

pub returns-clause-found : goal.returns-clause-found
returns-clause-found c = λ limits received answered x.
    let old = c.args.self.now in
    let none : is_some old.part ≡ false = sym c.is_some.ensures ∙ c.if-is_some.false in
    let empty : length old.unread.items ≡ 0 = grind arith in
    (all_given old.part old.server old.unread.items limits received answered none empty (receiving old limits received answered x.1.0 x.1.1), refl)
