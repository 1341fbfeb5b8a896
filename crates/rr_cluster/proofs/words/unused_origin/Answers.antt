use Rattle.std.proofs.Common.{refl, sym, ◌∙◌}
use Rattle.std.proofs.lemmas.Result.{err_from_is_err_and}
use Rattle.rr_cluster.proofs.words.unused_origin.Goals as goal

pub returns-in_err-origin : goal.returns-in_err-origin
returns-in_err-origin c = λ origins are.
    let p = err_from_is_err_and c.from_residual.result c.from_residual.ensures.1 in
    rw (p.1, p.2, sym c.in_err-origin.ensures) refl

pub returns-then-contains : goal.returns-then-contains
returns-then-contains c = λ origins are.
    let used = sym (are c.in_ok-origin.origin) ∙ sym (rw c.get-number.ensures.same at c.if-contains.ensures) in
    rw (sym c.in_ok-origin.ensures, used) refl

pub returns : goal.returns
returns c = λ origins are.
    let unused = sym (are c.in_ok-origin.origin) ∙ sym (rw c.get-number.ensures.same at c.if-contains.ensures) in
    rw (sym c.in_ok-origin.ensures, unused) refl
