use Rattle.std.proofs.lemmas.Result.{err_from_is_err_and}
use Rattle.rr_node.proofs.ServedLemmas.{served_unread}
use Rattle.rr_node.proofs.reader.serve_reader.Goals as goal

pub returns-in_err-first-clause-served : goal.returns-in_err-first-clause-served
returns-in_err-first-clause-served g c =
    let p = err_from_is_err_and c.from_residual.result c.from_residual.ensures.1 in
    rw (p.1, p.2) (served_unread c.in_err-first.field-0.0 _ _ _ _ c.in_err-first.ensures.unread
    c.in_err-first.ensures.faults)
