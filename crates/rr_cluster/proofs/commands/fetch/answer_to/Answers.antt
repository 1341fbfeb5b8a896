use Rattle.std.proofs.Common.{None, sym}
use Rattle.std.proofs.lemmas.Result.{err_from_is_err_and}
use Rattle.rr_fetch.specs.Requests.{request_view}
use Rattle.rr_fetch.specs.Words.{parts}
use Rattle.rr_cluster.specs.Model.{cell_model}
use Rattle.rr_cluster.proofs.CommandsLemmas.Fetch.{no_node, fetch_refused, fetch_answered}
use Rattle.rr_cluster.proofs.MeaningLemmas.{node_at}
use Rattle.rr_cluster.proofs.commands.fetch.answer_to.Goals as goal

pub returns-in_default : goal.returns-in_default
returns-in_default g c = λ m is.
    no_node cell_model m c.args.node.now (parts c.args.request.now)
    (node_at c.args.cluster.now m is c.args.node.now None (sym c.in_default.ensures.value))

pub returns-in_err-request : goal.returns-in_err-request
returns-in_err-request g c = λ m is.
    let given = err_from_is_err_and c.from_residual.result c.from_residual.ensures.1 in
    let due = rw c.schema.ensures.value at c.in_err-request.ensures.value in
    rw given.1 (fetch_refused c.args.cluster.now m is c.args.node.now (parts c.args.request.now) c.in-Some.replica.now
    c.in-Some.ensures.value request_view c.in_err-request.field-0.0 given.0 due given.2)

pub returns : goal.returns
returns g c = λ m is.
    let parsed = rw c.schema.ensures.value at c.in_ok-request.ensures.value in
    fetch_answered c.args.cluster.now m is c.args.node.now (parts c.args.request.now) c.in-Some.replica.now
    c.in-Some.ensures.value
    (request_view c.in_ok-request.request) parsed c.in_ok-answer_text.field-0.items c.in_ok-answer_text.ensures
