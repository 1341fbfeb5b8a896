use Rattle.std.proofs.Common.{Ok, ap, sym, ◌∙◌}
use Rattle.std.proofs.lemmas.Result.{err_from_is_err_and}
use Rattle.rr_cells.specs.Cells.{Cells}
use Rattle.rr_cells.specs.ReplicaState.{ReplicaState}
use Rattle.rr_cluster.specs.Model.{cell_model}
use Rattle.rr_cluster.specs.State.{Node, with_node}
use Rattle.rr_cluster.proofs.CommandsLemmas.Node.{bad_name, used_name, bad_origin, node_is_new, new_replica}
use Rattle.rr_cluster.proofs.MeaningLemmas.{node_there}
use Rattle.rr_cluster.proofs.commands.node.add_node.Goals as goal

pub returns-then-not-is_name : goal.returns-then-not-is_name
returns-then-not-is_name g c = λ m is.
    (bad_name cell_model m c.args.name.now c.args.origin.now (sym c.if-not-is_name.ensures), is)

pub returns-then-contains_key : goal.returns-then-contains_key
returns-then-contains_key g c = λ m is.
    let has = sym (node_there c.args.cluster.now m is c.args.name.now) ∙ sym c.if-contains_key.ensures in
    (used_name cell_model m c.args.name.now c.args.origin.now (sym c.if-not-is_name.ensures) has, is)

pub returns-in_err-origin : goal.returns-in_err-origin
returns-in_err-origin g c = λ m is.
    let free = sym (node_there c.args.cluster.now m is c.args.name.now) ∙ sym c.if-contains_key.ensures in
    let p = err_from_is_err_and c.from_residual.result c.from_residual.ensures.1 in
    rw (p.1, p.2) (
      bad_origin cell_model m c.args.name.now c.args.origin.now (sym c.if-not-is_name.ensures) free
          c.in_err-origin.field-0.0 (sym (c.in_err-origin.ensures m.origins is.origins)),
      is,
    )

pub returns : goal.returns
returns g c = λ m is.
    let old = c.args.cluster.now in
    let free = sym (node_there old m is c.args.name.now) ∙ sym c.if-contains_key.ensures in
    let number = c.in_ok-origin.origin in
    let made = c.in_ok-replica.ensures in
    let new = new_replica old m is c.in_ok-replica.replica number made in
    let due = node_is_new cell_model m c.args.name.now c.args.origin.now (sym c.if-not-is_name.ensures) free number
    (sym (c.in_ok-origin.ensures m.origins is.origins)) in
    rw (due ∙ ap (λ (n : Node Cells). Ok (with_node m c.args.name.now n)) (sym new))
    (c.put_node.ensures m is (ap (λ (h : ReplicaState). h.schema) made))
