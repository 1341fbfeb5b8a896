use Rattle.std.proofs.Common.{None, Some, sym}
use Rattle.std.proofs.lemmas.Result.{err_from_is_err_and}
use Rattle.rr_cluster.specs.Meaning.{node_in}
use Rattle.rr_cluster.specs.Model.{cell_model, part_of}
use Rattle.rr_cluster.proofs.CommandsLemmas.Page.{bad_name, no_node, bad_number, page_is_made, page_of_node}
use Rattle.rr_cluster.proofs.MeaningLemmas.{node_at}
use Rattle.rr_cluster.proofs.commands.page.add_page.Goals as goal

pub returns-then-not-is_name : goal.returns-then-not-is_name
returns-then-not-is_name g c = λ m is. (
  bad_name cell_model m c.args.name.now c.args.node.now c.args.from.now c.args.count.now
      (sym c.if-not-is_name.ensures),
  is,
)

pub returns-in_default : goal.returns-in_default
returns-in_default g c = λ m is.
    let none = node_at c.args.cluster.now m is c.args.node.now None (sym c.in_default.ensures.value) in (
      no_node cell_model m c.args.name.now c.args.node.now c.args.from.now c.args.count.now
          (sym c.if-not-is_name.ensures) none,
      is,
    )

pub returns-in_err-from : goal.returns-in_err-from
returns-in_err-from g c = λ m is.
    let h = c.in-Some.replica.now in
    let here = node_at c.args.cluster.now m is c.args.node.now (Some h) (sym c.in-Some.ensures.value) in
    let p = err_from_is_err_and c.from_residual.result c.from_residual.ensures.1 in
    rw (p.1, p.2) (
      bad_number cell_model m c.args.name.now c.args.node.now c.args.from.now c.args.count.now
          (sym c.if-not-is_name.ensures) (node_in h) here c.in_err-from.field-0.0 (sym c.in_err-from.ensures.value),
      is,
    )

pub returns : goal.returns
returns g c = λ m is.
    let old = c.args.cluster.now in
    let name = c.args.name.now in
    let node = c.args.node.now in
    let h = c.in-Some.replica.now in
    let replica = sym c.in-Some.ensures.value in
    let first = c.in_ok-from.from in
    let most = c.in_ok-from.count in
    let due = page_is_made cell_model m name node c.args.from.now c.args.count.now (sym c.if-not-is_name.ensures)
    (node_in h) (node_at old m is node (Some h) replica) first most (sym c.in_ok-from.ensures.value) in
    let page = part_of h.cells first most in
    rw due (c.put_page.ensures m page is (page_of_node old m is node h replica page c.in_ok-page.page.items
    c.in_ok-page.ensures))
