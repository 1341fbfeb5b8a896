use Rattle.std.proofs.Common.{None, Some, sym}
use Rattle.std.proofs.lemmas.Result.{err_from_is_err_and}
use Rattle.rr_cluster.specs.Meaning.{node_in}
use Rattle.rr_cluster.specs.Model.{cell_model, newer_part_of}
use Rattle.rr_cluster.proofs.CommandsLemmas.Delta.{bad_name, no_giver, no_taker, bad_number, delta_is_made}
use Rattle.rr_cluster.proofs.CommandsLemmas.Page.{page_of_node}
use Rattle.rr_cluster.proofs.MeaningLemmas.{node_at}
use Rattle.rr_cluster.proofs.commands.delta.add_delta.Goals as goal

pub returns-then-not-is_name : goal.returns-then-not-is_name
returns-then-not-is_name g c = λ m is. (
  bad_name cell_model m c.args.name.now c.args.giver.now c.args.taker.now c.args.from.now c.args.count.now
      (sym c.if-not-is_name.ensures),
  is,
)

pub returns-in_default : goal.returns-in_default
returns-in_default g c = λ m is.
    let none = node_at c.args.cluster.now m is c.args.giver.now None (sym c.in_default.ensures.value) in (
      no_giver cell_model m c.args.name.now c.args.giver.now c.args.taker.now c.args.from.now c.args.count.now
          (sym c.if-not-is_name.ensures) none,
      is,
    )

pub returns-in_default-get : goal.returns-in_default-get
returns-in_default-get g c = λ m is.
    let giver = c.in-Some.giver.now in
    let here = node_at c.args.cluster.now m is c.args.giver.now (Some giver) (sym c.in-Some.ensures.value) in
    let none = node_at c.args.cluster.now m is c.args.taker.now None (sym c.in_default-get.ensures.value) in (
      no_taker cell_model m c.args.name.now c.args.giver.now c.args.taker.now c.args.from.now c.args.count.now
          (sym c.if-not-is_name.ensures) (node_in giver) here none,
      is,
    )

pub returns-in_err-from : goal.returns-in_err-from
returns-in_err-from g c = λ m is.
    let giver = c.in-Some.giver.now in
    let taker = c.in-Some-get.taker.now in
    let here = node_at c.args.cluster.now m is c.args.giver.now (Some giver) (sym c.in-Some.ensures.value) in
    let there = node_at c.args.cluster.now m is c.args.taker.now (Some taker) (sym c.in-Some-get.ensures.value) in
    let p = err_from_is_err_and c.from_residual.result c.from_residual.ensures.1 in
    rw (p.1, p.2) (
      bad_number cell_model m c.args.name.now c.args.giver.now c.args.taker.now c.args.from.now
          c.args.count.now (sym c.if-not-is_name.ensures) (node_in giver) here (node_in taker) there
          c.in_err-from.field-0.0 (sym c.in_err-from.ensures.value),
      is,
    )

pub returns : goal.returns
returns g c = λ m is.
    let old = c.args.cluster.now in
    let name = c.args.name.now in
    let giver = c.in-Some.giver.now in
    let taker = c.in-Some-get.taker.now in
    let replica = sym c.in-Some.ensures.value in
    let here = node_at old m is c.args.giver.now (Some giver) replica in
    let there = node_at old m is c.args.taker.now (Some taker) (sym c.in-Some-get.ensures.value) in
    let first = c.in_ok-from.from in
    let most = c.in_ok-from.count in
    let due = delta_is_made cell_model m name c.args.giver.now c.args.taker.now c.args.from.now c.args.count.now
    (sym c.if-not-is_name.ensures) (node_in giver) here (node_in taker) there first most
    (sym c.in_ok-from.ensures.value) in
    let page = newer_part_of giver.cells taker.cells first most in
    rw due (c.put_page.ensures m page is (page_of_node old m is c.args.giver.now giver replica page
    c.in_ok-page.page.items c.in_ok-page.ensures))
