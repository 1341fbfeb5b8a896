use Rattle.std.proofs.Common.{[], ◌∷◌, ◌++◌, sym, rules}
use Rattle.std.proofs.lemmas.Result.{err_from_is_err_and}
use Rattle.rr_journal.specs.Body.{group_at}
use Rattle.rr_journal.proofs.GroupLemmas.{begins, ends, goes_on, group_shorter, no_group, rest_found, rest_faulty}
use Rattle.rr_journal.proofs.grouping.check_groups.Goals as goal

pub returns-in_err-rest-clause-checks : goal.returns-in_err-rest-clause-checks
returns-in_err-rest-clause-checks c =
    let p = err_from_is_err_and c.from_residual.result c.from_residual.ensures.1 in
    let fault = c.in_err-rest.field-0.0 in
    rw (p.1, p.2) (record {
      refused = no_group c.args.schema.now c.args.bytes.now fault
          (rest_faulty (group_at c.args.schema.now c.args.bytes.now) fault c.in_err-rest.ensures.read);
      no_memory = search (rules, c.in_err-rest.ensures.no_memory);
    })

pub loop-rest-init : goal.loop-rest-init
loop-rest-init c =
    let e = rest_found (group_at c.args.schema.now c.args.bytes.now) c.in_ok-rest.rest.now c.in_ok-rest.ensures.read in
    (e.0 ∷ [], begins c.args.schema.now c.args.bytes.now e.0 c.in_ok-rest.rest.now e.1)

pub returns-in_err-rest-2-clause-checks : goal.returns-in_err-rest-2-clause-checks
returns-in_err-rest-2-clause-checks c =
    let p = err_from_is_err_and c.from_residual-in_err-rest-2.result c.from_residual-in_err-rest-2.ensures.1 in
    let fault = c.in_err-rest-2.field-0.0 in
    let so_far = c.loop-rest.invariant in
    rw (p.1, p.2) (record {
      refused = ends c.args.schema.now c.args.bytes.now so_far.0 c.loop-rest.rest.now so_far.1
          (sym c.loop-rest-test.ensures) fault
          (rest_faulty (group_at c.args.schema.now c.loop-rest.rest.now) fault c.in_err-rest-2.ensures.read);
      no_memory = search (rules, c.in_err-rest-2.ensures.no_memory);
    })

pub loop-rest-smaller : goal.loop-rest-smaller
loop-rest-smaller c =
    let e = rest_found (group_at c.args.schema.now c.loop-rest.rest.now) c.in_ok-rest-2.rest.now
    c.in_ok-rest-2.ensures.read in
    group_shorter c.args.schema.now c.loop-rest.rest.now (e.0, c.in_ok-rest-2.rest.now) e.1

pub loop-rest-preserved : goal.loop-rest-preserved
loop-rest-preserved c =
    let so_far = c.loop-rest.invariant in
    let e = rest_found (group_at c.args.schema.now c.loop-rest.rest.now) c.in_ok-rest-2.rest.now
    c.in_ok-rest-2.ensures.read in (
      so_far.0 ++ e.0 ∷ [],
      goes_on c.args.schema.now c.args.bytes.now so_far.0 c.loop-rest.rest.now so_far.1 (sym c.loop-rest-test.ensures)
          e.0 c.in_ok-rest-2.rest.now e.1,
    )
