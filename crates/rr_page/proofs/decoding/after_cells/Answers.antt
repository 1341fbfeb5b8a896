use Rattle.std.proofs.Common.{rules, arith, ℕ, ◌-◌, ◌≡◌, ◌++◌, ◌∷◌, [], ◌∙◌, sym, ap, refl, None, true, false}
use Rattle.rr_page.specs.Found.{found_cell}
use Rattle.rr_page.specs.PageReading.{is_after, last_name, cells_at}
use Rattle.rr_page.proofs.LoopLemmas.{with_nothing, goes_on, ends, falls, is_done, last_name_push}
use Rattle.rr_page.proofs.decoding.after_cells.Goals as goal

pub loop-init : goal.loop-init
loop-init c =
    let read = λ (n : ℕ). cells_at c.args.version c.args.schema.now None n c.args.bytes.now in
    let all : c.args.count - 0 ≡ c.args.count = omega arith in
    ([], refl, with_nothing (read (c.args.count - 0)) ∙ ap read all)

pub returns-in-Err-clause-checks : goal.returns-in-Err-clause-checks
returns-in-Err-clause-checks c = record {
  refused =
      let so_far = c.loop.invariant in
      ends c.args.version c.args.schema.now so_far.0 c.args.count c.loop.counter c.loop.rest.now
      (cells_at c.args.version c.args.schema.now None c.args.count c.args.bytes.now) so_far.2 c.in-Err.fault
      c.loop-test.true c.in-Err.ensures.found.read;
  no_memory = search rules;
}

pub returns-then-not-may_follow-clause-checks : goal.returns-then-not-may_follow-clause-checks
returns-then-not-may_follow-clause-checks c = record {
  refused =
      let so_far = c.loop.invariant in
      let e = found_cell c.in-Ok.found.0 in
      let falling : is_after (last_name so_far.0) e.0 ≡ false = ap (λ o. is_after o e.0) (sym so_far.1)
      ∙ sym c.may_follow.ensures ∙ c.if-not-may_follow.true in
      falls c.args.version c.args.schema.now so_far.0 c.args.count c.loop.counter c.loop.rest.now
      (cells_at c.args.version c.args.schema.now None c.args.count c.args.bytes.now) so_far.2 e c.in-Ok.found.1.now
      c.loop-test.true c.in-Ok.ensures.found.read falling;
  no_memory = search rules;
}

pub loop-preserved : goal.loop-preserved
loop-preserved c =
    let so_far = c.loop.invariant in
    let e = found_cell c.in-Ok.found.0 in
    let rising : is_after (last_name so_far.0) e.0 ≡ true = ap (λ o. is_after o e.0) (sym so_far.1)
    ∙ sym c.may_follow.ensures ∙ c.if-not-may_follow.false in (
      so_far.0 ++ e ∷ [],
      sym (last_name_push so_far.0 e),
      goes_on c.args.version c.args.schema.now so_far.0 c.args.count c.loop.counter c.loop.rest.now
          (cells_at c.args.version c.args.schema.now None c.args.count c.args.bytes.now) so_far.2 e c.in-Ok.found.1.now
          c.loop-test.true c.in-Ok.ensures.found.read rising,
    )

pub returns-clause-read : goal.returns-clause-read
returns-clause-read c =
    let so_far = c.loop.invariant in (
      so_far.0,
      is_done c.args.version c.args.schema.now so_far.0 c.args.count c.loop.counter c.loop.rest.now
          (cells_at c.args.version c.args.schema.now None c.args.count c.args.bytes.now) so_far.2 c.loop-test.false,
    )
