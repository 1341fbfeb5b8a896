use Rattle.std.proofs.Common.{sym, ◌∙◌, rules}
use Rattle.rr_codec.proofs.CheckLemmas.{goes_on, ends, rest_is}
use Rattle.rr_codec.proofs.checking.skip_checked.Goals as goal

pub returns-in-Err : goal.returns-in-Err
returns-in-Err c = record {
  read = sym c.loop.invariant
      ∙ ends c.args.schema.now c.args.archive c.loop.before c.loop.known c.args.count c.loop.counter c.loop.rest.now
      c.in-Err.fault c.loop-test.true c.in-Err.ensures.read;
  no_memory = search (rules, c.in-Err.ensures.no_memory);
}

pub loop-preserved : goal.loop-preserved
loop-preserved c =
    goes_on c.args.schema.now c.args.archive c.loop.before c.loop.known c.checked_at.new.known c.in-Ok.cell c.args.count
    c.loop.counter c.loop.rest.now c.in-Ok.after.now c.loop-test.true c.in-Ok.ensures.read ∙ c.loop.invariant

pub returns : goal.returns
returns c = record {
  read = sym c.loop.invariant
      ∙ rest_is c.args.schema.now c.args.archive c.loop.before c.loop.known c.args.count c.loop.counter c.loop.rest.now
      c.loop-test.false;
  no_memory = search rules;
}
