use Rattle.std.proofs.Common.{sym, ◌∙◌, rules}
use Rattle.rr_codec.proofs.LoopLemmas.{rest_goes_on, rest_ends, rest_is}
use Rattle.rr_codec.proofs.decoding.skip.Goals as goal

pub returns-in-Err : goal.returns-in-Err
returns-in-Err c = record {
  read = sym c.loop.invariant
      ∙ rest_ends c.loop.known c.args.count c.loop.counter c.loop.rest.now c.in-Err.fault c.loop-test.true
      c.in-Err.ensures.read.read;
  no_memory = search (rules, c.in-Err.ensures.read.no_memory);
}

pub loop-preserved : goal.loop-preserved
loop-preserved c =
    rest_goes_on c.loop.known c.cell_at.new.known _ c.args.count c.loop.counter c.loop.rest.now c.in-Ok.after.now
    c.loop-test.true c.in-Ok.ensures.read.read ∙ c.loop.invariant

pub returns : goal.returns
returns c = record {
  read = sym c.loop.invariant ∙ rest_is c.loop.known c.args.count c.loop.counter c.loop.rest.now c.loop-test.false;
  no_memory = search rules;
}
