-- Each entry's key is stored after those before it.
use Rattle.std.proofs.Common.{◌∙◌, arith}
use Rattle.std.proofs.lemmas.List.{length-set}
use Rattle.rr_line.proofs.SortedLemmas.{one_key_more}
use Rattle.rr_line.proofs.repeat.has_repeat_among_many.Goals as goal

pub loop-entry-preserved : goal.loop-entry-preserved
loop-entry-preserved g c = record {
  long = length-set c.loop-entry.keys c.loop-entry.count c.key.result ∙ c.loop-entry.invariant.long;
  counted = omega (arith, c.loop-entry.invariant.counted);
  prefix = one_key_more g.T.Keyed.key_of c.loop-entry.keys c.args.entries.now c.loop-entry.count
      c.loop-entry.entry-index
      c.entry-item.result c.key.result c.loop-entry.invariant.long c.requires c.loop-entry.invariant.counted
      c.loop-entry-test.true c.entry-item.is c.key.ensures c.loop-entry.invariant.prefix;
}
