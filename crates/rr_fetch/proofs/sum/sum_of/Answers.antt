use Rattle.std.proofs.Common.{◌≡◌, ◌+◌, ◌+ℤ◌, ap, rules, arith}
use Rattle.rr_archive.specs.declared.entry.Entry.{Entry}
use Rattle.rr_fetch.proofs.MoreEntries.{total_more, count_more}
use Rattle.rr_fetch.proofs.sum.sum_of.Goals as goal

pub loop-entry-preserved : goal.loop-entry-preserved
loop-entry-preserved c =
    let count : c.with-sum.result.count ≡ c.loop-entry.sum.count + c.entry-item.result.contribution.count =
    search rules in
    let total : c.with-sum.result.total ≡ c.loop-entry.sum.total +ℤ c.entry-item.result.contribution.sum =
    search rules in
    let more_count = count_more c.args.row.now c.loop-entry.entry-index c.entry-item.result c.loop-entry-test.true in
    let more_total = total_more c.args.row.now c.loop-entry.entry-index c.entry-item.result c.loop-entry-test.true in
    let each = c.requires.summable c.loop-entry.entry-index c.entry-item.result c.loop-entry-test.true in
    let is = ap (λ (e : Entry). e.contribution.count) c.entry-item.is in
    record {
      count = cc;
      total = cc;
      few = omega (arith, each.few);
      bounded = search rules;
    }
