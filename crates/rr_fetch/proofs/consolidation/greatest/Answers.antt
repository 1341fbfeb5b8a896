use Rattle.std.proofs.Common.{◌≡◌, Some, int_cmp, rules}
use Rattle.rr_join.specs.Maps.{greater}
use Rattle.rr_fetch.proofs.MoreEntries.{most_more}
use Rattle.rr_fetch.proofs.consolidation.greatest.Goals as goal

pub loop-entry-preserved : goal.loop-entry-preserved
loop-entry-preserved c =
    let step : c.greater-greatest.result ≡ greater int_cmp c.loop-entry.greatest
    (Some c.entry-item.result.contribution.max) = search rules in
    let more = most_more c.args.row.now c.loop-entry.entry-index c.entry-item.result c.loop-entry-test.true in
    cc
