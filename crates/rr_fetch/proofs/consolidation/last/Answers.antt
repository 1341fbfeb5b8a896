use Rattle.std.proofs.Common.{◌≡◌, Some, rules}
use Rattle.rr_join.specs.Maps.{greater}
use Rattle.rr_fetch.specs.Consolidation.{last_cmp}
use Rattle.rr_fetch.proofs.MoreEntries.{last_more}
use Rattle.rr_fetch.proofs.consolidation.last.Goals as goal

pub loop-entry-preserved : goal.loop-entry-preserved
loop-entry-preserved c =
    let step : c.later-last.result ≡ greater last_cmp c.loop-entry.last (Some c.entry-item.result) = search rules in
    let more = last_more c.args.row.now c.loop-entry.entry-index c.entry-item.result c.loop-entry-test.true in
    cc
