use Rattle.std.proofs.Common.{◌≡◌, Some, int_cmp, rules}
use Rattle.std.specs.Ordering.{flip_args}
use Rattle.rr_join.specs.Maps.{greater}
use Rattle.rr_fetch.proofs.MoreEntries.{least_more}
use Rattle.rr_fetch.proofs.consolidation.least.Goals as goal

pub loop-entry-preserved : goal.loop-entry-preserved
loop-entry-preserved c =
    let step : c.lesser-least.result ≡ greater (flip_args int_cmp) c.loop-entry.least
    (Some c.entry-item.result.contribution.min) = search rules in
    let more = least_more c.args.row.now c.loop-entry.entry-index c.entry-item.result c.loop-entry-test.true in
    cc
