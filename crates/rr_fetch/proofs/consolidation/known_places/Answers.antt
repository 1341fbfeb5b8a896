use Rattle.rr_fetch.proofs.MoreEntries.{united_more}
use Rattle.rr_fetch.proofs.consolidation.known_places.Goals as goal

pub loop-entry-preserved : goal.loop-entry-preserved
loop-entry-preserved c =
    let more = united_more c.args.row.now c.loop-entry.entry-index c.entry-item.result c.loop-entry-test.true in cc
