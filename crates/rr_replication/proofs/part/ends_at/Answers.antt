use Rattle.std.proofs.Common.{get_or}
use Rattle.rr_replication.specs.Part.{ends_at}
use Rattle.rr_replication.proofs.PartLemmas.{one_more_ended, still_behind}
use Rattle.rr_replication.proofs.part.ends_at.Goals as goal

pub loop-file-preserved : goal.loop-file-preserved
loop-file-preserved c =
    let files = c.args.files.now in
    let from = c.args.from in
    let i = c.loop-file.file-index in
    record {
      end = one_more_ended files i c.loop-file.until c.sooner-until.result from (ends_at files c.args.end from)
          c.loop-file-test.true c.sooner-until.ensures c.loop-file.invariant.end;
      behind = still_behind c.loop-file.until (get_or files i 0) c.sooner-until.result from c.sooner-until.ensures
          c.loop-file.invariant.behind;
    }
