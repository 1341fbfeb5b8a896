use Rattle.std.proofs.Common.{rules}
use Rattle.rr_replica.proofs.CopyingLemmas.{set_seen}
use Rattle.rr_replica.proofs.shared_rows.share_at.Goals as goal

pub returns : goal.returns
returns g c = record {
  keys = search rules;
  archives = set_seen g.A.Cells.cells g.A.Cells.row_limit c.args.series.now c.args.index c.index_mut.result.now
      c.share_archives.new.archives (search rules) c.index_mut.ensures.value c.share_archives.ensures;
}
