use Rattle.std.proofs.Common.{rules, ◌≡◌, ◌∙◌}
use Rattle.rr_replica.specs.InMemory.{seen_archive}
use Rattle.rr_replica.proofs.Each.{found_at, map-set_same, length-set}
use Rattle.rr_replica.proofs.shared_rows.share_archives.Goals as goal

pub loop-i-preserved : goal.loop-i-preserved
loop-i-preserved g c =
    let items = c.loop-i.archives.items in
    let was = c.index_mut.result.now in
    let now = c.share_rows.new.self in
    let at = found_at items c.loop-i.i was (search rules) c.index_mut.ensures.value in
    let same : seen_archive g.A.Cells.cells g.A.Cells.row_limit now
    ≡ seen_archive g.A.Cells.cells g.A.Cells.row_limit was
    = λ j. (c.share_rows.ensures.cells j, c.share_rows.ensures.limit j) in (
      length-set items c.loop-i.i now ∙ c.loop-i.invariant.0,
      map-set_same (seen_archive g.A.Cells.cells g.A.Cells.row_limit) items c.loop-i.i was now at same
          ∙ c.loop-i.invariant.1,
    )
