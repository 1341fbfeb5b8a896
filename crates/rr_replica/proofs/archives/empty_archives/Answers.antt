use Rattle.std.proofs.Common.{rules, ◌≡◌, ◌<◌, ◌++◌, ◌∷◌, [], length, map, ap, sym, ◌∙◌, subst, get_or}
use Rattle.std.specs.FinMap as fin
use Rattle.rr_schema.specs.declared.archive.ArchiveSpec.{ArchiveSpec}
use Rattle.rr_replica.specs.Archives.{Each}
use Rattle.rr_replica.proofs.Each.{each_more, map_more, take_more}
use Rattle.rr_replica.proofs.archives.empty_archives.Goals as goal

pub loop-archive-preserved : goal.loop-archive-preserved
loop-archive-preserved g c =
    let old = c.loop-archive.archives.items in
    let specs = c.args.schema.now.archives in
    let items : c.push.new.self.items ≡ old ++ c.new.result ∷ [] = search rules in
    let empty : g.A.Cells.cells c.new.result ≡ fin.empty = search rules in
    let within : c.loop-archive.archive-index < length specs = search rules in
    let none : ArchiveSpec = record { steps = 0; rows = 0; num = 0; den = 0 } in
    let limit : g.A.Cells.row_limit c.new.result ≡ (get_or specs c.loop-archive.archive-index none).rows =
    c.new.ensures.limit ∙ ap (λ l. (get_or l c.loop-archive.archive-index none).rows)
    c.archives-archive-items.ensures.value in (
      ap (map g.A.Cells.row_limit) items ∙ map_more g.A.Cells.row_limit old c.new.result
          ∙ (λ i. c.loop-archive.invariant.0 i ++ limit i ∷ [])
          ∙ sym (take_more (λ (a : ArchiveSpec). a.rows) specs c.loop-archive.archive-index none within),
      subst (Each (λ _ a. g.A.Cells.cells a ≡ fin.empty)) (sym items)
          (each_more (λ a. g.A.Cells.cells a ≡ fin.empty) old c.new.result c.loop-archive.invariant.1 empty),
    )
