use Rattle.std.proofs.Common.{◌≡◌, sym, ap, ◌∙◌}
use Rattle.std.specs.FinMap.{empty}
use Rattle.rr_cells.specs.Cells.{Cells}
use Rattle.rr_cells.specs.Joins.{join, join_cells}
use Rattle.rr_cells.proofs.CellByCell.{trimmed_none}
use Rattle.rr_cells.proofs.JoinLaws.{join_associates, join_itself}
use Rattle.rr_recovery.proofs.LawLemmas.{joined_is_trimmed, joined_whole}
use Rattle.rr_replication.proofs.laws.what_is_joined_is_held.Goals as goal

pub returns : goal.returns
returns c = λ s m es layout kept.
    let alone : Cells = join_cells s empty es in
    let trimmed = joined_is_trimmed s layout empty es (trimmed_none s) in
    let whole : join_cells s m es ≡ join s m alone = joined_whole s layout m es kept in
    ap (λ (n : Cells). join s n alone) whole ∙ join_associates s m alone alone layout
    ∙ ap (join s m) (join_itself s alone layout trimmed) ∙ sym whole
