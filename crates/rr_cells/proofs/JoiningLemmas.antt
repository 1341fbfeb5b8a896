-- Cells joined one after the other.
use Rattle.std.specs.Prelude.{◌≡◌, List, [], ◌∷◌, ◌++◌, take, drop}
use Rattle.std.proofs.Common.{refl, sym, ap, ◌∙◌}
use Rattle.std.proofs.lemmas.List.{take-append-drop}
use Rattle.rr_cells.specs.declared.cell.Cell.{Cell}
use Rattle.rr_cells.specs.ReplicaState.{ReplicaState}
use Rattle.rr_cells.specs.Joining.{with_cell, with_cells}
use Rattle.rr_cells.specs.Laws.{JoiningGoesOn}

pub with_cells-append : (h : ReplicaState) (cs ds : List Cell)
    → with_cells h (cs ++ ds) ≡ with_cells (with_cells h cs) ds
with_cells-append h [] ds = refl
with_cells-append h (c ∷ cs) ds = with_cells-append (with_cell h c) cs ds

pub joining_goes_on : JoiningGoesOn
joining_goes_on h cells n = sym (with_cells-append h (take n cells) (drop n cells))
    ∙ ap (with_cells h) (take-append-drop n cells)
