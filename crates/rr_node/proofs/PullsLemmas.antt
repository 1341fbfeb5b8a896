-- What a pull leaves as it was.
use Rattle.std.proofs.Common.{◌≡◌, List, [], ◌∷◌, map, refl, ap, ◌∙◌}
use Rattle.rr_cells.specs.declared.cell.Cell.{Cell}
use Rattle.rr_cells.specs.declared.op.Op.TheVariants.{Join}
use Rattle.rr_cells.specs.CellBounds.{NamedCell}
use Rattle.rr_cells.specs.Operations.{to_cell}
use Rattle.rr_desk.specs.ReaderState.{HasJoined, with_joined}
use Rattle.rr_desk.specs.KeeperState.{KeeperState, with_pending}

joined_desk : (cells : List Cell) (k : KeeperState) → (with_joined k cells).desk ≡ k.desk
joined_desk [] k = refl
joined_desk (c ∷ cells) k = joined_desk cells (with_pending k (Join c))

-- a keeper that has joined cells is at its desk
pub desk_of_joined : (old new : KeeperState) (cells : List NamedCell) → HasJoined old new cells → new.desk ≡ old.desk
desk_of_joined old new cells joined = ap (λ (k : KeeperState). k.desk) joined ∙ joined_desk (map to_cell cells) old
