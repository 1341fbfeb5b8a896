-- Proofs that a keeper which joins cells does what a target does: the laws of the trait ask for them.
use Rattle.std.specs.Prelude.{◌≡◌, List, [], ◌∷◌, ◌++◌, map, refl}
use Rattle.std.proofs.Common.{◌∙◌, ap, append_assoc, sym}
use Rattle.std.proofs.lemmas.List.{map-append}
use Rattle.std.proofs.lemmas.List.Sums.{fold-append}
use Rattle.rr_cells.specs.CellBounds.{NamedCell}
use Rattle.rr_cells.specs.Cells.{Cells}
use Rattle.rr_cells.specs.declared.op.Op.TheVariants.{Join}
use Rattle.rr_cells.specs.Joins.{join_cell, join_cells}
use Rattle.rr_cells.specs.Operations.{outcome_of, to_cell}
use Rattle.rr_cells.proofs.OperationsLemmas.{outcome_of-more}
use Rattle.rr_desk.specs.KeeperState.{KeeperState, cells_of, with_pending}
use Rattle.rr_desk.specs.ReaderState.{HasJoined, with_joined}

pub then_joined : (a b c : KeeperState) (es fs : List NamedCell) → HasJoined a b es → HasJoined b c fs
    → HasJoined a c (es ++ fs)
then_joined a b c es fs first next =
    next ∙ ap (λ (k : KeeperState). with_joined k (map to_cell fs)) first
    ∙ sym (ap (with_joined a) (map-append to_cell es fs)
    ∙ fold-append (λ k c. with_pending k (Join c)) a (map to_cell es) (map to_cell fs))

one_joined : (k : KeeperState) (e : NamedCell) → cells_of (with_pending k (Join (to_cell e)))
    ≡ join_cell k.schema (cells_of k) e.0 e.1
one_joined k e =
    ap (outcome_of k.schema) (sym (append_assoc k.published k.pending (Join (to_cell e) ∷ [])))
    ∙ outcome_of-more k.schema (k.published ++ k.pending) (Join (to_cell e))

joined : (k : KeeperState) (es : List NamedCell)
    → ((with_joined k (map to_cell es)).schema ≡ k.schema)
    × (cells_of (with_joined k (map to_cell es)) ≡ join_cells k.schema (cells_of k) es)
joined k [] = (refl, refl)
joined k (e ∷ es) =
    let rest = joined (with_pending k (Join (to_cell e))) es in
    (rest.0, rest.1 ∙ ap (λ (m : Cells). join_cells k.schema m es) (one_joined k e))

pub map_joined : (old new : KeeperState) (es : List NamedCell) → HasJoined old new es
    → (new.schema ≡ old.schema) × (cells_of new ≡ join_cells old.schema (cells_of old) es)
map_joined old new es is =
    let both = joined old es in
    (ap (λ (k : KeeperState). k.schema) is ∙ both.0, ap (λ (k : KeeperState). cells_of k) is ∙ both.1)
