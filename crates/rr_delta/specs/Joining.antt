-- A replica that has joined cells.
use Rattle.std.specs.Prelude.{◌≡◌, List, [], ◌∷◌, ◌++◌, map, refl}
use Rattle.std.proofs.Common.{◌∙◌, ap, sym}
use Rattle.std.proofs.lemmas.List.{map-append}
use Rattle.rr_cells.specs.CellBounds.{NamedCell}
use Rattle.rr_cells.specs.ReplicaState.{ReplicaState}
use Rattle.rr_cells.specs.Joining.{with_cells, with_named}
use Rattle.rr_cells.specs.Joins.{join_cells}
use Rattle.rr_cells.specs.Operations.{to_cell}
use Rattle.rr_cells.proofs.JoiningLemmas.{with_cells-append}

-- it has joined these, in order, and is otherwise as before
abbrev pub HasJoined : ReplicaState → ReplicaState → List NamedCell → Type 0
HasJoined old new es = new ≡ with_cells old (map to_cell es)

-- ---- proofs, which the laws of a target ask for

pub then_joined : (a b c : ReplicaState) (es fs : List NamedCell) → HasJoined a b es → HasJoined b c fs
    → HasJoined a c (es ++ fs)
then_joined a b c es fs first next =
    next ∙ ap (λ (h : ReplicaState). with_cells h (map to_cell fs)) first
    ∙ sym (ap (with_cells a) (map-append to_cell es fs) ∙ with_cells-append a (map to_cell es) (map to_cell fs))

joined : (h : ReplicaState) (es : List NamedCell)
    → ((with_cells h (map to_cell es)).schema ≡ h.schema)
    × ((with_cells h (map to_cell es)).cells ≡ join_cells h.schema h.cells es)
joined h [] = (refl, refl)
joined h (e ∷ es) = joined (with_named h e) es

pub map_joined : (old new : ReplicaState) (es : List NamedCell) → HasJoined old new es
    → (new.schema ≡ old.schema) × (new.cells ≡ join_cells old.schema old.cells es)
map_joined old new es is =
    let both = joined old es in
    (ap (λ (h : ReplicaState). h.schema) is ∙ both.0, ap (λ (h : ReplicaState). h.cells) is ∙ both.1)
