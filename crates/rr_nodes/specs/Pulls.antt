-- What a whole pull brings: many cells of one moment, taken one after the other.
use Rattle.std.specs.Prelude.{◌≡◌, ◌≢◌, ℕ, List, ◌++◌, map, fold, Some}
use Rattle.std.specs.Option.{option_map}
use Rattle.std.specs.FinMap.{get, insert}
use Rattle.rr_schema.specs.Schema.{Layout, IsLayout}
use Rattle.rr_cells.specs.CellNames.{CellName}
use Rattle.rr_cells.specs.Knowledge.{Knowledge, union, live, difference}
use Rattle.rr_nodes.specs.Nodes.{Node, Nodes, Model, Moment, Deed, took, held_at, after, after_all, taken}
use Rattle.rr_nodes.specs.Models.{sample_model}

-- the deeds that take these cells, in order
abbrev pub takes : ℕ → Moment → List CellName → List Deed
takes origin there names = map (λ name. took origin there name) names

-- taking cells of what another node held at one moment, one by one, changes the taking node alone, which takes each
abbrev pub TakesAreInOrder : {K : Type 0} → Model K → Type 0
TakesAreInOrder {K} model =
    (s : Layout) (ns : Nodes K) (origin : ℕ) (there : Moment) (names : List CellName) (n : Node K) (k : K)
    → there.origin ≢ origin
    → get ns origin ≡ Some n → held_at ns there ≡ Some k
    → fold (after model s) ns (takes origin there names)
    ≡ insert ns origin (fold (λ o name. taken model s origin o k name) n names)

-- whatever was done, once a node has taken all cells that another held at one moment and that it lacked, it has the
-- live marks of what either knew
abbrev pub PullsBringAll : Type 0
PullsBringAll =
    (s : Layout) (deeds : List Deed) (origin : ℕ) (there : Moment) (n : Node Knowledge) (k : Knowledge) → IsLayout s
    → there.origin ≢ origin
    → get (after_all sample_model s deeds) origin ≡ Some n → held_at (after_all sample_model s deeds) there ≡ Some k
    → option_map (live s) (held_at (after_all sample_model s (deeds ++ takes origin there (difference s k n.now)))
    (record { origin = origin; ago = 0 }))
    ≡ Some (live s (union n.now k))
