-- The laws of differences, each the contract of a function of `src/laws.rt`.
use Rattle.std.specs.Prelude.{◌≡◌, ℕ, map, take, drop, Some}
use Rattle.std.specs.FinMap.{get, entries}
use Rattle.rr_schema.specs.Schema.{Layout, IsLayout}
use Rattle.rr_contrib.specs.declared.contribution.Contribution.{Contribution}
use Rattle.rr_cells.specs.CellNames.{CellName}
use Rattle.rr_cells.specs.Knowledge.{Knowledge, cells_named, difference, union}
use Rattle.rr_cells.specs.World.{World, IsClosed}
use Rattle.rr_cells.specs.Cells.{Cells, IsTrimmed}
use Rattle.rr_cells.specs.Joins.{join, join_cells}
use Rattle.rr_cells.specs.State.{cells_of_knowledge}
use Rattle.rr_cells.specs.Versions.{newer_names}
use Rattle.rr_delta.specs.Names.{versions_of}
use Rattle.rr_delta.specs.Difference.{newer_cells}

-- the difference against the versions of a whole map has the names that the map lacks or has with a smaller version
abbrev pub DifferenceIsByVersions : Type 0
DifferenceIsByVersions = (m n : Cells) → map (λ e. e.0) (newer_cells (versions_of n) (entries m)) ≡ newer_names m n

-- so for closed knowledges it has the names of what one has and the other lacks
abbrev pub DifferenceIsOfKnowledges : Type 0
DifferenceIsOfKnowledges =
    (s : Layout) (w : World) (k l : Knowledge) → IsLayout s → IsClosed s w k → IsClosed s w l
    → map (λ e. e.0) (newer_cells (versions_of (cells_of_knowledge s l)) (entries (cells_of_knowledge s k)))
    ≡ difference s k l

-- equal versions at one name mean equal contents
abbrev pub AgreeAtVersions : Cells → Cells → Type 0
AgreeAtVersions m n = (q : CellName) (a b : Contribution) → get m q ≡ Some a → get n q ≡ Some b → a.version ≡ b.version
    → a ≡ b

-- if so, joining the difference is the same as joining the whole map
abbrev pub DifferenceBringsTheJoin : Type 0
DifferenceBringsTheJoin =
    (s : Layout) (m n : Cells) → IsLayout s → IsTrimmed s n → AgreeAtVersions m n
    → join_cells s n (newer_cells (versions_of n) (entries m)) ≡ join s n m

-- in two closed knowledges equal versions of one cell mean equal contents
abbrev pub KnowledgesAgree : Type 0
KnowledgesAgree =
    (s : Layout) (w : World) (k l : Knowledge) → IsLayout s → IsClosed s w k → IsClosed s w l
    → AgreeAtVersions (cells_of_knowledge s k) (cells_of_knowledge s l)

-- so joining the difference of the two gives the cells of their union
abbrev pub DifferenceUnites : Type 0
DifferenceUnites =
    (s : Layout) (w : World) (k l : Knowledge) → IsLayout s → IsClosed s w k → IsClosed s w l
    → join_cells s (cells_of_knowledge s l) (newer_cells (versions_of (cells_of_knowledge s l))
    (entries (cells_of_knowledge s k))) ≡ cells_of_knowledge s (union l k)

-- the cells of a part of the difference of closed knowledges are those from an offset on, at most a count of them
abbrev pub DifferencesAreCutFromEntries : Type 0
DifferencesAreCutFromEntries =
    (s : Layout) (w : World) (k l : Knowledge) (from count : ℕ) → IsLayout s → IsClosed s w k → IsClosed s w l
    → entries (cells_of_knowledge s (cells_named s k (take count (drop from (difference s k l)))))
    ≡ take count (drop from (newer_cells (versions_of (cells_of_knowledge s l)) (entries (cells_of_knowledge s k))))
