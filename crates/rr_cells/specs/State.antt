-- The cells that a knowledge makes: at each name, what its live marks contribute together.
use Rattle.std.specs.Prelude.{◌≡◌, List, map, Option}
use Rattle.std.specs.FinMap.{keys}
use Rattle.rr_schema.specs.Schema.{Layout, IsLayout}
use Rattle.rr_join.specs.Maps.{map_of}
use Rattle.rr_contrib.specs.declared.contribution.Contribution.{Contribution}
use Rattle.rr_contrib.specs.Samples.{contribution_of}
use Rattle.rr_cells.specs.Samples.{Sample, Mark, marks_of}
use Rattle.rr_cells.specs.Knowledge.{Knowledge, IsAheadOf, with_marks, names, cell}
use Rattle.rr_cells.specs.Cells.{Cells}
use Rattle.rr_cells.specs.Puts.{slot_sample_of, put_sample}

-- what some marks contribute
abbrev pub value_of : Layout → List Mark → Option Contribution
value_of s ms = contribution_of (map (slot_sample_of s) ms)

-- at each name the contribution of its cell
unfoldable pub cells_of_knowledge : Layout → Knowledge → Cells
cells_of_knowledge s k = map_of (names s k) (λ n. value_of s (keys (cell s k n)))

-- putting a sample that is ahead of what is known gives the cells of what is known with it
abbrev pub PutIsOneSampleMore : Type 0
PutIsOneSampleMore =
    (s : Layout) (k : Knowledge) (x : Sample) → IsLayout s → IsAheadOf x k
    → put_sample s (cells_of_knowledge s k) x ≡ cells_of_knowledge s (with_marks k (marks_of s x))
