-- Cells as bytes.
use Rattle.std.specs.Prelude.{ℕ, List, [], ◌∷◌, ◌++◌, length}
use Rattle.rr_codec.specs.Fields.{SlotEntry, fields_of}
use Rattle.rr_codec.specs.Numbers.{number_text}
use Rattle.rr_codec.specs.Recent.{KnownState, known_after, known_steps, nothing_known}
use Rattle.rr_codec.specs.Steps.{steps_text}

-- what is known after a cell
abbrev pub next_known : KnownState → SlotEntry → KnownState
next_known k e = known_after k (fields_of e)

abbrev pub cell_text : KnownState → SlotEntry → List ℕ
cell_text k e = steps_text (known_steps k (fields_of e))

abbrev pub cells_text : KnownState → List SlotEntry → List ℕ
cells_text k [] = []
cells_text k (e ∷ es) = cell_text k e ++ cells_text (next_known k e) es

-- how many cells there are, the nanoseconds of a row, and the cells
abbrev pub packed_text : ℕ → List SlotEntry → List ℕ
packed_text span es = number_text (length es) ++ (number_text span ++ cells_text (nothing_known span) es)
