-- How a sample that is put changes the cells of a replica.
use Rattle.std.specs.Prelude.{List, [], ◌∷◌}
use Rattle.std.specs.FinMap.{get, insert}
use Rattle.rr_schema.specs.Schema.{Layout, place_of}
use Rattle.rr_join.specs.Maps.{trimmed}
use Rattle.rr_contrib.specs.Contributions.{SlotSample, slot_sample, contribution_with}
use Rattle.rr_cells.specs.CellNames.{is_live}
use Rattle.rr_cells.specs.Samples.{Sample, Mark, name_of, marks_of}
use Rattle.rr_cells.specs.Cells.{Cells}

-- a sample, as the slot of an archive sees it
abbrev pub slot_sample_of : Layout → Mark → SlotSample
slot_sample_of s m = slot_sample m.number (place_of s m.archive m.time) m.time m.value

-- with one more sample in its cell of one archive, and then only the live cells: a sample that is past the horizon
-- there leaves no trace
unfoldable pub put_mark : Layout → Cells → Mark → Cells
put_mark s cells m = trimmed (is_live s) (insert cells (name_of s m)
    (contribution_with (get cells (name_of s m)) (slot_sample_of s m)))

-- the same for each of these marks, in order
abbrev pub put_marks : Layout → Cells → List Mark → Cells
put_marks s cells [] = cells
put_marks s cells (m ∷ ms) = put_marks s (put_mark s cells m) ms

-- the cells with one more sample
abbrev pub put_sample : Layout → Cells → Sample → Cells
put_sample s cells x = put_marks s cells (marks_of s x)
