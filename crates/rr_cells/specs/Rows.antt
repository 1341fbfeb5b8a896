-- The value that a consolidation function gives for the samples of a row.
use Rattle.std.specs.Prelude.{ℕ, ℤ, pos, Bool, ◌&&◌, List, map, length, Option, Some, None, ◌==◌, if◌then◌else◌}
use Rattle.std.specs.List.{filter, list_any, range_with_len}
use Rattle.std.specs.Option.{option_map}
use Rattle.std.specs.Int.{int_div_euclid}
use Rattle.std.specs.Ordering.{int_cmp, int_eq, flip_args}
use Rattle.std.specs.FinMap.{keys}
use Rattle.rr_schema.specs.declared.consolidation.ConsolidationFunction.{ConsolidationFunction}
use Rattle.rr_schema.specs.declared.consolidation.ConsolidationFunction.TheVariants.{Average, Min, Max, Last}
use Rattle.rr_schema.specs.Schema.{Layout, archive_at, place_of, is_known_enough}
use Rattle.rr_join.specs.Maps.{greatest}
use Rattle.rr_join.specs.Sums.{int_sum}
use Rattle.rr_cells.specs.CellNames.{CellName, is_of}
use Rattle.rr_cells.specs.Samples.{Mark, mark_cmp, name_of}
use Rattle.rr_cells.specs.Knowledge.{Knowledge, live}

-- floor(total / count), or none if the count is 0
abbrev pub average : ℤ → ℕ → Option ℤ
average total count = if count == 0 then None else Some (int_div_euclid total (pos count))

-- the last mark by time, and at one time by origin and number
abbrev pub last_of : List Mark → Option Mark
last_of ms = greatest mark_cmp ms

-- what the function gives for the values of these marks
abbrev pub of_marks : ConsolidationFunction → List Mark → Option ℤ
of_marks Average ms = average (int_sum (map (λ m. m.value) ms)) (length ms)
of_marks Min ms = greatest (flip_args int_cmp) (map (λ m. m.value) ms)
of_marks Max ms = greatest int_cmp (map (λ m. m.value) ms)
of_marks Last ms = option_map (λ m. m.value) (last_of ms)

-- how many of the places of a slot pass a test
abbrev pub places_where : (ℕ → Bool) → ℕ → ℕ
places_where test steps = length (filter test (range_with_len 0 steps))

-- whether the cell belongs to this slot of this archive of this key
abbrev pub is_at : List ℕ → ℕ → ℤ → CellName → Bool
is_at key archive slot n = is_of key archive n && int_eq n.slot slot

-- the live marks of all origins in a slot
unfoldable pub marks_of_row : Layout → Knowledge → List ℕ → ℕ → ℤ → List Mark
marks_of_row s k key archive slot = filter (λ m. is_at key archive slot (name_of s m)) (keys (live s k))

-- how many places of a slot have one of these marks
abbrev pub known_places : Layout → ℕ → List Mark → ℕ
known_places s archive ms = places_where (λ p. list_any (λ m. place_of s m.archive m.time == p) ms)
    (archive_at s archive).steps

-- the row of a slot; None if it is unknown
unfoldable pub row : Layout → Knowledge → List ℕ → ℕ → ℤ → ConsolidationFunction → Option ℤ
row s k key archive slot f =
    let ms = marks_of_row s k key archive slot in
    if is_known_enough s archive (known_places s archive ms) then of_marks f ms else None
