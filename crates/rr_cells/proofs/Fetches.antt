-- Rows, and so answers, are of the live marks alone.
use Rattle.std.proofs.Common.{ℤ, List, Option, None, if◌then◌else◌}
use Rattle.std.specs.List.{filter}
use Rattle.std.specs.FinMap.{keys}
use Rattle.rr_schema.specs.declared.consolidation.ConsolidationFunction.{ConsolidationFunction}
use Rattle.rr_schema.specs.Schema.{is_known_enough}
use Rattle.rr_cells.specs.Samples.{Mark, name_of}
use Rattle.rr_cells.specs.Knowledge.{live}
use Rattle.rr_cells.specs.Rows.{of_marks, is_at, marks_of_row, known_places, row}
use Rattle.rr_cells.specs.FetchText.{answer_text}
use Rattle.rr_cells.specs.KnowledgeLaws.{RowsAreOfTheLive, FetchesAreOfTheLive, LiveAnswersAlike}
use Rattle.rr_cells.proofs.ClosedCells.{live_is_live}

pub rows_are_of_the_live : RowsAreOfTheLive
unfolding row marks_of_row
rows_are_of_the_live s k l key archive slot f same =
    λ i. answer f (filter (λ m. is_at key archive slot (name_of s m)) (keys (same i)))
  where
    answer : ConsolidationFunction → List Mark → Option ℤ
    answer f ms = if is_known_enough s archive (known_places s archive ms) then of_marks f ms else None

pub fetches_are_of_the_live : FetchesAreOfTheLive
fetches_are_of_the_live s k l q same = λ i. answer_text s
    (λ slot. rows_are_of_the_live s k l q.key q.archive slot q.function same i) q

pub live_answers_alike : LiveAnswersAlike
live_answers_alike s k q is = fetches_are_of_the_live s (live s k) k q (live_is_live s k is)
