-- The text that answers a request from cells.
use Rattle.std.specs.Prelude.{ℕ, ℤ, List, Option}
use Rattle.rr_schema.specs.Schema.{Layout}
use Rattle.rr_cells.specs.FetchText.{Request, answer_text}
use Rattle.rr_cells.specs.Cells.{Cells, row_at}
use Rattle.rr_fetch.specs.Consolidation.{consolidation_of}

-- the row of a slot, from the contributions of the cells in it
abbrev pub value_of_cells : Layout → Cells → Request → ℤ → Option ℤ
value_of_cells s cells q slot = consolidation_of s q.archive q.function (row_at cells q.key q.archive slot)

-- the answer from cells
abbrev pub cells_text : Layout → Cells → Request → List ℕ
cells_text s cells q = answer_text s (value_of_cells s cells q) q
