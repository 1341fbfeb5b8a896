-- The laws of answers from cells, each the contract of a function of `src/laws.rt`.
use Rattle.std.specs.Prelude.{◌≡◌, ℕ, ℤ, List, [], ◌∷◌, Option}
use Rattle.std.specs.Fmt.{signed_decimal}
use Rattle.csv.specs.Writing.{default_writer, row_text, field_text as field_of_csv}
use Rattle.rr_schema.specs.declared.consolidation.ConsolidationFunction.{ConsolidationFunction}
use Rattle.rr_schema.specs.Schema.{Layout, IsLayout}
use Rattle.rr_cells.specs.Knowledge.{Knowledge}
use Rattle.rr_cells.specs.Rows.{row}
use Rattle.rr_cells.specs.FetchText.{Request, fetch_text, field_text, value_text, record_text as row_record}
use Rattle.rr_cells.specs.Cells.{row_at}
use Rattle.rr_cells.specs.ReplicaState.{ReplicaState, IsReplicaState}
use Rattle.rr_cells.specs.State.{cells_of_knowledge}
use Rattle.rr_fetch.specs.Answers.{cells_text}
use Rattle.rr_fetch.specs.Consolidation.{consolidation_of, IsRow}
use Rattle.rr_fetch.specs.Records.{record_text}

-- the row consolidated from the cells of what is known is the row of its samples
abbrev pub RowsAgree : Type 0
RowsAgree =
    (s : Layout) (k : Knowledge) (key : List ℕ) (archive : ℕ) (slot : ℤ) (f : ConsolidationFunction) → IsLayout s
    → consolidation_of s archive f (row_at (cells_of_knowledge s k) key archive slot) ≡ row s k key archive slot f

-- so an answer from these cells is the answer from the samples
abbrev pub AnswersAgree : Type 0
AnswersAgree = (s : Layout) (k : Knowledge) (q : Request) → IsLayout s
    → cells_text s (cells_of_knowledge s k) q ≡ fetch_text s k q

-- each row of a replica can be consolidated
abbrev pub HeldRowsAreRows : Type 0
HeldRowsAreRows = (h : ReplicaState) (key : List ℕ) (archive : ℕ) (slot : ℤ) → IsReplicaState h
    → IsRow (row_at h.cells key archive slot)

-- a field has quotes where a writer of `csv` with its defaults writes them
abbrev pub FieldsAreOfCsv : Type 0
FieldsAreOfCsv = (field : List ℕ) → field_text field ≡ field_of_csv default_writer field

-- a record is what that writer writes of its fields
abbrev pub RecordsAreOfCsv : Type 0
RecordsAreOfCsv = (fields : List (List ℕ)) → record_text fields ≡ row_text default_writer fields

-- and so is that of a row of an answer
abbrev pub RowsAreOfCsv : Type 0
RowsAreOfCsv = (key : List ℕ) (row : ℤ × Option ℤ)
    → row_record key row ≡ row_text default_writer (key ∷ signed_decimal row.0 ∷ value_text row.1 ∷ [])
