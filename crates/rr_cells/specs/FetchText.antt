-- The text that answers a fetch: a CSV record for each row.
use Rattle.std.specs.Prelude.{ℕ, ℤ, pos, ◌+ℤ◌, ◌*ℤ◌, Bool, ◌||◌, ◌==◌, List, [], ◌∷◌, ◌++◌, map, codes, Option, Some, None, if◌then◌else◌}
use Rattle.std.specs.List.{list_any, flat_map, range_with_len}
use Rattle.std.specs.Fmt.{signed_decimal}
use Rattle.rr_schema.specs.declared.consolidation.ConsolidationFunction.{ConsolidationFunction}
use Rattle.rr_schema.specs.Schema.{Layout, span}
use Rattle.rr_cells.specs.Knowledge.{Knowledge}
use Rattle.rr_cells.specs.Rows.{row}

-- the bytes of CSV
abbrev pub line_feed : ℕ
line_feed = 10

abbrev pub carriage_return : ℕ
carriage_return = 13

abbrev pub double_quote : ℕ
double_quote = 34

abbrev pub comma : ℕ
comma = 44

-- whether a field with this byte has to be in double quotes
abbrev pub is_special : ℕ → Bool
is_special b = (((b == comma) || (b == double_quote)) || (b == carriage_return)) || (b == line_feed)

-- a byte of a field in double quotes
abbrev pub doubled : ℕ → List ℕ
doubled b = if b == double_quote then double_quote ∷ double_quote ∷ [] else b ∷ []

-- a field in double quotes, each inner one doubled
abbrev pub in_quotes : List ℕ → List ℕ
in_quotes field = double_quote ∷ (flat_map doubled field ++ double_quote ∷ [])

-- a CSV field: in double quotes if it has a special byte, otherwise as it is
abbrev pub field_text : List ℕ → List ℕ
field_text field = if list_any is_special field then in_quotes field else field

-- a value in decimal; `U`, as RRDtool writes it, for an unknown one
abbrev pub value_text : Option ℤ → List ℕ
value_text None = codes "U"
value_text (Some value) = signed_decimal value

-- key, start second and value, and a line feed
abbrev pub record_text : List ℕ → ℤ × Option ℤ → List ℕ
record_text key row =
    field_text key ++ comma ∷ field_text (signed_decimal row.0) ++ comma ∷ field_text (value_text row.1)
    ++ line_feed ∷ []

-- a fetch: a function, and a number of rows of an archive of a key (its text), from a first slot on
pub record Request : Type 0 where
  pub key : List ℕ
  pub function : ConsolidationFunction
  pub archive : ℕ
  pub first : ℤ
  pub rows : ℕ

-- the slots of the rows, ascending
abbrev pub slots_of : Request → List ℤ
slots_of q = map (λ i. q.first +ℤ pos i) (range_with_len 0 q.rows)

-- for each slot its start second and the value of its row
abbrev pub rows_of : Layout → (ℤ → Option ℤ) → Request → List (ℤ × Option ℤ)
rows_of s value_at q = map (λ slot. (slot *ℤ pos (span s q.archive), value_at slot)) (slots_of q)

-- a record for each row
unfoldable pub answer_text : Layout → (ℤ → Option ℤ) → Request → List ℕ
answer_text s value_at q = flat_map (record_text q.key) (rows_of s value_at q)

-- the answer from what is known
abbrev pub fetch_text : Layout → Knowledge → Request → List ℕ
fetch_text s k q = answer_text s (λ slot. row s k q.key q.archive slot q.function) q
