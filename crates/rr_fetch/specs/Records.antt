-- The text of a record, by the rules of CSV.
use Rattle.std.specs.Prelude.{ℕ, List, [], ◌∷◌, ◌++◌, IsFalse}
use Rattle.std.specs.List.{list_any}
use Rattle.rr_cells.specs.FetchText.{comma, double_quote, field_text, is_special, line_feed}

-- the fields after a record's first, each after a comma, and the line feed
abbrev pub rest_text : List (List ℕ) → List ℕ
rest_text [] = line_feed ∷ []
rest_text (field ∷ more) = comma ∷ field_text field ++ rest_text more

-- The fields of a record, separated by commas, and a line feed. No fields and one empty field would both give an empty
-- line, which is no record: they are written as an empty field in quotes.
abbrev pub record_text : List (List ℕ) → List ℕ
record_text [] = double_quote ∷ double_quote ∷ line_feed ∷ []
record_text ([] ∷ []) = double_quote ∷ double_quote ∷ line_feed ∷ []
record_text ((byte ∷ bytes) ∷ []) = field_text (byte ∷ bytes) ++ line_feed ∷ []
record_text (first ∷ next ∷ more) = field_text first ++ rest_text (next ∷ more)

-- a text that CSV writes as it is
abbrev pub IsPlain : List ℕ → Type 0
IsPlain text = IsFalse (list_any is_special text)
