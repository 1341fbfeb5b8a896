-- The records of a fetch as rows of JSON, by the rows themselves.
use Rattle.std.specs.Prelude.{◌≡◌, ℕ, ℤ, FitsSigned, List, [], ◌∷◌, ◌++◌, map, codes, Option, None, Some, IfSome}
use Rattle.std.specs.Fmt.{signed_decimal}
use Rattle.std.specs.Int.{w64}
use Rattle.std.specs.List.{flat_map, AllByRecursion}
use Rattle.rr_text.specs.Bytes.{HasNoLineFeed}
use Rattle.rr_text.specs.declared.bytes.TheConstants.{COMMA}
use Rattle.rr_cells.specs.FetchText.{record_text}
use Rattle.rr_web.specs.Json.{rows_of}

-- a number, or null for an unknown value
abbrev pub value_json : Option ℤ → List ℕ
value_json None = codes "null"
value_json (Some value) = signed_decimal value

-- the start second and the value of a row
abbrev pub row_json : ℤ × Option ℤ → List ℕ
row_json row = codes "[" ++ signed_decimal row.0 ++ COMMA ∷ value_json row.1 ++ codes "]"

-- texts separated by commas
abbrev pub with_commas : List (List ℕ) → List ℕ
with_commas [] = []
with_commas (text ∷ []) = text
with_commas (text ∷ next ∷ texts) = text ++ COMMA ∷ with_commas (next ∷ texts)

-- whole numbers of 64 bits
abbrev pub IsRow : ℤ × Option ℤ → Type 0
IsRow row = FitsSigned w64 row.0 × IfSome row.1 (FitsSigned w64)

-- each CSV record is a row of JSON, in the same order, if the key has no line feed
abbrev pub RecordsAreRows : Type 0
RecordsAreRows = (key : List ℕ) (rows : List (ℤ × Option ℤ)) → HasNoLineFeed key → AllByRecursion IsRow rows
    → rows_of (flat_map (record_text key) rows) ≡ with_commas (map row_json rows)
