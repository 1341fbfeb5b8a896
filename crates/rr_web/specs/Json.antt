-- JSON (RFC 8259): a text in quotes, and the rows of a fetch by the records of its answer.
use Rattle.std.specs.Prelude.{ℕ, ◌/◌, ◌%◌, ◌||◌, ◌==◌, nat_lt, List, [], ◌∷◌, ◌++◌, codes, drop, if◌then◌else◌}
use Rattle.std.specs.Char.{digit_char}
use Rattle.std.specs.List.{flat_map, list_any, slice_split}
use Rattle.std.specs.Str.{bytes_eq}
use Rattle.std.specs.Str.Lossy.{utf8_lossy}
use Rattle.rr_text.specs.declared.bytes.TheConstants.{BACKSLASH, COMMA, LINE_FEED}

abbrev pub double_quote : ℕ
double_quote = 34

-- a byte inside quotes: a quote and a backslash after a backslash, those below a space as \u00XX
abbrev pub escaped : ℕ → List ℕ
escaped byte =
    if byte == double_quote || byte == BACKSLASH then BACKSLASH ∷ byte ∷ []
    else (if nat_lt byte 32 then codes "\\u00" ++ digit_char (byte / 16) ∷ digit_char (byte % 16) ∷ [] else byte ∷ [])

-- bytes as a text in quotes, with U+FFFD for what isn't UTF-8 in them
abbrev pub quoted : List ℕ → List ℕ
quoted bytes = double_quote ∷ (flat_map escaped (utf8_lossy bytes) ++ double_quote ∷ [])

-- what is before the last comma, and what is after it; nothing and all, if there is none
abbrev pub cut_last : List ℕ → List ℕ × List ℕ
cut_last [] = ([], [])
cut_last (byte ∷ text) =
    if list_any (λ other. other == COMMA) text then (byte ∷ (cut_last text).0, (cut_last text).1)
    else (if byte == COMMA then ([], text) else ([], byte ∷ text))

-- the start and the value of a record: its last two fields
abbrev pub row_of : List ℕ → List ℕ × List ℕ
row_of line = ((cut_last (cut_last line).0).1, (cut_last line).1)

-- a value; null for an unknown one
abbrev pub value_of : List ℕ → List ℕ
value_of value = if bytes_eq value (codes "U") then codes "null" else value

-- the row of a record, after a comma; there is no record after the last line feed
abbrev pub row_behind : List ℕ → List ℕ
row_behind [] = []
row_behind (byte ∷ line) =
    codes ",[" ++ (row_of (byte ∷ line)).0 ++ COMMA ∷ value_of (row_of (byte ∷ line)).1 ++ codes "]"

-- a row for each record, separated by commas
abbrev pub rows_of : List ℕ → List ℕ
rows_of records = drop 1 (flat_map row_behind (slice_split (λ byte. byte == LINE_FEED) records))

-- the key, and the rows of the records that a fetch of it is answered with
abbrev pub fetch_json : List ℕ → List ℕ → List ℕ
fetch_json key records = codes "{\"key\":" ++ quoted key ++ codes ",\"rows\":[" ++ rows_of records ++ codes "]}\n"
