-- The records of a fetch, read as rows of JSON.
use Rattle.std.proofs.Common.{◌≡◌, Bool, true, false, ◌||◌, eqb, ℕ, ◌<◌, ℤ, pos, negsuc, List, [], ◌∷◌, ◌++◌, map, drop, Option, Some, None, refl, ap, subst, ◌∙◌, append_assoc, arith, inl, inr}
use Rattle.std.specs.Prelude.{FitsSigned, IfSome, codes, ◌==◌}
use Rattle.std.specs.Char.{digit_value}
use Rattle.std.specs.Fmt.{decimal, signed_decimal}
use Rattle.std.specs.Int.{w64}
use Rattle.std.specs.List.{flat_map, list_any, slice_split, AllByRecursion}
use Rattle.std.specs.Str.{bytes_eq}
use Rattle.std.specs.Str.Parse.{AllDigits}
use Rattle.std.proofs.lemmas.Bool.{cases_Bool, eqb-true, or_parts}
use Rattle.std.proofs.lemmas.Fmt.{decimal_is_IsNumeral}
use Rattle.std.proofs.lemmas.Int.{ints}
use Rattle.std.proofs.lemmas.List.{append-nil}
use Rattle.std.proofs.lemmas.List.Folds.{list_any-append}
use Rattle.std.proofs.lemmas.List.Splits.{slice_split-cons_no, slice_split-cons_yes}
use Rattle.rr_text.specs.Bytes.{HasNoLineFeed}
use Rattle.rr_text.specs.declared.bytes.TheConstants.{COMMA, LINE_FEED}
use Rattle.rr_cells.specs.FetchText.{comma, double_quote, doubled, field_text, is_special, record_text, value_text}
use Rattle.rr_fetch.proofs.CsvLemmas.{plain_signed}
use Rattle.rr_web.specs.Json.{cut_last, row_behind, row_of, value_of}
use Rattle.rr_web.specs.JsonRows.{IsRow, RecordsAreRows, row_json, value_json, with_commas}

-- ---- bytes that a text lacks

abbrev is_feed : ℕ → Bool
is_feed byte = byte == LINE_FEED

abbrev is_comma : ℕ → Bool
is_comma byte = byte == COMMA

abbrev Lacks : (ℕ → Bool) → List ℕ → Type 0
Lacks is text = list_any is text ≡ false

lacks_both : (is : ℕ → Bool) (text more : List ℕ) → Lacks is text → Lacks is more → Lacks is (text ++ more)
lacks_both is text more a b = list_any-append is text more ∙ rw (a, b) refl

-- what no special byte is in has no line feed and no comma
no_feed : (text : List ℕ) → list_any is_special text ≡ false → Lacks is_feed text
no_feed [] e = refl
no_feed (b ∷ text) e =
    let here = or_parts (is_special b) (list_any is_special text) e in
    let last = or_parts (((b == comma) || (b == double_quote)) || (b == 13)) (b == 10) here.0 in
    rw (last.1, no_feed text here.1) refl

no_comma : (text : List ℕ) → list_any is_special text ≡ false → Lacks is_comma text
no_comma [] e = refl
no_comma (b ∷ text) e =
    let here = or_parts (is_special b) (list_any is_special text) e in
    let last = or_parts (((b == comma) || (b == double_quote)) || (b == 13)) (b == 10) here.0 in
    let quotes = or_parts ((b == comma) || (b == double_quote)) (b == 13) last.0 in
    rw ((or_parts (b == comma) (b == double_quote) quotes.0).0, no_comma text here.1) refl

-- ---- numbers

plain_value : (value : Option ℤ) → IfSome value (FitsSigned w64) → list_any is_special (value_text value) ≡ false
plain_value None fits = refl
plain_value (Some value) fits = plain_signed value fits

-- ---- lines

split_line : (line rest : List ℕ) → Lacks is_feed line
    → slice_split is_feed (line ++ LINE_FEED ∷ rest) ≡ line ∷ slice_split is_feed rest
split_line [] rest none = slice_split-cons_yes is_feed LINE_FEED rest refl
split_line (b ∷ line) rest none =
    let here = or_parts (is_feed b) (list_any is_feed line) none in
    slice_split-cons_no is_feed b (line ++ LINE_FEED ∷ rest) here.0 ∙ rw (split_line line rest here.1) refl

-- a text is cut at the comma that has none behind it
some_comma : (before behind : List ℕ) → list_any is_comma (before ++ COMMA ∷ behind) ≡ true
some_comma [] behind = refl
some_comma (b ∷ before) behind = rw (some_comma before behind) (grind arith)

cut_here : (before behind : List ℕ) → Lacks is_comma behind → cut_last (before ++ COMMA ∷ behind) ≡ (before, behind)
cut_here [] behind none = rw none refl
cut_here (b ∷ before) behind none = rw (some_comma before behind, cut_here before behind none) refl

-- ---- a record

abbrev line_of : List ℕ → ℤ × Option ℤ → List ℕ
line_of key row = (field_text key ++ COMMA ∷ signed_decimal row.0) ++ COMMA ∷ value_text row.1

regrouped : (key start value rest : List ℕ) → (key ++ 44 ∷ start ++ 44 ∷ value ++ 10 ∷ []) ++ rest
    ≡ ((key ++ 44 ∷ start) ++ 44 ∷ value) ++ 10 ∷ rest
regrouped key start value rest = simp append_assoc

record_is : (key : List ℕ) (row : ℤ × Option ℤ) (rest : List ℕ) → IsRow row
    → record_text key row ++ rest ≡ line_of key row ++ LINE_FEED ∷ rest
record_is key row rest is = rw (plain_signed row.0 is.0, plain_value row.1 is.1)
    (regrouped (field_text key) (signed_decimal row.0) (value_text row.1) rest)

doubled_lack : (text : List ℕ) → Lacks is_feed text → Lacks is_feed (flat_map doubled text)
doubled_lack [] e = refl
doubled_lack (b ∷ text) e =
    let here = or_parts (is_feed b) (list_any is_feed text) e in
    elim (cases_Bool (eqb b double_quote)) [
      | inl quote ↦ rw quote (doubled_lack text here.1)
      | inr other ↦ rw (other, here.0) (doubled_lack text here.1)
    ]

key_lacks : (key : List ℕ) → HasNoLineFeed key → Lacks is_feed (field_text key)
key_lacks key none =
    elim (cases_Bool (list_any is_special key)) [
      | inl special ↦
          rw special (lacks_both is_feed (flat_map doubled key) (double_quote ∷ []) (doubled_lack key none) refl)
      | inr plain ↦ rw plain none
    ]

line_lacks : (key : List ℕ) (row : ℤ × Option ℤ) → HasNoLineFeed key → IsRow row → Lacks is_feed (line_of key row)
line_lacks key row none is =
    let start = no_feed (signed_decimal row.0) (plain_signed row.0 is.0) in
    let value = no_feed (value_text row.1) (plain_value row.1 is.1) in
    lacks_both is_feed (field_text key ++ COMMA ∷ signed_decimal row.0) (COMMA ∷ value_text row.1)
    (lacks_both is_feed (field_text key) (COMMA ∷ signed_decimal row.0) (key_lacks key none) start) value

lines_are : (key : List ℕ) (rows : List (ℤ × Option ℤ)) → HasNoLineFeed key → AllByRecursion IsRow rows
    → slice_split is_feed (flat_map (record_text key) rows) ≡ map (line_of key) rows ++ [] ∷ []
lines_are key [] none all = refl
lines_are key (row ∷ rows) none all =
    let rest = flat_map (record_text key) rows in
    ap (slice_split is_feed) (record_is key row rest all.0)
    ∙ (split_line (line_of key row) rest (line_lacks key row none all.0)
    ∙ ap (λ (lines : List (List ℕ)). line_of key row ∷ lines) (lines_are key rows none all.1))

-- ---- a row

no_unknown : (text : List ℕ) → AllDigits 10 text → bytes_eq text (codes "U") ≡ false
no_unknown [] all = refl
no_unknown (b ∷ text) all =
    let other : eqb b 85 ≡ false =
    elim (cases_Bool (eqb b 85)) [
      | inl same ↦ absurd (too_great (subst (λ (c : ℕ). digit_value c < 10) (eqb-true b 85 same) all.0))
      | inr differs ↦ differs
    ] in
    rw other refl
  where
    too_great : digit_value 85 < 10 → ⊥
    too_great h = absurd (omega arith)

value_is : (value : Option ℤ) → IfSome value (FitsSigned w64) → value_of (value_text value) ≡ value_json value
value_is None fits = refl
value_is (Some (pos n)) fits =
    rw (no_unknown (decimal n) (decimal_is_IsNumeral n (omega (arith, ints))).0.1) refl
value_is (Some (negsuc n)) fits = refl

behind : (line : List ℕ) → (line ≡ [] → ⊥)
    → row_behind line ≡ codes ",[" ++ (row_of line).0 ++ COMMA ∷ value_of (row_of line).1 ++ codes "]"
behind [] some = absurd (some refl)
behind (b ∷ line) some = refl

not_empty : (before after : List ℕ) → before ++ COMMA ∷ after ≡ [] → ⊥
not_empty [] after e = absurd cc
not_empty (b ∷ before) after e = absurd cc

row_is : (key : List ℕ) (row : ℤ × Option ℤ) → IsRow row → row_behind (line_of key row) ≡ COMMA ∷ row_json row
row_is key row is =
    let before = field_text key ++ COMMA ∷ signed_decimal row.0 in
    behind (line_of key row) (not_empty before (value_text row.1))
    ∙ rw (
      cut_here before (value_text row.1) (no_comma (value_text row.1) (plain_value row.1 is.1)),
      cut_here (field_text key) (signed_decimal row.0) (no_comma (signed_decimal row.0) (plain_signed row.0 is.0)),
      value_is row.1 is.1,
    ) refl

-- ---- all rows

all_behind : (key : List ℕ) (rows : List (ℤ × Option ℤ)) → AllByRecursion IsRow rows
    → flat_map row_behind (map (line_of key) rows ++ [] ∷ []) ≡ flat_map (λ (t : List ℕ). COMMA ∷ t) (map row_json rows)
all_behind key [] all = refl
all_behind key (row ∷ rows) all = rw (row_is key row all.0, all_behind key rows all.1) refl

commas : (texts : List (List ℕ)) → drop 1 (flat_map (λ (t : List ℕ). COMMA ∷ t) texts) ≡ with_commas texts
commas [] = refl
commas (text ∷ texts) = more text texts
  where
    more : (text : List ℕ) (texts : List (List ℕ))
        → text ++ flat_map (λ (t : List ℕ). COMMA ∷ t) texts ≡ with_commas (text ∷ texts)
    more text [] = append-nil text
    more text (next ∷ texts) = ap (λ (others : List ℕ). text ++ COMMA ∷ others) (more next texts)

pub records_are_rows : RecordsAreRows
records_are_rows key rows none all =
    ap (λ (lines : List (List ℕ)). drop 1 (flat_map row_behind lines)) (lines_are key rows none all)
    ∙ (ap (drop 1) (all_behind key rows all) ∙ commas (map row_json rows))
