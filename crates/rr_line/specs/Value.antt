-- Values of fields.
use Rattle.std.specs.Prelude.{◌≡◌, ℕ, ℤ, Bool, true, false, ◌&&◌, ◌||◌, ◌==◌, List, [], ◌∷◌, ◌++◌, length, take, drop, codes, Option, None, Some, option_and_then, Result, Ok, Err, ok_or, nat_eq, if◌then◌else◌}
use Rattle.std.specs.List.{flat_map, list_any, position_or_len}
use Rattle.std.specs.Cmp.Lexicographic.{pointwise}
use Rattle.memchr.specs.Find.{is_byte2}
use Rattle.rr_text.specs.Bytes.{begins}
use Rattle.rr_text.specs.Text.{cut_at, is_digits, unsigned, integer_at}
use Rattle.rr_text.specs.declared.bytes.TheConstants.{COMMA, SPACE, BACKSLASH, MINUS}
use Rattle.rr_line.specs.declared.mark.TheConstants.{QUOTE, INTEGER_MARK, UNSIGNED_MARK, POINT, EXPONENT_MARK, GREAT_EXPONENT_MARK, PLUS}
use Rattle.rr_line.specs.declared.fault.LineFault.{LineFault}
use Rattle.rr_line.specs.declared.fault.LineFault.TheVariants.{MissingFieldValue, BooleanField, IntegerRange, UnsignedField, FloatField, TextField, BadField}
use Rattle.rr_line.specs.Part.{before_last, Ends}

-- the words for true, and those for false
abbrev pub trues : List (List ℕ)
trues = codes "t" ∷ codes "T" ∷ codes "true" ∷ codes "True" ∷ codes "TRUE" ∷ []

abbrev pub falses : List (List ℕ)
falses = codes "f" ∷ codes "F" ∷ codes "false" ∷ codes "False" ∷ codes "FALSE" ∷ []

-- whether a text is one of some words
abbrev pub is_one_of : List (List ℕ) → List ℕ → Bool
is_one_of words text = list_any (λ word. pointwise nat_eq text word) words

abbrev pub is_boolean : List ℕ → Bool
is_boolean text = is_one_of trues text || is_one_of falses text

-- whether there is a text, and this holds of it
abbrev pub has : (List ℕ → Bool) → Option (List ℕ) → Bool
has test None = false
has test (Some text) = test text

-- an optional "-", digits, "i"
abbrev pub is_integer : List ℕ → Bool
is_integer text = has (λ digits. is_digits (unsigned digits)) (before_last INTEGER_MARK text)

-- digits, "u"
abbrev pub is_unsigned : List ℕ → Bool
is_unsigned text = has is_digits (before_last UNSIGNED_MARK text)

-- a text without its point, if it has one
abbrev pub without_point : List ℕ → Option (List ℕ × List ℕ) → List ℕ
without_point text None = text
without_point text (Some (whole, part)) = whole ++ part

-- digits, or digits "." digits where one side may be empty but not both
abbrev pub is_mantissa : List ℕ → Bool
is_mantissa text = is_digits (without_point text (cut_at POINT text))

-- a text without its sign, if it has one
abbrev pub without_sign : List ℕ → List ℕ
without_sign [] = []
without_sign (byte ∷ text) = if byte == PLUS || byte == MINUS then text else byte ∷ text

-- nothing, or "e" or "E", an optional sign, digits
abbrev pub is_exponent : List ℕ → Bool
is_exponent [] = true
is_exponent (mark ∷ text) = is_digits (without_sign text)

-- how many bytes precede the first "e" or "E", or how many there are if there is none
abbrev pub mantissa_len : List ℕ → ℕ
mantissa_len text = position_or_len (is_byte2 EXPONENT_MARK GREAT_EXPONENT_MARK) text

-- an optional "-", a mantissa and an exponent
abbrev pub is_float : List ℕ → Bool
is_float text =
    is_mantissa (unsigned (take (mantissa_len text) text)) && is_exponent (drop (mantissa_len text) text)

-- why a value that is not an integer is refused
abbrev pub kind_fault : List ℕ → LineFault
kind_fault text =
    if length text == 0 then MissingFieldValue
    else (if is_boolean text then BooleanField
    else (if is_unsigned text then UnsignedField
    else (if is_float text then FloatField else BadField)))

-- a value that is not quoted
abbrev pub value_of : List ℕ → Result ℤ LineFault
value_of text =
    if is_integer text then ok_or (option_and_then integer_at (before_last INTEGER_MARK text)) IntegerRange
    else Err (kind_fault text)

-- whether a byte ends a value that is not quoted
abbrev pub ends_value : ℕ → Bool
ends_value byte = is_byte2 COMMA SPACE byte

-- how many bytes precede the first comma or space, or how many there are if there is none
abbrev pub value_len : List ℕ → ℕ
value_len text = position_or_len ends_value text

-- what follows a byte of a text and the byte that it takes: a backslash takes a quote or a backslash
abbrev pub after_unit : ℕ → List ℕ → List ℕ
after_unit first [] = []
after_unit first (next ∷ rest) = if first == BACKSLASH && is_byte2 QUOTE BACKSLASH next then rest else next ∷ rest

-- what follows the quote that ends a text; a backslash before a quote or a backslash takes both
abbrev pub after_quote : List ℕ → Option (List ℕ)
after_quote [] = None
after_quote (byte ∷ []) = if byte == QUOTE then Some [] else None
after_quote (byte ∷ next ∷ rest) =
    if byte == BACKSLASH && is_byte2 QUOTE BACKSLASH next then after_quote rest
    else (if byte == QUOTE then Some (next ∷ rest) else after_quote (next ∷ rest))

-- a text value goes up to a quote that a comma, a space or the end follows
abbrev pub is_text : List ℕ → Bool
is_text text = has (λ rest. value_len rest == 0) (after_quote (drop 1 text))

-- why a value that begins with a quote is refused
abbrev pub quoted_fault : List ℕ → LineFault
quoted_fault text = if is_text text then TextField else BadField

-- a value is followed by nothing, or by a comma or a space
abbrev pub EndsValue : List ℕ → Type 0
EndsValue rest = Ends ends_value rest

-- text = value rest; the value is not quoted, and has no comma and no space
pub record IsBare (text value rest : List ℕ) : Type 0 where
  pub bare : begins QUOTE text ≡ false
  pub plain : list_any ends_value value ≡ false
  pub ended : EndsValue rest
  pub whole : text ≡ value ++ rest

-- text = value rest, where the value is an integer
abbrev pub IsValue : List ℕ → ℤ → List ℕ → Type 0
IsValue text number rest = (value : List ℕ) × IsBare text value rest × (value_of value ≡ Ok number)

-- a unit of a quoted text: a byte that stands for itself, or the one that a backslash takes
pub data TextUnit : Type 0 where
  itself : ℕ → TextUnit
  taken : ℕ → TextUnit

-- how a unit is written
abbrev pub unit_text : TextUnit → List ℕ
unit_text (itself byte) = byte ∷ []
unit_text (taken byte) = BACKSLASH ∷ byte ∷ []

-- whether a byte is one that a backslash takes
abbrev pub is_taken : ℕ → Bool
is_taken byte = is_byte2 QUOTE BACKSLASH byte

-- whether a text begins with such a byte
abbrev pub begins_taken : List ℕ → Bool
begins_taken [] = false
begins_taken (byte ∷ rest) = is_taken byte

-- what may be a unit before the bytes that follow it: a quote is taken, and a backslash takes what it can
abbrev pub IsUnit : TextUnit → List ℕ → Type 0
IsUnit (taken byte) rest = is_taken byte ≡ true
IsUnit (itself byte) rest = ((byte == QUOTE) ≡ false) × ((byte == BACKSLASH) ≡ true → begins_taken rest ≡ false)

-- units, one after the other, before the bytes that follow them
abbrev pub AreUnits : List TextUnit → List ℕ → Type 0
AreUnits [] rest = Unit {0}
AreUnits (unit ∷ units) rest = IsUnit unit (flat_map unit_text units ++ rest) × AreUnits units rest

-- text = quote units quote rest
pub record IsQuoted (text rest : List ℕ) : Type 0 where
  pub units : List TextUnit
  pub are_units : AreUnits units (QUOTE ∷ rest)
  pub whole : text ≡ QUOTE ∷ (flat_map unit_text units ++ QUOTE ∷ rest)

-- why the value is refused
pub data ValueFault (text : List ℕ) (fault : LineFault) : Type 0 where
  a_text : (rest : List ℕ) → IsQuoted text rest → EndsValue rest → fault ≡ TextField → ValueFault text fault
  no_text : begins QUOTE text ≡ true → ((rest : List ℕ) → IsQuoted text rest → EndsValue rest → ⊥) → fault ≡ BadField
      → ValueFault text fault
  unquoted : (value rest : List ℕ) → IsBare text value rest → value_of value ≡ Err fault → ValueFault text fault
