-- The cut of a text at a byte, and decimal numbers.
use Rattle.std.specs.Prelude.{ℕ, ◌^◌, ℤ, pos, negsuc, Bool, ◌&&◌, not, ◌==◌, nat_lt, List, [], ◌∷◌, length, Option, None, Some, option_map, if◌then◌else◌}
use Rattle.std.specs.Char.{is_ascii_digit}
use Rattle.std.specs.List.{list_all}
use Rattle.std.specs.Str.Parse.{digits_value, signed_digits_value}
use Rattle.rr_text.specs.declared.bytes.TheConstants.{MINUS}

-- the bytes before the first delimiter, and those after it
abbrev pub cut_at : ℕ → List ℕ → Option (List ℕ × List ℕ)
cut_at delimiter [] = None
cut_at delimiter (byte ∷ text) =
    if byte == delimiter then Some ([], text)
    else option_map (λ (parts : List ℕ × List ℕ). (byte ∷ parts.0, parts.1)) (cut_at delimiter text)

-- one or more digits
abbrev pub is_digits : List ℕ → Bool
is_digits text = not (length text == 0) && list_all is_ascii_digit text

-- the number below 2 ^ 64 that digits write, if they write one
abbrev pub number_at : List ℕ → Option ℕ
number_at text =
    if is_digits text && nat_lt (digits_value 10 text) (2 ^ 64) then Some (digits_value 10 text) else None

-- the text without a leading minus
abbrev pub unsigned : List ℕ → List ℕ
unsigned [] = []
unsigned (byte ∷ text) = if byte == MINUS then text else byte ∷ text

-- whether a number is in i64
abbrev pub fits_i64 : ℤ → Bool
fits_i64 (pos n) = nat_lt n (2 ^ 63)
fits_i64 (negsuc n) = nat_lt n (2 ^ 63)

-- the integer in i64 that a text writes, if it writes one
abbrev pub integer_at : List ℕ → Option ℤ
integer_at text =
    if is_digits (unsigned text) && fits_i64 (signed_digits_value 10 text) then Some (signed_digits_value 10 text)
    else None
