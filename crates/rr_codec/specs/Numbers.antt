-- Numbers as bytes, in LEB128 as DWARF 4 defines it (section 7.6): seven bits each, the lowest first; the highest bit
-- is set in each byte but the last. A number is written only in its fewest bytes.
use Rattle.std.specs.Prelude.{ℕ, zero, suc, ◌+◌, ◌-◌, ◌*◌, ◌/◌, ◌%◌, ◌^◌, Bool, ◌||◌, ◌==◌, nat_lt, nat_le, List, [], ◌∷◌, Result, Ok, Err, if◌then◌else◌}
use Rattle.rr_text.specs.Results.{◌>>=◌, unless}
use Rattle.rr_codec.specs.declared.fault.CodecFault.{CodecFault}
use Rattle.rr_codec.specs.declared.fault.CodecFault.TheVariants.{Short, BadNumber}

-- a number, written as at most `most` bytes
unfoldable pub number_text_within : ℕ → ℕ → List ℕ
number_text_within zero n = []
number_text_within (suc most) n =
    if nat_lt n 128 then n ∷ [] else (n % 128 + 128) ∷ number_text_within most (n / 128)

-- one of 128 bits has at most 19
abbrev pub number_text : ℕ → List ℕ
number_text n = number_text_within 19 n

-- whether no number of 128 bits has these bits above its lowest seven: they are too many, or needn't be written
abbrev pub is_bad_high : ℕ → Bool
is_bad_high high = (high == 0) || nat_le (2 ^ 121) high

-- a number of at most `most` bytes and 128 bits, and what follows it
unfoldable pub number_within : ℕ → List ℕ → Result (ℕ × List ℕ) CodecFault
number_within zero bytes = Err BadNumber
number_within (suc most) [] = Err Short
number_within (suc most) (b ∷ bs) =
    if nat_lt b 128 then Ok (b, bs)
    else (number_within most bs >>= λ high. unless BadNumber (is_bad_high high.0)
    (Ok (128 * high.0 + (b - 128), high.1)))

abbrev pub number_at : List ℕ → Result (ℕ × List ℕ) CodecFault
number_at bytes = number_within 19 bytes
