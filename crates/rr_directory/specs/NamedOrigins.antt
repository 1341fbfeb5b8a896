-- The names of the origins that a node has taken.
use Rattle.std.specs.Prelude.{◌≡◌, ◌≢◌, ◌==◌, ℕ, ◌<◌, ◌^◌, List, ◌++◌, length, codes, max, nat_lt, zero, suc, Option, None, Some, if◌then◌else◌}
use Rattle.rr_text.specs.Text.{number_at}
use Rattle.rr_directory.specs.declared.named_origin.TheConstants.{ORIGIN_DIGITS}
use Rattle.rr_directory.specs.Names.{digits_of}

-- the name of an origin, in five digits
abbrev pub origin_text : ℕ → List ℕ
origin_text origin = codes "origin-" ++ digits_of ORIGIN_DIGITS origin

-- the number that a text writes in as many digits, or none
abbrev pub five_digits : List ℕ → Option ℕ
five_digits text = if length text == ORIGIN_DIGITS then number_at text else None

-- the origin of a number, or none
abbrev pub origin_in : ℕ → Option ℕ
origin_in zero = None
origin_in (suc n) = if nat_lt (suc n) (2 ^ 16) then Some (suc n) else None

-- bytes are the name of an origin, or of none
abbrev pub IsOriginName : List ℕ → Option ℕ → Type 0
IsOriginName bytes (Some origin) = bytes ≡ origin_text origin
IsOriginName bytes None = (origin : ℕ) → 0 < origin → origin < 2 ^ 16 → bytes ≢ origin_text origin

-- the greater of two origins, or the only one
abbrev pub later_of : Option ℕ → ℕ → Option ℕ
later_of None other = Some other
later_of (Some one) other = Some (max one other)
