-- The time of a line, and its end.
use Rattle.std.specs.Prelude.{◌≡◌, ℕ, ◌<◌, ℤ, pos, ◌*ℤ◌, ◌==◌, Bool, true, false, ◌&&◌, if◌then◌else◌, List, [], ◌++◌, length, Option, None, Some, ◌⊎◌}
use Rattle.std.specs.List.{list_any, position_or_len}
use Rattle.std.specs.Str.Parse.{signed_digits_value}
use Rattle.rr_text.specs.Text.{is_digits, unsigned, fits_i64}
use Rattle.rr_text.specs.declared.bytes.TheConstants.{SPACE}
use Rattle.rr_line.specs.declared.fault.LineFault.{LineFault}
use Rattle.rr_line.specs.declared.fault.LineFault.TheVariants.{BadTime, TimeRange}
use Rattle.rr_line.specs.declared.precision.Precision.{Precision}
use Rattle.rr_line.specs.declared.precision.Precision.TheVariants.{Ns, Us, Ms, S}
use Rattle.rr_line.specs.Part.{skip_spaces, Ends}

-- the nanoseconds of the unit of a time
abbrev pub unit : Precision → ℕ
unit Ns = 1
unit Us = 1_000
unit Ms = 1_000_000
unit S = 1_000_000_000

-- the nanoseconds that digits after an optional "-" write
abbrev pub nanoseconds : Precision → List ℕ → ℤ
nanoseconds precision digits = signed_digits_value 10 digits *ℤ pos (unit precision)

-- the same, if the text is such digits and the nanoseconds are in i64
abbrev pub time_of : Precision → List ℕ → Option ℤ
time_of precision text =
    if is_digits (unsigned text) && fits_i64 (nanoseconds precision text) then Some (nanoseconds precision text) else
    None

-- whether a byte ends a word
abbrev pub ends_word : ℕ → Bool
ends_word byte = byte == SPACE

-- how many bytes precede the first space, or how many there are if there is none
abbrev pub word_len : List ℕ → ℕ
word_len text = position_or_len ends_word text

-- text = spaces word rest; the word has a byte or more and no space, and a space or nothing follows it
pub record IsWord (text word rest : List ℕ) : Type 0 where
  pub some : 0 < length word
  pub plain : list_any ends_word word ≡ false
  pub ended : Ends ends_word rest
  pub whole : skip_spaces text ≡ word ++ rest

-- a word of digits after an optional "-", and nothing but spaces after it
pub record IsTimeText (text word : List ℕ) : Type 0 where
  pub rest : List ℕ
  pub is_word : IsWord text word rest
  pub digits : is_digits (unsigned word) ≡ true
  pub alone : skip_spaces rest ≡ []

-- ending = spaces [ time spaces ]
abbrev pub IsEnding : Precision → List ℕ → Option ℤ → Type 0
IsEnding precision text None = skip_spaces text ≡ []
IsEnding precision text (Some time) =
    (word : List ℕ) × IsTimeText text word × (time ≡ nanoseconds precision word) × (fits_i64 time ≡ true)

-- why the ending is refused
pub data EndingFault (precision : Precision) (text : List ℕ) (fault : LineFault) : Type 0 where
  bad_time : (word rest : List ℕ) → IsWord text word rest
      → (is_digits (unsigned word) ≡ false) ⊎ (0 < length (skip_spaces rest)) → fault ≡ BadTime
      → EndingFault precision text fault
  out_of_range : (word : List ℕ) → IsTimeText text word → fits_i64 (nanoseconds precision word) ≡ false
      → fault ≡ TimeRange → EndingFault precision text fault
