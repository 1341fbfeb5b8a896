-- The names of the files of a directory.
use Rattle.std.specs.Prelude.{◌≡◌, ◌≢◌, ℕ, zero, suc, ◌+◌, ◌/◌, ◌%◌, ◌^◌, ◌<◌, List, [], ◌∷◌, ◌++◌, codes, Option, None, Some}
use Rattle.rr_directory.specs.declared.name.FileName.{FileName}
use Rattle.rr_directory.specs.declared.name.FileName.TheVariants.{Journal, Checkpoint}
use Rattle.rr_directory.specs.declared.name.TheConstants.{DIGITS}

-- what follows a piece at the beginning of bytes, or none if they don't begin with it
abbrev pub IsAfter : List ℕ → List ℕ → Option (List ℕ) → Type 0
IsAfter piece bytes (Some rest) = bytes ≡ piece ++ rest
IsAfter piece bytes None = (rest : List ℕ) → bytes ≢ piece ++ rest

-- this many decimal digits of a number, with leading zeros
unfoldable pub digits_of : ℕ → ℕ → List ℕ
digits_of zero n = []
digits_of (suc count) n = digits_of count (n / 10) ++ (48 + n % 10) ∷ []

-- an offset in twenty digits, and the ending
abbrev pub offset_text : ℕ → List ℕ
offset_text offset = digits_of DIGITS offset ++ codes ".rrj"

-- the offset at which a file of the journal begins, or at which the journal goes on after a checkpoint
abbrev pub offset_of : FileName → ℕ
offset_of (Journal offset) = offset
offset_of (Checkpoint offset) = offset

abbrev pub beginning_of : FileName → List ℕ
beginning_of (Journal offset) = codes "journal-"
beginning_of (Checkpoint offset) = codes "checkpoint-"

-- a name says what the file is, and its offset
abbrev pub name_text : FileName → List ℕ
name_text name = beginning_of name ++ offset_text (offset_of name)

-- an offset that a text writes, or none
abbrev pub IsOffsetText : List ℕ → Option ℕ → Type 0
IsOffsetText text (Some offset) = (text ≡ offset_text offset) × (offset < 2 ^ 64)
IsOffsetText text None = (offset : ℕ) → offset < 2 ^ 64 → text ≢ offset_text offset

-- bytes are the text of a name, or of none
abbrev pub IsName : List ℕ → Option FileName → Type 0
IsName bytes (Some name) = (bytes ≡ name_text name) × (offset_of name < 2 ^ 64)
IsName bytes None = (name : FileName) → offset_of name < 2 ^ 64 → bytes ≢ name_text name
