-- The laws of packed cells.
use Rattle.std.specs.Prelude.{◌≡◌, ℕ, ◌^◌, ◌<◌, List, [], ◌∷◌, ◌++◌, length, All, Option, None, Some, Ok, IsTrue}
use Rattle.rr_schema.specs.Schema.{Layout}
use Rattle.rr_contrib.specs.Validity.{is_valid}
use Rattle.rr_codec.specs.Fields.{SlotEntry, IsTyped}
use Rattle.rr_codec.specs.Reading.{cells_of, checked_cells_of, is_behind, packed_at}
use Rattle.rr_codec.specs.Text.{packed_text}

-- a text is read as its cells, whatever follows it
abbrev pub TextsAreRead : Type 0
TextsAreRead =
    (span : ℕ) (es : List SlotEntry) (rest : List ℕ) → span < 2 ^ 128 → length es < 2 ^ 32 → All IsTyped es
    → packed_at (packed_text span es ++ rest) ≡ Ok (es, rest)

-- what is read as some cells is their text
abbrev pub ReadingsAreTexts : Type 0
ReadingsAreTexts =
    (bytes : List ℕ) (es : List SlotEntry) (rest : List ℕ) → All (λ b. b < 2 ^ 8) bytes
    → packed_at bytes ≡ Ok (es, rest) → (span : ℕ) × bytes ≡ packed_text span es ++ rest

-- each cell is valid in its slot of an archive, and comes after the one before it
abbrev pub AreChecked : Layout → ℕ → Option SlotEntry → List SlotEntry → Type 0
AreChecked s archive before [] = Unit {0}
AreChecked s archive before (e ∷ es) =
    IsTrue (is_valid s archive e.0 e.1.contribution) × IsTrue (is_behind before e) × AreChecked s archive (Some e) es

-- what is taken from elsewhere is read as such cells
abbrev pub WhatIsTakenIsChecked : Type 0
WhatIsTakenIsChecked =
    (s : Layout) (archive : ℕ) (bytes : List ℕ) (es : List SlotEntry) → checked_cells_of s archive bytes ≡ Ok es
    → (cells_of bytes ≡ Ok es) × AreChecked s archive None es
