-- A text, cut into its lines and words.
use Rattle.std.specs.Prelude.{ℕ, ◌==◌, List, [], ◌∷◌, Bool, true, false}
use Rattle.std.specs.List.{slice_split, join_with_byte}
use Rattle.rr_text.specs.declared.bytes.TheConstants.{SPACE}

-- the parts of a text, separated by a delimiter
abbrev pub parts_of : ℕ → List ℕ → List (List ℕ)
parts_of delimiter text = slice_split (λ b. b == delimiter) text

-- the words of a text, separated by spaces
abbrev pub words_of : List ℕ → List (List ℕ)
words_of text = parts_of SPACE text

-- the text of these words
abbrev pub text_of : List (List ℕ) → List ℕ
text_of words = join_with_byte SPACE words

-- three words, no fewer and no more
abbrev pub are_three : List (List ℕ) → Bool
are_three (first ∷ second ∷ third ∷ []) = true
are_three _ = false
