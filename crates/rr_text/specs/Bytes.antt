-- Bytes of texts: their order, what is at their beginning, and which of them end a line.
use Rattle.std.specs.Prelude.{ℕ, Bool, false, ◌||◌, ◌==◌, List, [], ◌∷◌, Option, None, Some, IsFalse, if◌then◌else◌}
use Rattle.std.specs.Cmp.Lexicographic.{slice_cmp}
use Rattle.std.specs.List.{list_any}
use Rattle.std.specs.Ordering.{nat_cmp, is_eq}
use Rattle.std.specs.declared.cmp.Ordering.{Ordering}
use Rattle.rr_text.specs.declared.bytes.TheConstants.{LINE_FEED}

-- texts are ordered by their bytes
abbrev pub bytes_cmp : List ℕ → List ℕ → Ordering
bytes_cmp = slice_cmp nat_cmp

-- no byte of a text is a line feed
abbrev pub HasNoLineFeed : List ℕ → Type 0
HasNoLineFeed text = IsFalse (list_any (λ byte. byte == LINE_FEED) text)

-- whether a text begins with a byte
abbrev pub begins : ℕ → List ℕ → Bool
begins byte [] = false
begins byte (first ∷ rest) = first == byte

-- what follows a byte at the beginning
abbrev pub strip : ℕ → List ℕ → Option (List ℕ)
strip byte [] = None
strip byte (first ∷ rest) = if first == byte then Some rest else None

-- whether a text is among others
abbrev pub is_among : List ℕ → List (List ℕ) → Bool
is_among text others = list_any (λ other. is_eq (bytes_cmp other text)) others

-- whether a text occurs twice
abbrev pub has_repeat : List (List ℕ) → Bool
has_repeat [] = false
has_repeat (text ∷ texts) = is_among text texts || has_repeat texts
