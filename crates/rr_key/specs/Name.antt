-- The names of a key.
use Rattle.std.specs.Prelude.{◌≡◌, ℕ, Bool, true, false, ◌&&◌, ◌||◌, not, ◌==◌, List, [], ◌∷◌, length}
use Rattle.std.specs.List.{list_any}
use Rattle.rr_key.specs.declared.class.Class.{Class}
use Rattle.rr_text.specs.declared.bytes.TheConstants.{BACKSLASH, LINE_FEED}
use Rattle.rr_key.specs.Class.{is_special}

-- a name without bytes
abbrev pub is_empty : List ℕ → Bool
is_empty name = length name == 0

-- whether the last byte is a backslash
abbrev pub ends_in_backslash : List ℕ → Bool
ends_in_backslash [] = false
ends_in_backslash (byte ∷ []) = byte == BACKSLASH
ends_in_backslash (byte ∷ next ∷ rest) = ends_in_backslash (next ∷ rest)

-- a name with a line feed, or that ends in a backslash
abbrev pub is_bad : List ℕ → Bool
is_bad name = list_any (λ byte. byte == LINE_FEED) name || ends_in_backslash name

-- whether it may be a name of a key
abbrev pub is_name : List ℕ → Bool
is_name name = not (is_empty name) && not (is_bad name)

-- what may follow a written name: nothing, or a special byte that the name does not take
abbrev pub MayFollow : Class → List ℕ → List ℕ → Type 0
MayFollow class name [] = Unit {0}
MayFollow class name (byte ∷ rest) = (is_special class byte ≡ true) × (ends_in_backslash name ≡ false)
