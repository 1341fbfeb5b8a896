-- The keys that have a cell, each once, in order.
use Rattle.std.specs.Prelude.{ℕ, zero, suc, Bool, true, List, [], ◌∷◌, Option, None, Some}
use Rattle.std.specs.Borrow.{Bor}
use Rattle.std.specs.List.{find}
use Rattle.std.specs.Option.{option_map}
use Rattle.std.specs.Ordering.{is_lt}
use Rattle.rr_text.specs.Bytes.{bytes_cmp}
use Rattle.rr_cells.specs.CellBounds.{NamedCell}

-- a borrowed key, if there is one
abbrev pub lent_key : Option (Bor (List ℕ)) → Option (List ℕ)
lent_key lent = option_map (λ k. k.now) lent

-- whether a key comes after another; if there is no other, each does
abbrev pub is_behind : Option (List ℕ) → List ℕ → Bool
is_behind None key = true
is_behind (Some after) key = is_lt (bytes_cmp after key)

-- the first cell whose key comes after another
abbrev pub first_behind : Option (List ℕ) → List NamedCell → Option NamedCell
first_behind after es = find (λ e. is_behind after e.0.key) es

-- the key of a cell, and then those after it, at most as many as are wanted
unfoldable pub keys_from : Option NamedCell → ℕ → List NamedCell → List (List ℕ)
keys_from first zero es = []
keys_from None (suc n) es = []
keys_from (Some e) (suc n) es = e.0.key ∷ keys_from (first_behind (Some e.0.key) es) n es

-- the keys after one, at most as many as are wanted
abbrev pub keys_after : Option (List ℕ) → ℕ → List NamedCell → List (List ℕ)
keys_after after count es = keys_from (first_behind after es) count es
