-- Series by their numbers, counted from 0 in the order in which their keys came.
use Rattle.std.specs.Prelude.{ℕ, ℤ, Bool, cond, List, [], ◌∷◌, ◌++◌, Option, None, Some, slice_get}
use Rattle.std.specs.List.{list_any}
use Rattle.std.specs.BTreeMap.{is_at}
use Rattle.rr_text.specs.Bytes.{bytes_cmp}
use Rattle.rr_cells.specs.declared.op.Op.{Op}
use Rattle.rr_cells.specs.declared.op.Op.TheVariants.{Put}

-- whether a key is one of these
abbrev pub knows : List (List ℕ) → List ℕ → Bool
knows keys key = list_any (is_at (bytes_cmp key)) keys

-- with one more key, unless it is one of them
abbrev pub with_key : List (List ℕ) → List ℕ → List (List ℕ)
with_key keys key = cond (knows keys key) keys (keys ++ key ∷ [])

-- the put of a sample of a key, if there is a key
abbrev pub put_of : ℕ → ℕ → ℤ → ℤ → Option (List ℕ) → List Op
put_of origin number time value None = []
put_of origin number time value (Some key) =
    Put (record { origin = origin; number = number; key = key; time = time; value = value }) ∷ []

-- the put of a sample of the series with this number, if there is one
abbrev pub puts_at : List (List ℕ) → ℕ → ℕ → ℕ → ℤ → ℤ → List Op
puts_at keys origin series number time value = put_of origin number time value (slice_get keys series)
