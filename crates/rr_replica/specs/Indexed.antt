-- Keys and their archives, each at its index, and the indices in order of the keys.
use Rattle.std.specs.Prelude.{◌≡◌, ℕ, List, [], ◌∷◌, length, Option, None, Some, slice_get}
use Rattle.std.specs.Global.{Vec}
use Rattle.std.specs.List.{AllByRecursion}
use Rattle.std.specs.List.Sorted.{IsStrictlySortedBy}
use Rattle.std.specs.Map.{lookup, keys_of}
use Rattle.std.specs.BTreeMap.{is_at}
use Rattle.rr_text.specs.Bytes.{bytes_cmp}

-- the index of a key, if it has one
abbrev pub index_of : List (List ℕ × ℕ) → List ℕ → Option ℕ
index_of indices key = lookup (is_at (bytes_cmp key)) indices

module _ {X : Type 0} where
  -- other entries, with one of this key before them if it has archives
  abbrev pub with_entry : List ℕ → Option (Vec X) → List (List ℕ × Vec X) → List (List ℕ × Vec X)
  with_entry key None entries = entries
  with_entry key (Some archives) entries = (key, archives) ∷ entries

  -- the archives of each key, in order of the keys
  abbrev pub entries_at : List (List ℕ × ℕ) → List (Vec X) → List (List ℕ × Vec X)
  entries_at [] archives = []
  entries_at (e ∷ es) archives = with_entry e.0 (slice_get archives e.1) (entries_at es archives)

  -- the archives, or none
  abbrev pub items_of : Option (Vec X) → List X
  items_of None = []
  items_of (Some archives) = archives.items

  -- each key has an index, and its archives are at the same index
  pub record IsIndexed (keys : List (List ℕ)) (indices : List (List ℕ × ℕ)) (archives : List (Vec X)) : Type 0 where
    pub ordered : IsStrictlySortedBy bytes_cmp (keys_of indices)
    pub there : AllByRecursion (λ e. slice_get keys e.1 ≡ Some e.0) indices
    pub found : (i : ℕ) (key : List ℕ) → slice_get keys i ≡ Some key → index_of indices key ≡ Some i
    pub many : length archives ≡ length keys
