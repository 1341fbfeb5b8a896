-- Two schemas, one of which has the other's archives and one more.
use Rattle.std.specs.Prelude.{◌≡◌, ◌↔◌, ℕ, nat_eq, ◌==◌, ◌+◌, ◌<◌, ◌≤◌, Bool, List, ◌∷◌, ◌++◌, length, take, drop, map, Option, Some, None, if◌then◌else◌}
use Rattle.std.specs.Cmp.Lexicographic.{pointwise}
use Rattle.std.specs.List.{find, flat_map, range_with_len}
use Rattle.rr_schema.specs.declared.added.Addition.{Addition}
use Rattle.rr_schema.specs.declared.added.Addition.TheVariants.{Nothing, Archive}
use Rattle.rr_schema.specs.Schema.{Layout, IsLayout}
use Rattle.rr_schema.specs.SchemaBytes.{archive_bytes}

-- a list without its element with a number, from 0
abbrev pub without : {A : Type 0} → ℕ → List A → List A
without i xs = take i xs ++ drop (i + 1) xs

-- s has the step and the archives of t, and one archive more, whose number is i
pub record HasAdded (i : ℕ) (s t : Layout) : Type 0 where
  pub step : t.step ≡ s.step
  pub number : i < length s.archives
  pub others : t.archives ≡ without i s.archives

-- only one archive can be the one more
abbrev pub OneIsAdded : Type 0
OneIsAdded = (i j : ℕ) (s t : Layout) → IsLayout s → HasAdded i s t → HasAdded j s t → i ≡ j

-- what is left of a schema within its limits is within them too, if an archive is left
abbrev pub OneLessIsLayout : Type 0
OneLessIsLayout = (i : ℕ) (s t : Layout) → IsLayout s → HasAdded i s t → 1 ≤ length t.archives → IsLayout t

-- ---- nothing, or one archive

-- what may have been added to a schema: nothing, or one of its archives
abbrev pub IsAddition : Layout → Addition → Type 0
IsAddition s Nothing = Unit {0}
IsAddition s (Archive i) = i < length s.archives

-- all of these
abbrev pub additions : Layout → List Addition
additions s = Nothing ∷ map Archive (range_with_len 0 (length s.archives))

-- the older schema, before it was added
abbrev pub older : Layout → Addition → Layout
older s Nothing = s
older s (Archive i) = record { step = s.step; archives = without i s.archives }

-- whether these are the bytes of the archives before an addition
abbrev pub had_archives : Layout → List ℕ → Addition → Bool
had_archives s bytes a = pointwise nat_eq bytes (flat_map archive_bytes (older s a).archives)

-- what was added to an older schema, found by the bytes of its archives, if it is the schema before an addition
abbrev pub addition_since : Layout → Layout → Option Addition
addition_since s t = if t.step == s.step then find (had_archives s (flat_map archive_bytes t.archives))
    (additions s) else None

-- for schemas within their limits, an addition is found exactly if the older schema is the one before it
abbrev pub AdditionsAreFound : Type 0
AdditionsAreFound =
    (s t : Layout) (a : Addition) → IsLayout s → IsLayout t
    → (addition_since s t ≡ Some a) ↔ (IsAddition s a × (t ≡ older s a))
