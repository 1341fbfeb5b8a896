-- What is known: a set of marks; only the live ones count.
use Rattle.std.specs.Prelude.{◌≡◌, ℕ, ◌<◌, Bool, not, IsTrue, List, ◌++◌, take, drop}
use Rattle.std.specs.Ordering.{eq_by_cmp}
use Rattle.std.specs.List.{filter, list_any}
use Rattle.std.specs.FinMap.{FinMap, keys, retain_keys, contains_key}
use Rattle.rr_schema.specs.Schema.{Layout}
use Rattle.rr_join.specs.Maps.{set_of}
use Rattle.rr_cells.specs.CellNames.{CellName, cell_name_cmp, is_live}
use Rattle.rr_cells.specs.Samples.{Sample, Mark, mark_cmp, name_of, names_of}

-- a finite set of marks
abbrev pub Knowledge : Type 0
Knowledge = FinMap mark_cmp (Unit {0})

-- whether the mark is known
abbrev pub knows : Knowledge → Mark → Bool
knows k m = contains_key k m

-- what either of the two knows
abbrev pub union : Knowledge → Knowledge → Knowledge
union k l = set_of (keys k ++ keys l)

-- what is known, with these marks added
abbrev pub with_marks : Knowledge → List Mark → Knowledge
with_marks k ms = union k (set_of ms)

-- each known mark of the sample's origin has a smaller number
abbrev pub IsAheadOf : Sample → Knowledge → Type 0
IsAheadOf x k = (m : Mark) → IsTrue (knows k m) → m.origin ≡ x.origin → m.number < x.number

-- whether a cell is not past the horizon of all that is known
abbrev pub is_live_in : Layout → Knowledge → CellName → Bool
is_live_in s k n = is_live s (names_of s (keys k)) n

-- the marks whose cells are not past the horizon
unfoldable pub live : Layout → Knowledge → Knowledge
live s k = retain_keys k (λ m. is_live_in s k (name_of s m))

-- the live marks of one name
unfoldable pub cell : Layout → Knowledge → CellName → Knowledge
cell s k n = retain_keys (live s k) (λ m. eq_by_cmp cell_name_cmp (name_of s m) n)

-- the names whose cells are not empty, ascending
unfoldable pub names : Layout → Knowledge → List CellName
names s k = keys (set_of {R = cell_name_cmp} (names_of s (keys (live s k))))

-- the live marks of the names that pass a test: whole cells
unfoldable pub cells_where : Layout → Knowledge → (CellName → Bool) → Knowledge
cells_where s k test = retain_keys (live s k) (λ m. test (name_of s m))

-- the whole cells of these names
abbrev pub cells_named : Layout → Knowledge → List CellName → Knowledge
cells_named s k ns = cells_where s k (λ n. list_any (eq_by_cmp cell_name_cmp n) ns)

-- the cells of at most `count` names, from an offset on
abbrev pub part : Layout → Knowledge → ℕ → ℕ → Knowledge
part s k from count = cells_named s k (take count (drop from (names s k)))

-- the names of k whose cells have a mark that is not live in l
unfoldable pub difference : Layout → Knowledge → Knowledge → List CellName
difference s k l = filter (λ n. list_any (λ m. not (knows (live s l) m)) (keys (cell s k n))) (names s k)
