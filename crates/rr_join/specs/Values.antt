-- A map with a function applied to each of its values, and maps in memory as functions of a name.
use Rattle.std.specs.Prelude.{Option}
use Rattle.std.specs.declared.cmp.Ordering.{Ordering}
use Rattle.std.specs.Option.{option_map}
use Rattle.std.specs.BTreeMap.{BTreeMap, get_by}
use Rattle.std.specs.FinMap.{FinMap, get, keys}
use Rattle.rr_join.specs.Maps.{map_of}

-- the map with f of each value
unfoldable pub map_values : {N V W : Type 0} {R : N → N → Ordering} → (V → W) → FinMap R V → FinMap R W
map_values f m = map_of (keys m) (λ name. option_map f (get m name))

-- the value at the key with this name
abbrev pub get_called : {N K V : Type 0} → (N → N → Ordering) → (K → N) → BTreeMap K V → N → Option V
get_called R called m name = get_by (λ key. R name (called key)) m
