-- The laws of several nodes, each the contract of a function of `src/laws.rt`.
use Rattle.std.specs.Prelude.{◌≡◌, ℕ, ◌<◌, ◌≤◌, List, map, is_some, IsTrue, Some, All, Contains}
use Rattle.std.specs.Option.{option_map}
use Rattle.std.specs.FinMap.{get, entries}
use Rattle.std.specs.List.{AllByRecursion}
use Rattle.rr_text.specs.declared.limits.TheConstants.{MAX_NUMBER}
use Rattle.rr_text.specs.Text.{fits_i64}
use Rattle.rr_schema.specs.Origin.{IsOrigin}
use Rattle.rr_schema.specs.Schema.{Layout, IsLayout}
use Rattle.rr_join.specs.Values.{map_values}
use Rattle.rr_key.specs.Series.{IsKeyText}
use Rattle.rr_cells.specs.FetchText.{Request, fetch_text}
use Rattle.rr_cells.specs.Knowledge.{Knowledge, live}
use Rattle.rr_cells.specs.Samples.{Sample}
use Rattle.rr_cells.specs.World.{World, IsWritten, IsClosed, HoldsAllOf}
use Rattle.rr_cells.specs.CellBounds.{IsCellOf}
use Rattle.rr_cells.specs.Cells.{Cells}
use Rattle.rr_cells.specs.State.{cells_of_knowledge}
use Rattle.rr_fetch.specs.Answers.{cells_text}
use Rattle.rr_nodes.specs.Nodes.{Node, Nodes, Moment, Deed, opened, wrote, took, loaded, held_at, all_held, after_all}
use Rattle.rr_nodes.specs.Models.{cell_model, sample_model}

-- a node, with the cells of the marks that it holds and held
abbrev pub node_in_cells : Layout → Node Knowledge → Node Cells
node_in_cells s n = record {
  next = n.next;
  now = cells_of_knowledge s n.now;
  before =
      map (cells_of_knowledge s) n.before;
}

abbrev pub in_cells : Layout → Nodes Knowledge → Nodes Cells
in_cells s ns = map_values (node_in_cells s) ns

-- whatever is done, the nodes have and had the cells of the marks that reached them
abbrev pub NodesAreOfSamples : Type 0
NodesAreOfSamples = (s : Layout) (deeds : List Deed) → IsLayout s
    → after_all cell_model s deeds ≡ in_cells s (after_all sample_model s deeds)

-- so a fetch from what a node held at any moment is answered from exactly these marks
abbrev pub FetchesAreOfSamples : Type 0
FetchesAreOfSamples =
    (s : Layout) (deeds : List Deed) (at : Moment) (q : Request) → IsLayout s
    → option_map (λ m. cells_text s m q) (held_at (after_all cell_model s deeds) at)
    ≡ option_map (λ k. fetch_text s k q) (held_at (after_all sample_model s deeds) at)

-- and at two moments of any nodes, if the same live marks are known, the cells are the same
abbrev pub MomentsAnswerAlike : Type 0
MomentsAnswerAlike =
    (s : Layout) (deeds : List Deed) (a b : Moment) → IsLayout s
    → option_map (live s) (held_at (after_all sample_model s deeds) a)
    ≡ option_map (live s) (held_at (after_all sample_model s deeds) b)
    → held_at (after_all cell_model s deeds) a ≡ held_at (after_all cell_model s deeds) b

-- ---- what keeps it so

-- whatever a node ever held of what was written lacks nothing before it; each node holds all that its origin wrote, and
-- its next number, from 1, is past that; only nodes wrote
pub record IsSound (s : Layout) (w : World) (ns : Nodes Knowledge) : Type 0 where
  pub closed : (origin : ℕ) (n : Node Knowledge) → get ns origin ≡ Some n → AllByRecursion (IsClosed s w) (all_held n)
  pub own : (origin : ℕ) (n : Node Knowledge) → get ns origin ≡ Some n → HoldsAllOf s w n.now origin
  pub past : (origin : ℕ) (n : Node Knowledge) → get ns origin ≡ Some n → (x : Sample) → IsWritten w x
      → x.origin ≡ origin → x.number < n.next
  pub some_number : (origin : ℕ) (n : Node Knowledge) → get ns origin ≡ Some n → 1 ≤ n.next
  pub written : (x : Sample) → IsWritten w x → IsTrue (is_some (get ns x.origin))

-- only deeds wrote, under numbers from 1 to 2^40
abbrev pub IsByDeeds : List Deed → World → Type 0
IsByDeeds deeds w = (x : Sample) → IsWritten w x
    → Contains deeds (wrote x.origin x.key x.time x.value) × (1 ≤ x.number) × (x.number ≤ MAX_NUMBER)

-- so it is, whatever is done
abbrev pub PremisesAreKept : Type 0
PremisesAreKept = (s : Layout) (deeds : List Deed) → IsLayout s
    → (w : World) × IsSound s w (after_all sample_model s deeds) × IsByDeeds deeds w

-- a written sample has an origin and a key text, and a time and a value of 64 bits
abbrev pub IsWithinLimits : Deed → Type 0
IsWithinLimits (opened origin) = Unit {0}
IsWithinLimits (wrote origin key time value) = IsOrigin origin × IsKeyText key × IsTrue (fits_i64 time)
    × IsTrue (fits_i64 value)
IsWithinLimits (took origin there name) = Unit {0}
IsWithinLimits (loaded origin there) = Unit {0}

-- so all that was ever held are cells of the schema
abbrev pub HeldAreOfTheSchema : Type 0
HeldAreOfTheSchema =
    (s : Layout) (deeds : List Deed) (at : Moment) (m : Cells) → IsLayout s → All IsWithinLimits deeds
    → held_at (after_all cell_model s deeds) at ≡ Some m
    → All (IsCellOf s) (entries m)
