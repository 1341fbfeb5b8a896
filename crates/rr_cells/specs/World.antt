-- All that was ever written, and what is known of it without a gap.
use Rattle.std.specs.Prelude.{◌≡◌, ℕ, ◌<◌, length, Some, IsTrue}
use Rattle.std.specs.declared.cmp.Ordering.{Ordering}
use Rattle.std.specs.Ordering.{ordering_then, nat_cmp}
use Rattle.std.specs.FinMap.{FinMap, get, insert}
use Rattle.rr_schema.specs.Schema.{Layout}
use Rattle.rr_cells.specs.Samples.{Sample, Mark, name_of}
use Rattle.rr_cells.specs.Knowledge.{Knowledge, knows, live}

-- by origin and number
abbrev pub id_cmp : ℕ × ℕ → ℕ × ℕ → Ordering
id_cmp a b = ordering_then (nat_cmp a.0 b.0) (nat_cmp a.1 b.1)

-- which sample each origin wrote under each number
abbrev pub World : Type 0
World = FinMap id_cmp Sample

-- the sample was written
abbrev pub IsWritten : World → Sample → Type 0
IsWritten w x = get w (x.origin, x.number) ≡ Some x

-- the world once this sample is written
abbrev pub with_sample : World → Sample → World
with_sample w x = insert w (x.origin, x.number) x

-- each sample that its origin wrote has a smaller number
abbrev pub IsNext : World → Sample → Type 0
IsNext w x = (y : Sample) → IsWritten w y → y.origin ≡ x.origin → y.number < x.number

-- a sample of the world, seen in an archive of the layout
abbrev pub IsMarkOf : Layout → World → Mark → Type 0
IsMarkOf s w m = IsWritten w m.sample × (m.archive < length s.archives)

-- what is known was written, and with each live mark, all earlier ones of its cell are known
pub record IsClosed (s : Layout) (w : World) (k : Knowledge) : Type 0 where
  pub written : (m : Mark) → IsTrue (knows k m) → IsMarkOf s w m
  pub earlier : (m other : Mark) → IsTrue (knows (live s k) m) → IsMarkOf s w other → name_of s other ≡ name_of s m
      → other.number < m.number → IsTrue (knows k other)

-- all marks of this origin are known
abbrev pub HoldsAllOf : Layout → World → Knowledge → ℕ → Type 0
HoldsAllOf s w k origin = (m : Mark) → IsMarkOf s w m → m.origin ≡ origin → IsTrue (knows k m)
