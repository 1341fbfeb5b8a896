-- Which archive answers a fetch, in the words of the rule.
use Rattle.std.specs.Prelude.{ℕ, ◌<◌, ◌≤◌, length}
use Rattle.rr_schema.specs.Schema.{Layout, span}

-- The archive i is the one with the greatest span that is not above the resolution; if each span is above it, the one
-- with the least span
pub record IsChoice (s : Layout) (resolution i : ℕ) : Type 0 where
  pub is_there : i < length s.archives
  pub greatest : (j : ℕ) → j < length s.archives → span s j ≤ resolution → span s i ≤ resolution
  pub widest : (j : ℕ) → j < length s.archives → span s j ≤ resolution → span s j ≤ span s i
  pub least : (j : ℕ) → j < length s.archives → resolution < span s i → span s i ≤ span s j
