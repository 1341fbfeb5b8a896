-- What a script has made so far, in either model.
use Rattle.std.specs.Prelude.{ℕ, ℤ, pos, List, [], ◌∷◌, Option, None}
use Rattle.std.specs.FinMap.{FinMap, empty, insert}
use Rattle.rr_text.specs.Bytes.{bytes_cmp}
use Rattle.rr_schema.specs.Schema.{Layout}
use Rattle.rr_cells.specs.World.{World}

-- a node: its schema, its origin, the number of its next sample, and what it holds
pub record Node (K : Type 0) : Type 0 where
  pub schema : Layout
  pub origin : ℕ
  pub next : ℕ
  pub contents : K

-- a snapshot: the schema and the origin of the node that was saved, and what it held
pub record Snapshot (K : Type 0) : Type 0 where
  pub schema : Layout
  pub origin : ℕ
  pub contents : K

-- the schema, the clock and the lead, the nodes, the pages and the snapshots by their names, the origins that were
-- used, and all that was written; a page holds what a node can hold
pub record State (K : Type 0) : Type 0 where
  pub schema : Layout
  pub clock : ℤ
  pub lead : Option ℕ
  pub nodes : FinMap bytes_cmp (Node K)
  pub pages : FinMap bytes_cmp K
  pub snapshots : FinMap bytes_cmp (Snapshot K)
  pub origins : List ℕ
  pub world : World

-- once the schema is set
abbrev pub first_state : {K : Type 0} → Layout → State K
first_state s = record {
  schema = s;
  clock = pos 0;
  lead = None;
  nodes = empty;
  pages = empty;
  snapshots =
      empty;
  origins = [];
  world = empty;
}

-- with a node under a name, whose origin is used from then on; it replaces one of that name
abbrev pub with_node : {K : Type 0} → State K → List ℕ → Node K → State K
with_node m name n = record m { nodes = insert m.nodes name n; origins = n.origin ∷ m.origins }

-- with a page under a name; it replaces one of that name
abbrev pub with_page : {K : Type 0} → State K → List ℕ → K → State K
with_page m name page = record m { pages = insert m.pages name page }
