-- Several nodes, and what is done at them.
use Rattle.std.specs.Prelude.{ℕ, ◌+◌, ℤ, nat_le, List, [], ◌∷◌, fold, slice_get, Option, Some, None, if◌then◌else◌}
use Rattle.std.specs.Ordering.{nat_cmp}
use Rattle.std.specs.FinMap.{FinMap, empty, get, insert, contains_key}
use Rattle.rr_text.specs.declared.limits.TheConstants.{MAX_NUMBER}
use Rattle.rr_text.specs.Options.{◌>>=◌}
use Rattle.rr_schema.specs.Schema.{Layout}
use Rattle.rr_cells.specs.CellNames.{CellName}
use Rattle.rr_cells.specs.Samples.{Sample}

-- a node, which is a replica from when it is made or loaded: the number of its next sample, what it holds, and all that
-- it held before, the newest first
pub record Node (K : Type 0) : Type 0 where
  pub next : ℕ
  pub now : K
  pub before : List K

-- all nodes, by their origins
abbrev pub Nodes : Type 0 → Type 0
Nodes K = FinMap nat_cmp (Node K)

-- the moment this many changes ago at the node of an origin
pub record Moment : Type 0 where
  pub origin : ℕ
  pub ago : ℕ

-- what is done: a node is opened that holds nothing; a node writes a sample; it takes one cell of what some node held
-- at some moment, whether from a page or from a journal; a node is loaded with all that some node held at some moment
pub data Deed : Type 0 where
  opened : (origin : ℕ) → Deed
  wrote : (origin : ℕ) (key : List ℕ) (time value : ℤ) → Deed
  took : (origin : ℕ) (there : Moment) (name : CellName) → Deed
  loaded : (origin : ℕ) (there : Moment) → Deed

-- what deeds do with what a node holds: it starts with nothing, takes a sample, or takes one cell of what another
-- holds, after which its next number may be another; and a snapshot keeps what counts
pub record Model (K : Type 0) : Type 0 where
  pub nothing : K
  pub with_one : Layout → K → Sample → K
  pub with_cell : Layout → K → K → CellName → K
  pub next_past : ℕ → ℕ → K → CellName → ℕ
  pub kept : Layout → K → K

-- f of what is there, or else as it was
abbrev pub where_some : {X Y : Type 0} → Option X → Y → (X → Y) → Y
where_some None was f = was
where_some (Some x) was f = f x

module _ {K : Type 0} where
  -- all that a node ever held
  abbrev pub all_held : Node K → List K
  all_held n = n.now ∷ n.before

  -- what was held at a moment, if there was such a moment
  abbrev pub held_at : Nodes K → Moment → Option K
  held_at ns there = get ns there.origin >>= λ n. slice_get (all_held n) there.ago

  -- a node that then holds this
  abbrev pub holding : Node K → ℕ → K → Node K
  holding n next k = record { next = next; now = k; before = n.now ∷ n.before }

  -- one more node, unless its origin was used
  abbrev pub with_new : Nodes K → ℕ → K → Nodes K
  with_new ns origin k = if contains_key ns origin then ns else insert ns origin
      (record { next = 1; now = k; before = [] })

module _ {K : Type 0} (model : Model K) (s : Layout) where
  -- the sample takes the next number, if there is one
  abbrev pub written : ℕ → Node K → List ℕ → ℤ → ℤ → Node K
  written origin n key time value =
      if nat_le n.next MAX_NUMBER
      then holding n (n.next + 1) (model.with_one s n.now
      (record { time = time; origin = origin; number = n.next; key = key; value = value }))
      else n

  abbrev pub taken : ℕ → Node K → K → CellName → Node K
  taken origin n k name = holding n (model.next_past origin n.next k name) (model.with_cell s n.now k name)

  -- what cannot be done changes nothing
  abbrev pub after : Nodes K → Deed → Nodes K
  after ns (opened origin) = with_new ns origin model.nothing
  after ns (wrote origin key time value) = where_some (get ns origin) ns
      (λ n. insert ns origin (written origin n key time value))
  after ns (took origin there name) = where_some (get ns origin) ns
      (λ n. where_some (held_at ns there) ns (λ k. insert ns origin (taken origin n k name)))
  after ns (loaded origin there) = where_some (held_at ns there) ns (λ k. with_new ns origin (model.kept s k))

  -- the nodes after these deeds, starting from none
  abbrev pub after_all : List Deed → Nodes K
  after_all deeds = fold after empty deeds
