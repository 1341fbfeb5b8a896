-- What contracts see of a keeper, and what always holds of it.
use Rattle.std.specs.Prelude.{◌≡◌, ℕ, Bool, true, List, [], ◌∷◌, ◌++◌, fold, length, take}
use Rattle.logbook.specs.Pages.{Book}
use Rattle.rr_schema.specs.Schema.{Layout}
use Rattle.rr_cells.specs.declared.op.Op.{Op}
use Rattle.rr_cells.specs.Cells.{Cells}
use Rattle.rr_cells.specs.ReplicaState.{ReplicaState}
use Rattle.rr_cells.specs.Operations.{outcome_of, with_op, step, joins_of, AllAccepted}
use Rattle.rr_desk.specs.declared.rule.View.{View}
use Rattle.rr_desk.specs.declared.change.Change.{Change}
use Rattle.rr_desk.specs.Changes.{Names, ops_in, prefix_after}
use Rattle.rr_desk.specs.Editions.{BookPrefix, flat, Begins}

-- a keeper: its desk; the schema, origin and next number of its own replica; the published operations, and the pending
-- ones; and how many of all, from the first on, are written
pub record KeeperState : Type 0 where
  pub desk : Book
  pub schema : Layout
  pub origin : ℕ
  pub next : ℕ
  pub published : List Op
  pub pending : List Op
  pub written : ℕ

-- the cells that all of its operations make
abbrev pub cells_of : KeeperState → Cells
cells_of k = outcome_of k.schema (k.published ++ k.pending)

-- and those that the written ones make
abbrev pub written_cells : KeeperState → Cells
written_cells k = outcome_of k.schema (take k.written (k.published ++ k.pending))

-- what its own replica holds
abbrev pub own_replica : KeeperState → ReplicaState
own_replica k = record { schema = k.schema; origin = k.origin; next = k.next; cells = cells_of k }

-- with one more operation pending
abbrev pub with_pending : KeeperState → Op → KeeperState
with_pending k op = record {
  desk = k.desk;
  schema = k.schema;
  origin = k.origin;
  next = (with_op (own_replica k) op).next;
  published = k.published;
  pending = k.pending ++ op ∷ [];
  written = k.written;
}

-- with all that is pending published
abbrev pub with_all_published : KeeperState → KeeperState
with_all_published k = record {
  desk = k.desk;
  schema = k.schema;
  origin = k.origin;
  next = k.next;
  published = k.published ++ k.pending;
  pending = [];
  written = k.written;
}

-- with all of its operations written
abbrev pub with_all_written : KeeperState → KeeperState
with_all_written k = record {
  desk = k.desk;
  schema = k.schema;
  origin = k.origin;
  next = k.next;
  published = k.published;
  pending = k.pending;
  written = length (k.published ++ k.pending);
}

-- a keeper that has opened a desk with what a replica holds, which counts as written
abbrev pub keeper_at_opening : ReplicaState → Book → KeeperState
keeper_at_opening h b = record {
  desk = b;
  schema = h.schema;
  origin = h.origin;
  next = h.next;
  published =
      joins_of h.cells;
  pending = [];
  written = length (joins_of h.cells);
}

-- ---- what always holds of keepers

-- the keeper's view fits the copy that is shown, and its own replica holds the pending operations too
pub record IsTied (v : View) (shown own : ReplicaState) (pending : List Op) : Type 0 where
  pub writes : v.writes ≡ true
  pub joined : v.joined ≡ true
  pub schema : v.schema ≡ own.schema
  pub cells : shown.cells ≡ outcome_of shown.schema v.seen
  pub accepted : AllAccepted shown pending
  pub applied : own ≡ fold step shown pending

-- the copy's book has what is published, and the keeper's has that and perhaps some of what is pending
pub record IsBooked (v : View) (copy all : BookPrefix) (pending : List Op) : Type 0 where
  pub copy_desk : copy.desk ≡ v.desk
  pub all_desk : all.desk ≡ v.desk
  pub shown : flat copy.editions ≡ v.seen
  pub whole : Begins (flat all.editions) (v.seen ++ pending)

-- the pending changes, read by these names, can be published: the last edition that ends among them has what is
-- published and all that is pending
pub record IsReady (v : View) (shown : ReplicaState) (n : Names) (prefix : BookPrefix) (cs : List Change) : Type 0 where
  pub writes : v.writes ≡ true
  pub joined : v.joined ≡ true
  pub accepted : AllAccepted shown (ops_in n cs)
  pub ended : flat (prefix_after prefix cs).editions ≡ v.seen ++ ops_in n cs
  pub desk : (prefix_after prefix cs).desk ≡ v.desk

-- what always holds of a keeper, with the names of its copies, the pending changes, and whether the last of these ends
-- an edition that has all
pub record IsKeeper (v : View) (shown : ReplicaState) (n : Names) (own : ReplicaState) (prefix all : BookPrefix)
    (cs : List Change) (ended : Bool) : Type 0 where
  pub tied : IsTied v shown own (ops_in n cs)
  pub booked : IsBooked v prefix all (ops_in n cs)
  pub ready : ended ≡ true → IsReady v shown n prefix cs
