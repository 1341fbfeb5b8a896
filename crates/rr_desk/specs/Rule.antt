-- The rule of the two copies: what readers have seen and been told, and what the keeper has published, are beginnings
-- of one list.
use Rattle.std.specs.Prelude.{◌≡◌, ℕ, true, false, ◌||◌, if◌then◌else◌, List, [], ◌++◌}
use mathlib.Core.Option.{some}
use mathlib.Core.List.{IsPrefix}
use lib.ListN.{get_elem?}
use Rattle.logbook.specs.Pages.{Book}
use Rattle.rr_schema.specs.Schema.{Layout}
use Rattle.rr_cells.specs.declared.op.Op.{Op}
use Rattle.rr_cells.specs.ReplicaState.{ReplicaState}
use Rattle.rr_cells.specs.Operations.{joins_of, outcome_of}
use Rattle.rr_desk.specs.declared.rule.View.{View}
use Rattle.rr_desk.specs.declared.shown.CopyState.{CopyState}
use Rattle.rr_desk.specs.Editions.{flat}

abbrev pub no_desk : Book
no_desk = record { number = 0; log_name = 0; cells_name = 0 }

abbrev pub no_layout : Layout
no_layout = record { step = 0; archives = [] }

-- the view of a handle that knows nothing yet
abbrev pub newcomer : View
newcomer = record { writes = false; joined = false; schema = no_layout; desk = no_desk; seen = []; told = [] }

-- the copy may be read: it is of this schema and this desk
pub record IsShown (x : CopyState) (s : Layout) (b : Book) : Type 0 where
  pub started : x.started ≡ true
  pub schema : x.held.schema ≡ s
  pub desk : x.prefix.desk ≡ b

-- what the keeper knows: it has seen all that is published
pub record IsWriter (x : CopyState) (list : List Op) (writer handle : ℕ) (v : View) : Type 0 where
  pub started : x.started ≡ true
  pub alone : handle ≡ writer
  pub all : v.seen ≡ list

-- what a handle knows is true of the copy and of the list that the handle `writer` has published
pub record Fits (x : CopyState) (list : List Op) (writer handle : ℕ) (v : View) : Type 0 where
  pub seen : IsPrefix v.seen list
  pub told : IsPrefix v.told list
  pub joined : v.joined ≡ true → IsShown x v.schema v.desk
  pub writes : v.writes ≡ true → IsWriter x list writer handle v

-- the copy's cells are what these operations make, and its book has just these
pub record IsOutcome (x : CopyState) (list : List Op) : Type 0 where
  pub cells : x.held.cells ≡ outcome_of x.held.schema list
  pub book : flat x.prefix.editions ≡ list

-- there is one list: the copy is its outcome, and all that handles have seen and been told are beginnings of it
pub record Keeps (x : CopyState) (views : List View) : Type 0 where
  pub list : List Op
  pub writer : ℕ
  pub unopened : x.started ≡ false → list ≡ []
  pub outcome : x.started ≡ true → IsOutcome x list
  pub each : (handle : ℕ) (v : View) → get_elem? views handle ≡ some v → Fits x list writer handle v

-- ---- what steps tell

-- all but what was seen is as before
pub record IsSameHandle (v w : View) : Type 0 where
  pub writes : w.writes ≡ v.writes
  pub joined : w.joined ≡ v.joined
  pub schema : w.schema ≡ v.schema
  pub desk : w.desk ≡ v.desk
  pub told : w.told ≡ v.told

-- a reader enters: what it then has seen begins with all that it had seen and was told, and the copy is its outcome
pub record Sees (v : View) (x : CopyState) (w : View) : Type 0 where
  pub seen : IsPrefix v.seen w.seen
  pub told : IsPrefix v.told w.seen
  pub outcome : v.joined ≡ true → IsOutcome x w.seen
  pub shown : v.joined ≡ true → IsShown x v.schema v.desk
  pub same : IsSameHandle v w

-- the keeper's view when it opens a desk with what a replica holds
abbrev pub keeper_of : ReplicaState → Book → View
keeper_of h b = record { writes = true; joined = true; schema = h.schema; desk = b; seen = joins_of h.cells; told = [] }

-- a view with more operations published
abbrev pub with_published : View → List Op → View
with_published v more = record {
  writes = v.writes;
  joined = v.joined;
  schema = v.schema;
  desk = v.desk;
  seen = v.seen ++ more;
  told = v.told;
}

-- what the keeper tells of its view
abbrev pub telling_of : View → View
telling_of v = record { writes = false; joined = v.joined; schema = v.schema; desk = v.desk; seen = v.seen; told = [] }

-- the view v, told what w has seen
abbrev pub with_news : View → View → View
with_news v w = record {
  writes = v.writes;
  joined = v.joined || w.joined;
  schema = if v.joined then v.schema else w.schema;
  desk = if v.joined then v.desk else w.desk;
  seen = v.seen;
  told = w.seen;
}

-- what is seen begins with what was seen
pub record Saw (v w : View) : Type 0 where
  pub seen : IsPrefix v.seen w.seen
  pub same : IsSameHandle v w

-- it was read under the rule, and this holds of the answer
pub record Reads (v w : View) (Answer : Type 0) : Type 0 where
  pub seen : Saw v w
  pub answer : Answer

-- what is seen begins with what was seen, and with what was told
pub record Looked (v w : View) : Type 0 where
  pub seen : IsPrefix v.seen w.seen
  pub told : IsPrefix v.told w.seen
  pub same : IsSameHandle v w
