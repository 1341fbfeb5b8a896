-- The calls of the keepers of several desks, as their contracts state them, each desk under an origin of its own.
use Rattle.std.specs.Prelude.{◌≡◌, ◌≢◌, ℕ, ◌+◌, ◌≤◌, ℤ, List, [], ◌∷◌, ◌++◌, length, map, fold, All, Some, None}
use Rattle.std.specs.Ordering.{nat_cmp}
use Rattle.std.specs.FinMap.{FinMap, empty, get, insert}
use mathlib.Core.List.{IsPrefix}
use Rattle.logbook.specs.Pages.{Book}
use Rattle.rr_text.specs.declared.limits.TheConstants.{MAX_NUMBER}
use Rattle.rr_schema.specs.Schema.{Layout, IsLayout}
use Rattle.rr_point.specs.Key.{key_text}
use Rattle.rr_point.specs.Point.{PointView}
use Rattle.rr_cells.specs.FetchText.{Request}
use Rattle.rr_cells.specs.declared.cell.Cell.{Cell}
use Rattle.rr_cells.specs.declared.op.Op.{Op}
use Rattle.rr_cells.specs.declared.op.Op.TheVariants.{Join}
use Rattle.rr_cells.specs.Cells.{Cells}
use Rattle.rr_cells.specs.ReplicaState.{ReplicaState}
use Rattle.rr_cells.specs.Listing.{owned_cell}
use Rattle.rr_cells.specs.Operations.{joins_of, outcome_of}
use Rattle.rr_desk.specs.KeeperState.{KeeperState, own_replica, keeper_at_opening, with_all_published, with_pending}
use Rattle.rr_fetch.specs.Answers.{cells_text}
use Rattle.rr_desk.specs.Points.{with_put, with_puts}
use Rattle.rr_desk.specs.ReaderState.{ReaderState, cells_seen, with_joined}
use Rattle.rr_nodes.specs.Nodes.{Deed, opened, wrote, took, loaded, where_some, held_at, after_all}
use Rattle.rr_nodes.specs.Models.{cell_model}
use Rattle.rr_nodes.specs.Keepers.{Answers, IsReaderOf}

-- a desk: the operations that it was opened with, and its keeper
pub record Desk : Type 0 where
  pub opening : List Op
  pub keeper : KeeperState

-- by the origins of their keepers
abbrev pub Desks : Type 0
Desks = FinMap nat_cmp Desk

-- a desk is opened with a new replica; its keeper puts a sample, joins a cell of what another desk's operations made,
-- up to one of them, or publishes; it closes the desk, and one is opened with its replica; a desk is opened with a
-- replica that is loaded from what another's operations made
pub data Call : Type 0 where
  opens : (origin : ℕ) (b : Book) → Call
  puts : (origin : ℕ) (key : List ℕ) (time value : ℤ) → Call
  joins : (origin there : ℕ) (list : List Op) (c : Cell) → Call
  publishes : (origin : ℕ) → Call
  reopens : (origin : ℕ) (b : Book) → Call
  loads : (origin there : ℕ) (list : List Op) (b : Book) → Call

-- a desk that is opened with what a replica holds
abbrev pub desk_of : ReplicaState → Book → Desk
desk_of h b = record { opening = joins_of h.cells; keeper = keeper_at_opening h b }

-- a replica of this origin that holds these cells and has written nothing
abbrev pub unwritten : Layout → ℕ → Cells → ReplicaState
unwritten s origin m = record { schema = s; origin = origin; next = 1; cells = m }

-- a desk with another keeper in place of its own
abbrev pub kept_by : Desk → KeeperState → Desk
kept_by d k = record { opening = d.opening; keeper = k }

abbrev pub with_keeper : Desks → ℕ → (KeeperState → KeeperState) → Desks
with_keeper ds origin f = where_some (get ds origin) ds (λ d. insert ds origin (kept_by d (f d.keeper)))

-- the desks after a call that succeeds
abbrev pub called : Layout → Desks → Call → Desks
called s ds (opens origin b) = insert ds origin (desk_of (unwritten s origin empty) b)
called s ds (puts origin key time value) = with_keeper ds origin (λ k. with_put k key time value)
called s ds (joins origin there list c) = with_keeper ds origin (λ k. with_pending k (Join c))
called s ds (publishes origin) = with_keeper ds origin with_all_published
called s ds (reopens origin b) = where_some (get ds origin) ds
    (λ d. insert ds origin (desk_of (own_replica d.keeper) b))
called s ds (loads origin there list b) = insert ds origin (desk_of (unwritten s origin (outcome_of s list)) b)

-- the list is a beginning of a desk's operations, from its opening on
pub record HasBegun (ds : Desks) (there : ℕ) (list : List Op) : Type 0 where
  pub desk : Desk
  pub is_there : get ds there ≡ Some desk
  pub opened : IsPrefix desk.opening list
  pub begins : IsPrefix list (desk.keeper.published ++ desk.keeper.pending)

-- a keeper that puts a sample is there and has a number left
pub record HasNumber (ds : Desks) (origin : ℕ) : Type 0 where
  pub desk : Desk
  pub is_there : get ds origin ≡ Some desk
  pub few : desk.keeper.next ≤ MAX_NUMBER

-- a call may be made: no origin is used again, and a cell or a snapshot is of what another desk has
abbrev pub MayCall : Layout → Desks → Call → Type 0
MayCall s ds (opens origin b) = get ds origin ≡ None
MayCall s ds (puts origin key time value) = HasNumber ds origin
MayCall s ds (joins origin there list c) = ((d : Desk) × (get ds origin ≡ Some d)) × HasBegun ds there list
    × (get (outcome_of s list) (owned_cell c).0 ≡ Some c.contribution)
MayCall s ds (publishes origin) = (d : Desk) × (get ds origin ≡ Some d)
MayCall s ds (reopens origin b) = (d : Desk) × (get ds origin ≡ Some d)
MayCall s ds (loads origin there list b) = (get ds origin ≡ None) × HasBegun ds there list

abbrev pub MayCallAll : Layout → Desks → List Call → Type 0
MayCallAll s ds [] = Unit {0}
MayCallAll s ds (c ∷ cs) = MayCall s ds c × MayCallAll s (called s ds c) cs

-- ---- calls that are several

-- a write is a put for each field
abbrev pub puts_of : ℕ → PointView → ℤ → List (List ℕ × ℤ) → List Call
puts_of origin p time fields = map (λ field. puts origin (key_text p field.0) time field.1) fields

-- and taking a page is a join for each cell
abbrev pub joins_of_page : ℕ → ℕ → List Op → List Cell → List Call
joins_of_page origin there list cells = map (λ c. joins origin there list c) cells

-- the calls may be made, one after the other, and leave this desk with this keeper
pub record Leave (s : Layout) (ds : Desks) (origin : ℕ) (d : Desk) (calls : List Call) (k : KeeperState) : Type 0 where
  pub may : MayCallAll s ds calls
  pub keeper : fold (called s) ds calls ≡ insert ds origin (kept_by d k)

abbrev pub WritesArePuts : Type 0
WritesArePuts =
    (s : Layout) (ds : Desks) (origin : ℕ) (d : Desk) (p : PointView) (time : ℤ) (fields : List (List ℕ × ℤ))
    → get ds origin ≡ Some d → d.keeper.next + length fields ≤ MAX_NUMBER + 1
    → Leave s ds origin d (puts_of origin p time fields) (with_puts d.keeper p time fields)

abbrev pub PagesAreJoins : Type 0
PagesAreJoins =
    (s : Layout) (ds : Desks) (origin there : ℕ) (d : Desk) (list : List Op) (cells : List Cell)
    → get ds origin ≡ Some d → there ≢ origin → HasBegun ds there list
    → All (λ c. get (outcome_of s list) (owned_cell c).0 ≡ Some c.contribution) cells
    → Leave s ds origin d (joins_of_page origin there list cells) (with_joined d.keeper cells)

-- ---- which deeds the calls are

-- the moment at which a node held what these operations make
pub record Moments (s : Layout) (before : List Deed) (there : ℕ) (list : List Op) : Type 0 where
  pub ago : ℕ
  pub was : held_at (after_all cell_model s before) (record { origin = there; ago = ago }) ≡ Some (outcome_of s list)

-- the deeds of a call, after these before it
abbrev pub IsDeedOf : Layout → List Deed → Call → List Deed → Type 0
IsDeedOf s before (opens origin b) done = done ≡ opened origin ∷ []
IsDeedOf s before (puts origin key time value) done = done ≡ wrote origin key time value ∷ []
IsDeedOf s before (joins origin there list c) done =
    (at : Moments s before there list) × (done ≡ took origin (record { origin = there; ago = at.ago }) (owned_cell c).0
    ∷ [])
IsDeedOf s before (publishes origin) done = done ≡ []
IsDeedOf s before (reopens origin b) done = done ≡ []
IsDeedOf s before (loads origin there list b) done =
    (at : Moments s before there list) × (done ≡ loaded origin (record { origin = there; ago = at.ago }) ∷ [])

abbrev pub AreDeedsOf : Layout → List Deed → List Call → List Deed → Type 0
AreDeedsOf s before [] done = done ≡ []
AreDeedsOf s before (c ∷ cs) done = (first : List Deed) × (rest : List Deed) × IsDeedOf s before c first
    × AreDeedsOf s (before ++ first) cs rest × (done ≡ first ++ rest)

-- each reader of each desk answers from exactly the marks that had reached its node when the node had the operations
-- that the reader has seen
pub record AnswersBy (s : Layout) (calls : List Call) (deeds : List Deed) : Type 0 where
  pub deeds_are : AreDeedsOf s [] calls deeds
  pub answers : (origin : ℕ) (d : Desk) (r : ReaderState) (later : List Op) (q : Request)
      → get (fold (called s) empty calls) origin ≡ Some d → IsReaderOf d.opening d.keeper r
      → r.list ++ later ≡ d.keeper.published ++ d.keeper.pending
      → Answers s deeds (record { origin = origin; ago = length later }) q (cells_text r.schema (cells_seen r) q)

-- so it is, whatever calls are made at any number of desks
abbrev pub CallsAnswerFromSamples : Type 0
CallsAnswerFromSamples = (s : Layout) (calls : List Call) → IsLayout s → MayCallAll s empty calls
    → (deeds : List Deed) × AnswersBy s calls deeds
