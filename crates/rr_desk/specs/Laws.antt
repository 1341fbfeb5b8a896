-- The laws of a desk, each the contract of a function of `src/laws.rt`.
use Rattle.std.specs.Prelude.{◌≡◌, ◌≢◌, ℕ, ◌+◌, ◌≤◌, ℤ, true, List, [], ◌∷◌, ◌++◌, length, All, fold, Some, Ok}
use Rattle.std.specs.FinMap.{entries, len}
use mathlib.Core.List.{IsPrefix}
use mathlib.Core.Option.{some}
use lib.ListN.{get_elem?}
use Rattle.logbook.specs.Pages.{Book}
use Rattle.rr_text.specs.declared.limits.TheConstants.{MAX_NUMBER}
use Rattle.rr_schema.specs.Schema.{Layout, IsLayout}
use Rattle.rr_schema.specs.Added.{addition_since}
use Rattle.rr_schema.specs.declared.added.Addition.{Addition}
use Rattle.rr_point.specs.Point.{PointView}
use Rattle.rr_cells.specs.FetchText.{Request, fetch_text}
use Rattle.rr_cells.specs.Knowledge.{Knowledge}
use Rattle.rr_cells.specs.Samples.{Sample}
use Rattle.rr_cells.specs.World.{IsWritten}
use Rattle.rr_cells.specs.declared.cell.Cell.{Cell}
use Rattle.rr_cells.specs.declared.op.Op.{Op}
use Rattle.rr_cells.specs.declared.op.Op.TheVariants.{Join}
use Rattle.rr_cells.specs.CellBounds.{IsCellOf}
use Rattle.rr_cells.specs.ReplicaState.{ReplicaState, IsReplicaState}
use Rattle.rr_cells.specs.Listing.{owned_cell}
use Rattle.rr_cells.specs.Operations.{outcome_of, joins_of, step, to_cell, AllAccepted}
use Rattle.rr_cells.specs.State.{cells_of_knowledge}
use Rattle.rr_desk.specs.KeeperState.{KeeperState, keeper_at_opening, with_all_published, with_pending}
use Rattle.rr_delta.specs.Difference.{newer_cells}
use Rattle.rr_delta.specs.Names.{NamedVersion}
use Rattle.rr_fetch.specs.Answers.{cells_text}
use Rattle.rr_page.specs.Version.{latest}
use Rattle.rr_snapshot.specs.declared.heading.TheConstants.{MAX_SNAPSHOT_CELLS}
use Rattle.rr_snapshot.specs.Snapshot.{snapshot_text}
use Rattle.rr_cells.specs.Raising.{raised_knowledge}
use Rattle.rr_snapshot.specs.Loading.{loaded_at}
use Rattle.rr_desk.specs.Points.{with_put, with_puts}
use Rattle.rr_desk.specs.declared.rule.View.{View}
use Rattle.rr_desk.specs.declared.shown.CopyState.{CopyState}
use Rattle.rr_desk.specs.Rule.{Keeps}
use Rattle.rr_desk.specs.Histories.{HistoryStep, elsewhere, put, joined, HistoryState, Knows, IsHistory, HasHistory, IsHonest, IsWhole, AreHonest, list_of, ops_of, scene_after}

-- a replica that takes its own samples, and whole cells of closed knowledges, still has the cells of a knowledge
-- without gaps
abbrev pub OperationsAreKnown : Type 0
OperationsAreKnown =
    (h : ReplicaState) (z : HistoryState) (steps : List HistoryStep) → Knows h z → AreHonest h.schema h.origin z steps
    → AllAccepted h (ops_of steps)
    → Knows (fold step h (ops_of steps)) (scene_after h z steps)

-- so the operations of a desk make the cells of such a knowledge
abbrev pub ListsAreKnown : Type 0
ListsAreKnown = (h : ReplicaState) (z : HistoryState) (steps : List HistoryStep) → IsHistory h z steps
    → outcome_of h.schema (list_of h steps) ≡ cells_of_knowledge h.schema (scene_after h z steps).known

-- a reader that has seen a beginning of them has seen those of a beginning of what happened
abbrev pub BeginningsAreHistories : Type 0
BeginningsAreHistories =
    (h : ReplicaState) (z : HistoryState) (steps : List HistoryStep) (list : List Op) → IsHistory h z steps
    → IsPrefix (joins_of h.cells) list → IsPrefix list (list_of h steps)
    → (first : List HistoryStep) × IsPrefix first steps × IsHistory h z first × (list ≡ list_of h first)

-- it answers from exactly the samples that are known then
abbrev pub AnswersAreOfSamples : Type 0
AnswersAreOfSamples =
    (h : ReplicaState) (z : HistoryState) (steps : List HistoryStep) (q : Request) → IsHistory h z steps
    → cells_text h.schema (outcome_of h.schema (list_of h steps)) q
    ≡ fetch_text h.schema (scene_after h z steps).known q

-- and each cell that it gives, or that the keeper saves, is a whole live cell of a closed knowledge
abbrev pub CellsGivenAreWhole : Type 0
CellsGivenAreWhole =
    (h : ReplicaState) (z : HistoryState) (steps : List HistoryStep) (summary : List NamedVersion) → IsHistory h z steps
    → All (λ e. IsWhole h.schema (scene_after h z steps).world (scene_after h z steps).known (to_cell e))
    (newer_cells summary (entries (outcome_of h.schema (list_of h steps))))

abbrev pub CellsSavedAreWhole : Type 0
CellsSavedAreWhole =
    (h : ReplicaState) (z : HistoryState) (steps : List HistoryStep) → IsHistory h z steps
    → All (λ e. IsWhole h.schema (scene_after h z steps).world (scene_after h z steps).known (to_cell e))
    (entries (outcome_of h.schema (list_of h steps)))

-- ---- keepers

-- `open`, of a replica that has the cells of such a knowledge, gives a keeper to which nothing has happened
abbrev pub OpeningIsHistory : Type 0
OpeningIsHistory = (h : ReplicaState) (z : HistoryState) (b : Book) → Knows h z
    → HasHistory h z [] (keeper_at_opening h b)

-- `put`, if a number is left, is a step
abbrev pub PutIsAStep : Type 0
PutIsAStep =
    (h : ReplicaState) (z : HistoryState) (steps : List HistoryStep) (k : KeeperState) (key : List ℕ) (time value : ℤ)
    → HasHistory h z steps k → k.next ≤ MAX_NUMBER
    → HasHistory h z (steps ++ put (record {
      origin = k.origin;
      number = k.next;
      key = key;
      time = time;
      value =
          value;
    }) ∷ []) (with_put k key time value)

-- `write`, if as many numbers are left as there are fields, is some steps
abbrev pub WriteIsSteps : Type 0
WriteIsSteps =
    (h : ReplicaState) (z : HistoryState) (steps : List HistoryStep) (k : KeeperState) (p : PointView) (time : ℤ)
    (fields : List (List ℕ × ℤ)) → HasHistory h z steps k → k.next + length fields ≤ MAX_NUMBER + 1
    → (more : List HistoryStep) × HasHistory h z (steps ++ more) (with_puts k p time fields)

-- `join_cell`, of a whole cell of the schema, is a step
abbrev pub JoinIsAStep : Type 0
JoinIsAStep =
    (h : ReplicaState) (z : HistoryState) (steps : List HistoryStep) (k : KeeperState) (known : Knowledge) (c : Cell)
    → HasHistory h z steps k → IsCellOf k.schema (owned_cell c)
    → IsWhole h.schema (scene_after h z steps).world known c
    → HasHistory h z (steps ++ joined known c ∷ []) (with_pending k (Join c))

-- `publish` takes no step
abbrev pub PublishIsNoStep : Type 0
PublishIsNoStep = (h : ReplicaState) (z : HistoryState) (steps : List HistoryStep) (k : KeeperState)
    → HasHistory h z steps k → HasHistory h z steps (with_all_published k)

-- and what others write leaves the keeper as it is
abbrev pub OthersWrite : Type 0
OthersWrite =
    (h : ReplicaState) (z : HistoryState) (steps : List HistoryStep) (k : KeeperState) (x : Sample)
    → HasHistory h z steps k → IsHonest h.schema h.origin (scene_after h z steps) (elsewhere x)
    → HasHistory h z (steps ++ elsewhere x ∷ []) k

-- the snapshot of a replica with the cells of such a knowledge is loaded, under an origin that wrote nothing, as a
-- replica with these cells again
abbrev pub LoadedIsKnown : Type 0
LoadedIsKnown =
    (h : ReplicaState) (z : HistoryState) (origin : ℕ) → Knows h z → IsReplicaState h → len h.cells ≤ MAX_SNAPSHOT_CELLS
    → origin ≢ h.origin → ((x : Sample) → IsWritten z.world x → x.origin ≢ origin)
    → (new : ReplicaState) × (loaded_at h.schema origin (snapshot_text latest h.schema h.origin (entries h.cells))
    ≡ Ok new) × Knows new z

-- and under a schema with one more archive, as one of that schema, which has the cells of the same knowledge with the
-- numbers of archives raised
abbrev pub RaisedIsKnown : Type 0
RaisedIsKnown =
    (h : ReplicaState) (z : HistoryState) (s : Layout) (a : Addition) (origin : ℕ) → Knows h z → IsReplicaState h
    → IsLayout s → addition_since s h.schema ≡ Some a
    → len h.cells ≤ MAX_SNAPSHOT_CELLS → origin ≢ h.origin → ((x : Sample) → IsWritten z.world x → x.origin ≢ origin)
    → (new : ReplicaState) × (loaded_at s origin (snapshot_text latest h.schema h.origin (entries h.cells)) ≡ Ok new)
    × (new.schema ≡ s)
    × Knows new (record { world = z.world; known = raised_knowledge a z.known })

-- ---- the rule of the two copies

-- at each moment, each handle has seen a beginning of what the keeper has published, all of which the keeper has seen
abbrev pub SeenIsPublished : Type 0
SeenIsPublished =
    (x : CopyState) (views : List View) (handle writer : ℕ) (v w : View) → Keeps x views
    → get_elem? views handle ≡ some v → get_elem? views writer ≡ some w → w.writes ≡ true
    → IsPrefix v.seen w.seen
