-- Followers: a node that reads the journal of a peer part by part, and joins what comes, holds all that the peer held.
use Rattle.std.specs.Prelude.{◌≡◌, ◌⊎◌, ◌+◌, ◌-◌, ◌^◌, ◌<◌, ◌≤◌, ℕ, List, [], ◌∷◌, ◌++◌, drop, take, None, Ok, All, Contains}
use Rattle.std.specs.FinMap.{empty}
use Rattle.rr_schema.specs.Schema.{Layout, IsLayout}
use Rattle.rr_cells.specs.CellBounds.{IsCellOf}
use Rattle.rr_cells.specs.declared.cell.Cell.{Cell}
use Rattle.rr_cells.specs.declared.op.Op.{Op}
use Rattle.rr_cells.specs.Cells.{Cells, IsTrimmed}
use Rattle.rr_cells.specs.Listing.{owned_cell}
use Rattle.rr_cells.specs.Operations.{AllAccepted}
use Rattle.rr_changes.specs.Updates.{GoesOn, Holds, Write, AreWrites, last_cells, written_cells}
use Rattle.rr_changes.specs.Checkpoints.{Batch, GoesForward, walked}
use Rattle.rr_desk.specs.KeeperState.{KeeperState, cells_of, own_replica}
use Rattle.rr_journal.specs.declared.cursor.Cursor.{Cursor}
use Rattle.rr_journal.specs.Text.{AllFit, Raw, records_len, records_text}
use Rattle.rr_replication.specs.Reading.{after_part, peer_state}
use Rattle.rr_batch.specs.Peers.{joined_to}
use Rattle.rr_nodes.specs.Replays.{HaveAll}

-- a follower of a journal: its keeper, how far the journal is read, and the cells of it that aren't joined yet
pub record Follower : Type 0 where
  pub keeper : KeeperState
  pub place : Cursor
  pub waiting : List Cell

-- ---- a step

-- a part of a text that begins at an offset was read from the follower's place on, as the clauses of `Following::take`
-- say: its cells are of the schema, and wait behind the others
pub record HasReadOn (s : Layout) (begin : ℕ) (text : List ℕ) (f g : Follower) : Type 0 where
  pub len : ℕ
  pub read : after_part s (peer_state f.place f.waiting) (take len (drop (f.place.offset - begin) text))
      ≡ Ok (peer_state g.place g.waiting)
  pub of_schema : All (λ c. IsCellOf s (owned_cell c)) f.waiting → All (λ c. IsCellOf s (owned_cell c)) g.waiting
  pub keeper : g.keeper ≡ f.keeper

-- the first of the waiting cells were joined, as `join_cells` does
pub record HasJoinedFirst (f g : Follower) : Type 0 where
  pub count : ℕ
  pub joined : g.keeper ≡ joined_to f.keeper (take count f.waiting)
  pub waiting : g.waiting ≡ drop count f.waiting
  pub place : g.place ≡ f.place

-- the keeper did something else, and still holds all that it held
pub record HasGoneOn (s : Layout) (f g : Follower) : Type 0 where
  pub schema : g.keeper.schema ≡ f.keeper.schema
  pub held : Holds s (cells_of g.keeper) (cells_of f.keeper)
  pub waiting : g.waiting ≡ f.waiting
  pub place : g.place ≡ f.place

-- so it is if it took operations, its own samples and cells of others, whether or not it published them
abbrev pub KeepersGoOn : Type 0
KeepersGoOn =
    (f g : Follower) (ops : List Op) → GoesOn (own_replica f.keeper) → AllAccepted (own_replica f.keeper) ops
    → g.keeper.schema ≡ f.keeper.schema
    → g.keeper.published ++ g.keeper.pending ≡ (f.keeper.published ++ f.keeper.pending) ++ ops
    → g.waiting ≡ f.waiting → g.place ≡ f.place
    → HasGoneOn f.keeper.schema f g

abbrev pub Follows : Layout → ℕ → List ℕ → Follower → Follower → Type 0
Follows s begin text f g = HasReadOn s begin text f g ⊎ (HasJoinedFirst f g ⊎ HasGoneOn s f g)

-- ---- all steps

-- each of these, the newest first, comes by a step from one before it: from the last one, or, if the node was
-- restarted, from the one whose place was recorded
abbrev pub AreFollowers : Layout → ℕ → List ℕ → Follower → List Follower → Type 0
AreFollowers s begin text start [] = Unit {0}
AreFollowers s begin text start (g ∷ before) =
    ((f : Follower) × Contains (before ++ start ∷ []) f × Follows s begin text f g)
    × AreFollowers s begin text start before

-- it comes from a start by such steps, over the text of these records, which begins at a place
pub record HasFollowed (s : Layout) (begin : Cursor) (rs : List Raw) (start f : Follower) : Type 0 where
  pub followers : List Follower
  pub steps : AreFollowers s begin.offset (records_text begin.digest rs) start followers
  pub among : Contains (followers ++ start ∷ []) f

-- where it starts: nothing is read, and what is held is live
pub record IsStart (s : Layout) (begin : Cursor) (f : Follower) : Type 0 where
  pub place : f.place ≡ begin
  pub waiting : f.waiting ≡ []
  pub schema : f.keeper.schema ≡ s
  pub live : IsTrimmed s (cells_of f.keeper)

-- records that a journal may have from a place on
pub record CanStand (begin : Cursor) (rs : List Raw) : Type 0 where
  pub fit : AllFit rs
  pub short : begin.offset + records_len rs < 2 ^ 64

-- it is past these records, or further on, and no cell waits
pub record IsBehind (begin : Cursor) (rs : List Raw) (f : Follower) : Type 0 where
  pub offset : begin.offset + records_len rs ≤ f.place.offset
  pub waiting : f.waiting ≡ []

-- ---- what it holds

-- a follower from the beginning of a journal on, once it is past what was written there, holds all that the peer held
-- at the last of these writes
abbrev pub FollowersHoldAll : Type 0
FollowersHoldAll =
    (s : Layout) (begin : Cursor) (writes : List Write) (rs later : List Raw) (start f : Follower) → IsLayout s
    → AreWrites s empty writes → HaveAll s (written_cells writes) rs → CanStand begin (rs ++ later)
    → IsStart s begin start → HasFollowed s begin (rs ++ later) start f → IsBehind begin rs f
    → Holds s (cells_of f.keeper) (last_cells empty writes)

-- in the journal, where the checkpoint that it has read begins
abbrev pub from_checkpoint : Cursor → Follower → Follower
from_checkpoint begins f = record { keeper = f.keeper; place = begins; waiting = [] }

-- so does one that has first read all records of a checkpoint, whose cells were listed a number at a time while the
-- peer went on, and then the journal from where the checkpoint begins
abbrev pub CheckpointedHoldAll : Type 0
CheckpointedHoldAll =
    (s : Layout) (begins : Cursor) (m : Cells) (batches : List Batch) (last : Cells) (writes : List Write)
    (checkpoint rs later : List Raw) (start f g : Follower) → IsLayout s → IsTrimmed s m
    → GoesForward s m batches last → HaveAll s (walked None batches last) checkpoint → CanStand begins checkpoint
    → IsStart s begins start → HasFollowed s begins checkpoint start f → IsBehind begins checkpoint f
    → AreWrites s m writes → HaveAll s (written_cells writes) rs → CanStand begins (rs ++ later)
    → HasFollowed s begins (rs ++ later) (from_checkpoint begins f) g → IsBehind begins rs g
    → Holds s (cells_of g.keeper) (last_cells m writes)
