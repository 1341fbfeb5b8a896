-- Keepers and readers of desks are nodes and moments of them: what their calls do is what deeds do.
use Rattle.std.specs.Prelude.{◌≡◌, ℕ, ◌+◌, ◌≤◌, ℤ, List, ◌++◌, length, fold, slice_get, All, Some}
use Rattle.std.specs.FinMap.{get}
use mathlib.Core.List.{IsPrefix}
use Rattle.logbook.specs.Pages.{Book}
use Rattle.rr_text.specs.declared.limits.TheConstants.{MAX_NUMBER}
use Rattle.rr_schema.specs.Schema.{Layout, IsLayout}
use Rattle.rr_point.specs.Key.{key_text}
use Rattle.rr_point.specs.Point.{PointView}
use Rattle.rr_cells.specs.FetchText.{Request, fetch_text}
use Rattle.rr_cells.specs.Knowledge.{Knowledge, live}
use Rattle.rr_cells.specs.declared.cell.Cell.{Cell}
use Rattle.rr_cells.specs.declared.op.Op.{Op}
use Rattle.rr_cells.specs.declared.op.Op.TheVariants.{Join}
use Rattle.rr_cells.specs.Cells.{Cells, IsTrimmed}
use Rattle.rr_cells.specs.ReplicaState.{ReplicaState, IsReplicaState}
use Rattle.rr_cells.specs.Listing.{owned_cell}
use Rattle.rr_cells.specs.Operations.{joins_of, outcome_of}
use Rattle.rr_desk.specs.KeeperState.{KeeperState, cells_of, own_replica, keeper_at_opening, with_all_published, with_pending}
use Rattle.rr_fetch.specs.Answers.{cells_text}
use Rattle.rr_desk.specs.Points.{with_put, with_puts}
use Rattle.rr_desk.specs.ReaderState.{ReaderState, cells_seen, with_joined}
use Rattle.rr_nodes.specs.Nodes.{Node, Moment, Deed, all_held, held_at, written, taken, after_all}
use Rattle.rr_nodes.specs.Models.{cell_model, sample_model}

-- a keeper whose desk was opened with these operations is this node: it has the node's next number and cells, and what
-- a beginning of its operations makes, from the opening on, is what the node held as many changes ago as operations
-- came after it
pub record IsNode (opening : List Op) (k : KeeperState) (n : Node Cells) : Type 0 where
  pub next : k.next ≡ n.next
  pub now : cells_of k ≡ n.now
  pub began : IsPrefix opening k.published
  pub held : (list later : List Op) → IsPrefix opening list → list ++ later ≡ k.published ++ k.pending
      → slice_get (all_held n) (length later) ≡ Some (outcome_of k.schema list)

-- ---- the calls of a keeper

-- `open`, of what a replica holds, is a node that holds this: a new one, or the one that it was before its desk was
-- closed
abbrev pub OpeningIsANode : Type 0
OpeningIsANode =
    (h : ReplicaState) (b : Book) (n : Node Cells) → IsLayout h.schema → IsTrimmed h.schema h.cells → h.next ≡ n.next
    → h.cells ≡ n.now
    → IsNode (joins_of h.cells) (keeper_at_opening h b) n

-- `put`, if a number is left, is a sample that the node writes
abbrev pub PutIsADeed : Type 0
PutIsADeed =
    (opening : List Op) (k : KeeperState) (n : Node Cells) (key : List ℕ) (time value : ℤ) → k.next ≤ MAX_NUMBER
    → IsNode opening k n
    → IsNode opening (with_put k key time value) (written cell_model k.schema k.origin n key time value)

-- `write`, if as many numbers are left as a point has fields, is a sample for each field, in order; or, if memory ran
-- out, for the first fields
abbrev pub WriteIsDeeds : Type 0
WriteIsDeeds =
    (opening : List Op) (k : KeeperState) (n : Node Cells) (p : PointView) (time : ℤ) (fields : List (List ℕ × ℤ))
    → k.next + length fields ≤ MAX_NUMBER + 1 → IsNode opening k n
    → IsNode opening (with_puts k p time fields) (fold
    (λ o field. written cell_model k.schema k.origin o (key_text p field.0) time field.1) n fields)

-- `join_cell`, of a cell among others, takes that cell from them
abbrev pub JoinIsADeed : Type 0
JoinIsADeed =
    (opening : List Op) (k : KeeperState) (n : Node Cells) (there : Cells) (c : Cell)
    → get there (owned_cell c).0 ≡ Some c.contribution → IsNode opening k n
    → IsNode opening (with_pending k (Join c)) (taken cell_model k.schema k.origin n there (owned_cell c).0)

-- and so it is with the cells of a page, in order
abbrev pub PageIsDeeds : Type 0
PageIsDeeds =
    (opening : List Op) (k : KeeperState) (n : Node Cells) (there : Cells) (cells : List Cell)
    → All (λ c. get there (owned_cell c).0 ≡ Some c.contribution) cells → IsNode opening k n
    → IsNode opening (with_joined k cells) (fold (λ o c. taken cell_model k.schema k.origin o there (owned_cell c).0) n
    cells)

-- `publish` leaves the node as it is
abbrev pub PublishIsNone : Type 0
PublishIsNone = (opening : List Op) (k : KeeperState) (n : Node Cells) → IsNode opening k n
    → IsNode opening (with_all_published k) n

-- `close` gives a replica, and the desk that is opened next with it is the same node
abbrev pub ReopeningIsNone : Type 0
ReopeningIsNone =
    (opening : List Op) (k : KeeperState) (n : Node Cells) (b : Book) → IsReplicaState (own_replica k)
    → IsNode opening k n
    → IsNode (joins_of (cells_of k)) (keeper_at_opening (own_replica k) b) n

-- ---- the calls of a reader

-- a reader of a node's desk, which has seen a beginning of what is published there, from the opening on
pub record IsReaderOf (opening : List Op) (k : KeeperState) (r : ReaderState) : Type 0 where
  pub schema : r.schema ≡ k.schema
  pub opened : IsPrefix opening r.list
  pub seen : IsPrefix r.list k.published

-- what a reader has seen is what the node held as many changes ago as operations came after it
abbrev pub ReadersSeeMoments : Type 0
ReadersSeeMoments =
    (opening : List Op) (k : KeeperState) (n : Node Cells) (r : ReaderState) (later : List Op) → IsNode opening k n
    → IsReaderOf opening k r → r.list ++ later ≡ k.published ++ k.pending
    → slice_get (all_held n) (length later) ≡ Some (cells_seen r)

-- the text answers from the marks that had reached a node at this moment
pub record Answers (s : Layout) (deeds : List Deed) (at : Moment) (q : Request) (text : List ℕ) : Type 0 where
  pub known : Knowledge
  pub then : held_at (after_all sample_model s deeds) at ≡ Some known
  pub text_is : text ≡ fetch_text s known q

-- so whatever was done, a reader at any of the nodes answers from exactly the marks that had reached its node when the
-- node had the operations that the reader has seen
abbrev pub ReadersAnswerFromSamples : Type 0
ReadersAnswerFromSamples =
    (s : Layout) (deeds : List Deed) (origin : ℕ) (opening : List Op) (k : KeeperState) (n : Node Cells)
    (r : ReaderState) (later : List Op) (q : Request) → IsLayout s
    → get (after_all cell_model s deeds) origin ≡ Some n → k.schema ≡ s → IsNode opening k n → IsReaderOf opening k r
    → r.list ++ later ≡ k.published ++ k.pending
    → Answers s deeds (record { origin = origin; ago = length later }) q (cells_text r.schema (cells_seen r) q)

-- and two answers from the same live marks, at any nodes and moments, are the same
abbrev pub ReadersAnswerAlike : Type 0
ReadersAnswerAlike =
    (s : Layout) (deeds : List Deed) (a b : Moment) (q : Request) (text other : List ℕ) (x : Answers s deeds a q text)
    (y : Answers s deeds b q other) → live s x.known ≡ live s y.known
    → text ≡ other
