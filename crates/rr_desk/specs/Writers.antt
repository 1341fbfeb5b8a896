-- What clauses see of the writer of the two copies.
use Rattle.std.specs.Prelude.{◌≡◌, ◌++◌, ◌≤◌, ℕ, false, List, [], Result, drop, fold}
use Rattle.std.specs.declared.alloc.AllocError.{AllocError}
use Rattle.left_right.specs.declared.Absorb.{Ghosts}
use Rattle.left_right.specs.declared.writer.Writer.{Writer}
use Rattle.left_right.specs.Sides.{view}
use Rattle.rr_cells.specs.declared.op.Op.{Op}
use Rattle.rr_cells.specs.Operations.{step}
use Rattle.rr_text.specs.declared.limits.TheConstants.{MAX_READERS}
use Rattle.rr_replica.specs.Becomes.{Becomes}
use Rattle.rr_replica.specs.ReplicaWithRoom.{ReplicaWithRoom, replica_state}
use Rattle.rr_desk.specs.declared.change.Change.{Change}
use Rattle.rr_desk.specs.declared.rule.View.{View}
use Rattle.rr_desk.specs.declared.shown.Shown.{Shown}
use Rattle.rr_desk.specs.Changes.{Names, prefix_after, names_at, names_of, ops_in}
use Rattle.rr_desk.specs.Editions.{BookPrefix}
use Rattle.rr_desk.specs.KeeperState.{IsReady}
use Rattle.rr_desk.specs.Rule.{with_published}

-- as many readers as a desk may have
abbrev pub IsReaderCount : ℕ → Type 0
IsReaderCount n = (1 ≤ n) × (n ≤ MAX_READERS)

-- a copy holds what it held
pub record IsSameShown {D : Type 0} (old new : Shown D) : Type 0 where
  pub state : replica_state new.replica ≡ replica_state old.replica
  pub keys : new.replica.keys ≡ old.replica.keys
  pub started : new.started ≡ old.started
  pub prefix : new.prefix ≡ old.prefix

module _ {T O V P A S : Type 0} {g : Ghosts T O S} where
  -- the changes that readers do not see yet
  abbrev pub changes : Writer T O V P A S g → List O
  changes w = drop w.behind w.log.items

-- a writer shows what it showed, and the same changes are pending
pub record IsSameWriter {T O V P A S : Type 0} {g : Ghosts T O S} (old new : Writer T O V P A S g) : Type 0 where
  pub place : view new.desk.place ≡ view old.desk.place
  pub shown : new.desk.shown ≡ old.desk.shown
  pub pending : changes new ≡ changes old

-- a writer shows a copy of a replica, and these changes are pending
pub record ShowsCopy {D P A S : Type 0} {g : Ghosts (Shown D) Change S} (replica : ReplicaWithRoom) (cs : List Change)
    (w : Writer (Shown D) Change View P A S g) : Type 0 where
  pub state : replica_state w.desk.shown.value.replica ≡ replica_state replica
  pub keys : w.desk.shown.value.replica.keys ≡ replica.keys
  pub pending : changes w ≡ cs

-- a writer shows a copy of a replica, no change is pending, and it isn't opened for readers yet
pub record IsUnopened {D P A S : Type 0} {g : Ghosts (Shown D) Change S} (replica : ReplicaWithRoom)
    (w : Writer (Shown D) Change View P A S g) : Type 0 where
  pub copy : ShowsCopy replica [] w
  pub unopened : w.desk.shown.value.started ≡ false

-- operations were applied to a replica, or memory ran out and none was; its keys stay
pub record AppliesOps (ops : List Op) (old new : ReplicaWithRoom) (result : Result (Unit {0}) AllocError) : Type 0 where
  pub state : Becomes (replica_state old) (fold step (replica_state old) ops) (replica_state new) result
  pub keys : new.keys ≡ old.keys

module _ {D P A S : Type 0} {g : Ghosts (Shown D) Change S} where
  -- the names of the copy that is shown, by which the changes are read
  abbrev pub shown_names : Writer (Shown D) Change View P A S g → Names
  shown_names w = names_of w.desk.shown.value.replica

  -- the operations that readers do not see yet
  abbrev pub pending_ops : Writer (Shown D) Change View P A S g → List Op
  pending_ops w = ops_in (shown_names w) (changes w)

  -- all operations: those that are published, and then those that are pending
  abbrev pub all_ops : Writer (Shown D) Change View P A S g → List Op
  all_ops w = (view w.desk.place).seen ++ pending_ops w

  -- what is pending can be published
  abbrev pub IsPublishable : Writer (Shown D) Change View P A S g → Type 0
  IsPublishable w = IsReady (view w.desk.place) (replica_state w.desk.shown.value.replica) (shown_names w)
      w.desk.shown.value.prefix (changes w)

  -- what was pending is published, and nothing is pending
  abbrev pub HasPublished : Writer (Shown D) Change View P A S g → Writer (Shown D) Change View P A S g → Type 0
  HasPublished old new = (view new.desk.place ≡ with_published (view old.desk.place) (pending_ops old))
      × (changes new ≡ [])
      × (replica_state new.desk.shown.value.replica
      ≡ fold step (replica_state old.desk.shown.value.replica) (pending_ops old))
      × (new.desk.shown.value.prefix ≡ prefix_after old.desk.shown.value.prefix (changes old))
      × (shown_names new ≡ names_at (shown_names old) (changes old))

  -- readers see what they saw, and the same changes are pending
  abbrev pub IsUnpublished : Writer (Shown D) Change View P A S g → Writer (Shown D) Change View P A S g → Type 0
  IsUnpublished old new = (view new.desk.place ≡ view old.desk.place)
      × (new.desk.shown.value ≡ old.desk.shown.value)
      × (changes new ≡ changes old)

-- keys were added to what is pending, and nothing else
pub record AddsKeys {D P A S : Type 0} {g : Ghosts (Shown D) Change S} (old new : Writer (Shown D) Change View P A S g)
    : Type 0 where
  pub desk : new.desk ≡ old.desk
  pub pending : ops_in (shown_names old) (changes new) ≡ pending_ops old
  pub prefix : (s : BookPrefix) → prefix_after s (changes new) ≡ prefix_after s (changes old)
