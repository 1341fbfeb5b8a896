-- What a pull makes of a keeper.
use Rattle.std.specs.Prelude.{◌≡◌, ◌≤◌, ◌⊎◌, ℕ, List, length, take, Option}
use Rattle.std.specs.Io.KnownBytes.{Appends}
use Rattle.std.specs.List.{concat}
use Rattle.rr_io.specs.Stream.{AppendsPrefix}
use Rattle.rr_cells.specs.CellBounds.{NamedCell}
use Rattle.rr_desk.specs.KeeperState.{KeeperState, cells_of, with_all_published}
use Rattle.rr_desk.specs.ReaderState.{HasJoined}
use Rattle.rr_gossip.specs.declared.fault.GossipFault.{GossipFault}
use Rattle.rr_gossip.specs.declared.fault.GossipFault.TheVariants.{Memory}
use Rattle.rr_gossip.specs.declared.frame.TheConstants.{MAX_FRAMES}
use Rattle.rr_gossip.specs.Session.{HasFailedToPull, HasPulled, sent_by}
use Rattle.rr_gossip.specs.Transcript.{waiting}

-- the frames that a keeper sends
abbrev pub frames_of : KeeperState → List (List ℕ)
frames_of k = sent_by k.schema (cells_of k)

-- all cells that the peer answered to all of its frames are joined, one by one and in order, as pending operations
pub record IsJoined (old joined : KeeperState) (had left : Option (List ℕ)) : Type 0 where
  pub cells : List NamedCell
  pub kept : HasJoined old joined cells
  pub pulled : HasPulled old.schema (waiting (length (frames_of old)) 0 MAX_FRAMES) had left cells

-- all of its frames were sent, no more than a session may have; that was done; and then all that is pending was
-- published
pub record HasPulledAll (old new : KeeperState) (had left wrote written : Option (List ℕ)) : Type 0 where
  pub few : length (frames_of old) ≤ MAX_FRAMES
  pub sent : Appends wrote written (concat (frames_of old))
  pub joined : KeeperState
  pub pulled : IsJoined old joined had left
  pub published : new ≡ with_all_published joined

-- the session ended early, or memory ran out as all of it was to be published: the cells that were joined are pending,
-- one by one and in order
pub record HasStoppedPulling (old new : KeeperState) (had left wrote written : Option (List ℕ))
    (fault : GossipFault) : Type 0 where
  pub sent : AppendsPrefix wrote written (concat (take MAX_FRAMES (frames_of old)))
  pub cells : List NamedCell
  pub kept : HasJoined old new cells
  pub stopped : HasFailedToPull MAX_FRAMES old.schema (cells_of old) had left wrote written fault cells
      ⊎ ((fault ≡ Memory) × HasPulled old.schema (waiting (length (frames_of old)) 0 MAX_FRAMES) had left cells)
