-- What a call that pulls or gives over streams has done once it returns: what was read and written, and when a stream
-- is to blame.
use Rattle.std.specs.Prelude.{◌≡◌, ◌≤◌, ◌<◌, ℕ, Bool, true, IsTrue, List, length, take, Option, Result, Err, OnOk, OnErr, IfErr}
use Rattle.std.specs.Io.KnownBytes.{Appends, IsAtEnd}
use Rattle.std.specs.List.{concat}
use Rattle.rr_text.specs.Results.{GivesUnless}
use Rattle.rr_schema.specs.Schema.{Layout}
use Rattle.rr_io.specs.declared.counted.Counted.{Counted}
use Rattle.rr_io.specs.Counted.{inner_of, failures_of, is_flushed, HasRisen}
use Rattle.rr_io.specs.Stream.{AppendsPrefix, HasFailed, IsReadOut, KeepsFailures, WritesPrefix, WritesWhole}
use Rattle.rr_cells.specs.CellBounds.{NamedCell}
use Rattle.rr_cells.specs.Cells.{Cells}
use Rattle.rr_gossip.specs.declared.fault.GossipFault.{GossipFault}
use Rattle.rr_gossip.specs.declared.fault.GossipFault.TheVariants.{Ended, ReadFailed, WriteFailed, Memory}
use Rattle.rr_gossip.specs.declared.giver.Giver.{Giver}
use Rattle.rr_gossip.specs.declared.giver.Stage.{Stage}
use Rattle.rr_gossip.specs.Giver.{AreFit}
use Rattle.rr_gossip.specs.Stream.{Grows}
use Rattle.rr_gossip.specs.Session.{HasFailedToGive, HasFailedToPull, HasGiven, HasHeard, HasPulled, HasStoppedHearing, sent_by}
use Rattle.rr_gossip.specs.Transcript.{waiting}

-- what a call did with the reader that it takes frames from
pub record TakesFrames {R : Type 0} (remaining : R → Option (List ℕ)) (old new : Counted R)
    (result : Result (Unit {0}) GossipFault) : Type 0 where
  pub ended : result ≡ Err Ended → IsReadOut remaining new
  pub failures_never_fall : KeepsFailures old new
  pub failed : result ≡ Err ReadFailed → HasFailed old new

-- what a call that reads bytes after those that were there did
pub record ReadsBytes {R : Type 0} (remaining : R → Option (List ℕ)) (old new : Counted R) (before after : List ℕ)
    (result : Result (Unit {0}) GossipFault) : Type 0 where
  pub read : OnOk result (Grows (remaining (inner_of old)) (remaining (inner_of new)) before after)
  pub stream : TakesFrames remaining old new result

-- what a call did with the writer that it sends these frames to, at most `limit` of them
pub record SendsFrames {W : Type 0} (contents : W → Option (List ℕ)) (old new : Counted W) (limit : ℕ)
    (frames : List (List ℕ)) (result : Result (Unit {0}) GossipFault) : Type 0 where
  pub whole : OnOk result (WritesWhole contents old new (concat frames))
  pub few : OnOk result (length frames ≤ limit)
  pub prefix : WritesPrefix contents old new (concat (take limit frames))
  pub flushed : OnOk result (is_flushed new ≡ true)
  pub failures_never_fall : KeepsFailures old new
  pub failed : result ≡ Err WriteFailed → HasFailed old new

-- what a call may have done with the source that it asks
pub record StaysSource {S : Type 0} (layout : S → Layout) (may_become : S → S → Type 0) (old new : S) : Type 0 where
  pub schema : layout new ≡ layout old
  pub becomes : may_become old new

-- a frame, or a part of one, was taken from a giver's peer as the definition says, unless memory ran out; what is
-- still to be sent fits into pages, and the source became what it may become
pub record TakesFor {S X Y : Type 0} (layout : S → Layout) (may_become : S → S → Type 0) (old new : S)
    (view : X → Y) (stage : Stage) (result : Result X GossipFault) (answer : Result Y GossipFault) : Type 0 where
  pub taken : GivesUnless Memory view result answer
  pub fit : OnOk result (AreFit stage)
  pub source : StaysSource layout may_become old new

-- a giver took the frames of its peer to the last one, or stopped at one of them; `before` is what was already read of
-- the peer's bytes
pub record HearsNames {R S : Type 0} (layout : S → Layout) (cells : S → Cells) (may_become : S → S → Type 0)
    (old new : S) (first last : Giver) (before : List ℕ) (remaining : R → Option (List ℕ)) (input input_new : Counted R)
    (result : Result (Unit {0}) GossipFault) : Type 0 where
  pub heard : OnOk result (HasHeard (layout old) (cells new) first last before (remaining (inner_of input))
      (remaining (inner_of input_new)))
  pub stopped : IfErr result (HasStoppedHearing (layout old) (cells new) first before (remaining (inner_of input))
      (remaining (inner_of input_new)))
  pub source : StaysSource layout may_become old new
  pub sent : OnOk result (last.sent ≡ first.sent)
  pub limit : OnOk result (last.limit ≡ first.limit)
  pub stream : TakesFrames remaining input input_new result

-- the next frame was made as the definition says, unless memory ran out, as it may only while frames are due and fewer
-- than the limit have been sent; after a refusal the session has failed
pub record SendsNext {X Y : Type 0} (is_sending : Bool) (sent limit : ℕ) (has_failed : Type 0)
    (view : X → Y) (result : Result X GossipFault) (answer : Result Y GossipFault) : Type 0 where
  pub given : GivesUnless Memory view result answer
  pub memory : result ≡ Err Memory → IsTrue is_sending
  pub within : result ≡ Err Memory → sent < limit
  pub failed : OnErr result has_failed

-- when one of two streams is to blame for a fault; the counts of their failures never fall
pub record Blames {R W : Type 0} (remaining : R → Option (List ℕ)) (input input_new : Counted R)
    (output output_new : Counted W) (result : Result (Unit {0}) GossipFault) : Type 0 where
  pub ended : result ≡ Err Ended → IsAtEnd (remaining (inner_of input_new))
  pub read_failed : result ≡ Err ReadFailed → HasRisen (failures_of input) (failures_of input_new)
  pub write_failed : result ≡ Err WriteFailed → HasRisen (failures_of output) (failures_of output_new)
  pub read_count : failures_of input ≤ failures_of input_new
  pub write_count : failures_of output ≤ failures_of output_new

-- a call that, once asked, gives the cells of a source to a peer in a session of at most `limit` frames; `before` is
-- what was already read of the peer's bytes
pub record Gives {R W S : Type 0} (remaining : R → Option (List ℕ)) (contents : W → Option (List ℕ)) (limit : ℕ)
    (layout : S → Layout) (cells : S → Cells) (may_become : S → S → Type 0) (before : List ℕ) (source source_new : S)
    (input input_new : Counted R) (output output_new : Counted W) (result : Result (Unit {0}) GossipFault)
    : Type 0 where
  pub given : OnOk result (HasGiven limit (layout source) (cells source_new) before (remaining (inner_of input))
      (remaining (inner_of input_new)) (contents (inner_of output)) (contents (inner_of output_new)))
  pub stopped : IfErr result (HasFailedToGive limit (layout source) (cells source_new) before
      (remaining (inner_of input)) (remaining (inner_of input_new)) (contents (inner_of output))
      (contents (inner_of output_new)))
  pub flushed : OnOk result (is_flushed output_new ≡ true)
  pub asked : StaysSource layout may_become source source_new
  pub blame : Blames remaining input input_new output output_new result

-- a call that pulls into the cells m, in a session of at most `limit` frames; `joined` says which cells a target joined
pub record Pulls {R W : Type 0} (remaining : R → Option (List ℕ)) (contents : W → Option (List ℕ)) (limit : ℕ)
    (s : Layout) (m : Cells) (joined : List NamedCell → Type 0) (input input_new : Counted R)
    (output output_new : Counted W) (result : Result (Unit {0}) GossipFault) : Type 0 where
  -- what is sent
  pub sent : OnOk result (Appends (contents (inner_of output)) (contents (inner_of output_new)) (concat (sent_by s m)))
  pub few : OnOk result (length (sent_by s m) ≤ limit)
  pub prefix : AppendsPrefix (contents (inner_of output)) (contents (inner_of output_new))
      (concat (take limit (sent_by s m)))
  pub flushed : OnOk result (is_flushed output_new ≡ true)
  -- what is read, and which cells are joined, one by one and in order
  pub pulled : OnOk result ((cells : List NamedCell) × joined cells
      × HasPulled s (waiting (length (sent_by s m)) 0 limit) (remaining (inner_of input))
      (remaining (inner_of input_new)) cells)
  pub stopped : IfErr result (λ fault. (cells : List NamedCell) × joined cells
      × HasFailedToPull limit s m (remaining (inner_of input)) (remaining (inner_of input_new))
      (contents (inner_of output)) (contents (inner_of output_new)) fault cells)
  pub blame : Blames remaining input input_new output output_new result
