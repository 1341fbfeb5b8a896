-- What a side of a session over streams has done once its call returns.
use Rattle.std.specs.Prelude.{◌≡◌, ◌⊎◌, ℕ, ◌<◌, ◌≤◌, Bool, true, false, List, [], ◌++◌, length, take, drop, Option, Some, Ok, All}
use Rattle.std.specs.FinMap.{entries}
use Rattle.std.specs.Io.KnownBytes.{Appends}
use Rattle.std.specs.List.{concat}
use mathlib.Core.List.{IsPrefix}
use Rattle.rr_schema.specs.Schema.{Layout, IsLayout}
use Rattle.rr_io.specs.Stream.{AppendsPrefix}
use Rattle.rr_delta.specs.Difference.{IsSummary, newer_cells}
use Rattle.rr_delta.specs.Laws.{AgreeAtVersions}
use Rattle.rr_delta.specs.Names.{NamedVersion, IsNameOf, versions_of}
use Rattle.rr_cells.specs.CellBounds.{NamedCell, IsCellOf}
use Rattle.rr_cells.specs.Cells.{Cells, IsTrimmed}
use Rattle.rr_cells.specs.Joins.{join, join_cells}
use Rattle.rr_cells.specs.State.{cells_of_knowledge}
use Rattle.rr_cells.specs.Knowledge.{Knowledge, union}
use Rattle.rr_cells.specs.World.{World, IsClosed}
use Rattle.rr_gossip.specs.declared.fault.GossipFault.{GossipFault}
use Rattle.rr_gossip.specs.declared.fault.GossipFault.TheVariants.{TooManyFrames, WriteFailed, Memory}
use Rattle.rr_gossip.specs.declared.giver.Giver.{Giver}
use Rattle.rr_gossip.specs.declared.giver.Stage.{Stage}
use Rattle.rr_gossip.specs.declared.giver.Stage.TheVariants as stage
use Rattle.rr_gossip.specs.declared.puller.Puller.{Puller}
use Rattle.rr_gossip.specs.declared.puller.Stage.TheVariants as puller
use Rattle.rr_gossip.specs.Giver.{first_giver, giver_takes}
use Rattle.rr_gossip.specs.Pages.{AreLeft}
use Rattle.rr_gossip.specs.Puller.{ArePrefix, puller_takes}
use Rattle.rr_gossip.specs.Stream.{IsFrame, Stops, WasRead}
use Rattle.rr_gossip.specs.Transcript.{contents, giver_after, puller_after, reply, frames_of_names, waiting}

-- why not all of a side's frames were sent: the writer failed, memory ran out, or the session may not have that many
abbrev pub CannotSend : ℕ → List (List ℕ) → GossipFault → Type 0
CannotSend limit frames fault = (fault ≡ WriteFailed) ⊎ (fault ≡ Memory)
    ⊎ ((fault ≡ TooManyFrames) × (limit < length frames))

-- ---- the side that pulls

-- the frames that a target with the cells m sends
unfoldable pub sent_by : Layout → Cells → List (List ℕ)
sent_by s m = frames_of_names s (versions_of m)

-- it took frames to the end of the pages and nothing after them; these are the cells of the pages, in order
pub record HasPulled (s : Layout) (first : Puller) (had left : Option (List ℕ)) (cells : List NamedCell) : Type 0 where
  pub frames : List (List ℕ)
  pub read : WasRead [] had left frames []
  pub last : Puller
  pub taken : puller_after s first [] (contents frames) ≡ Ok (last, cells)
  pub done : last.stage ≡ puller.Done

-- it took frames, and stopped at the next; these are the cells of the pages among those, in order, and perhaps, if
-- memory ran out, the first cells of the next page
pub record HasStoppedPulling (s : Layout) (first : Puller) (had left : Option (List ℕ)) (fault : GossipFault)
    (cells : List NamedCell) : Type 0 where
  pub frames : List (List ℕ)
  pub piece : List ℕ
  pub read : WasRead [] had left frames piece
  pub last : Puller
  pub pages : List NamedCell
  pub taken : puller_after s first [] (contents frames) ≡ Ok (last, pages)
  pub stopped : Stops (puller_takes s last) piece fault
  pub joined : (cells ≡ pages) ⊎ ((fault ≡ Memory) × IsFrame piece
      × ((es : List NamedCell) × ArePrefix es (puller_takes s last (drop 4 piece)) × (cells ≡ pages ++ es)))

-- not all frames of a target with the cells m were sent, and it read and joined nothing
pub record HasNotSent (limit : ℕ) (s : Layout) (m : Cells) (had left : Option (List ℕ)) (fault : GossipFault)
    (cells : List NamedCell) : Type 0 where
  pub why : CannotSend limit (sent_by s m) fault
  pub unread : left ≡ had
  pub none : cells ≡ []

-- a pull in a session of at most this many frames failed: before all was sent, or else, with all sent within that
-- limit, among the pages
abbrev pub HasFailedToPull : ℕ → Layout → Cells → Option (List ℕ) → Option (List ℕ) → Option (List ℕ) → Option (List ℕ)
    → GossipFault → List NamedCell → Type 0
HasFailedToPull limit s m had left wrote written fault cells =
    HasNotSent limit s m had left fault cells
    ⊎ ((length (sent_by s m) ≤ limit) × Appends wrote written (concat (sent_by s m))
    × HasStoppedPulling s (waiting (length (sent_by s m)) 0 limit) had left fault cells)

-- ---- the side that gives

-- the frames that answer some names, from a source with the cells m
unfoldable pub replied_by : Layout → List NamedVersion → Cells → List (List ℕ)
replied_by s names m = reply s (newer_cells names (entries m))

-- those that a giver still sends
unfoldable pub reply_left : Stage → List (List ℕ)
reply_left stage.Opening = []
reply_left (stage.Listing names) = []
reply_left (stage.Giving left) = reply left.0 left.1
reply_left stage.Done = []
reply_left stage.Failed = []

abbrev pub is_giving : Stage → Bool
is_giving stage.Opening = false
is_giving (stage.Listing names) = false
is_giving (stage.Giving left) = true
is_giving stage.Done = false
is_giving stage.Failed = false

-- it took frames to the end of the names, some of whose bytes may have been read before, and nothing after them, and
-- has the difference of its source's cells m against all names to send, all of them cells of the schema
pub record HasHeard (s : Layout) (m : Cells) (first last : Giver) (before : List ℕ) (had left : Option (List ℕ))
    : Type 0 where
  pub frames : List (List ℕ)
  pub read : WasRead before had left frames []
  pub taken : giver_after m s first (contents frames) ≡ Ok last
  pub names : List NamedVersion
  pub giving : last.stage ≡ stage.Giving (s, newer_cells names (entries m))
  pub fits : AreLeft (s, newer_cells names (entries m))

-- it took frames, and stopped at the next
pub record HasStoppedHearing (s : Layout) (m : Cells) (first : Giver) (before : List ℕ) (had left : Option (List ℕ))
    (fault : GossipFault) : Type 0 where
  pub frames : List (List ℕ)
  pub piece : List ℕ
  pub read : WasRead before had left frames piece
  pub last : Giver
  pub taken : giver_after m s first (contents frames) ≡ Ok last
  pub stopped : Stops (giver_takes m s last) piece fault

-- in a session of at most this many frames it heard all names, and wrote the answer to them, of no more frames than
-- that
pub record HasGiven (limit : ℕ) (s : Layout) (m : Cells) (before : List ℕ)
    (had left wrote written : Option (List ℕ)) : Type 0 where
  pub last : Giver
  pub heard : HasHeard s m (first_giver limit) last before had left
  pub few : length (replied_by s heard.names m) ≤ limit
  pub replied : Appends wrote written (concat (replied_by s heard.names m))

-- it heard all names, and wrote a prefix of the answer to them, of no more frames than the session may have
pub record HasNotReplied (limit : ℕ) (s : Layout) (m : Cells) (before : List ℕ)
    (had left wrote written : Option (List ℕ)) (fault : GossipFault) : Type 0 where
  pub last : Giver
  pub heard : HasHeard s m (first_giver limit) last before had left
  pub why : CannotSend limit (replied_by s heard.names m) fault
  pub prefix : AppendsPrefix wrote written (concat (take limit (replied_by s heard.names m)))

-- it failed: among the names, and wrote nothing, or else among the pages
abbrev pub HasFailedToGive : ℕ → Layout → Cells → List ℕ → Option (List ℕ) → Option (List ℕ) → Option (List ℕ)
    → Option (List ℕ) → GossipFault → Type 0
HasFailedToGive limit s m before had left wrote written fault =
    (HasStoppedHearing s m (first_giver limit) before had left fault × (written ≡ wrote))
    ⊎ HasNotReplied limit s m before had left wrote written fault

-- ---- laws

-- a give that heard what a side sends for some names, and perhaps had more after it, has the answer to those names to
-- send, and left what came after
abbrev pub GivesHearTheNames : Type 0
GivesHearTheNames =
    (s : Layout) (m : Cells) (names : List NamedVersion) (limit : ℕ) (last : Giver) (more : List ℕ)
    (left : Option (List ℕ))
    → IsLayout s → All (IsNameOf s) names → IsSummary names
    → (heard : HasHeard s m (first_giver limit) last [] (Some (concat (frames_of_names s names) ++ more)) left)
    → (newer_cells heard.names (entries m) ≡ newer_cells names (entries m)) × (left ≡ Some more)

-- so one that heard that and gave all wrote the answer to those names, of cells of the schema, and left what came after
abbrev pub GivesAnswer : Type 0
GivesAnswer =
    (s : Layout) (m : Cells) (names : List NamedVersion) (limit : ℕ) (answer more : List ℕ) (left : Option (List ℕ))
    → IsLayout s → All (IsNameOf s) names → IsSummary names
    → HasGiven limit s m [] (Some (concat (frames_of_names s names) ++ more)) left (Some []) (Some answer)
    → (answer ≡ concat (replied_by s names m)) × (left ≡ Some more) × AreLeft (s, newer_cells names (entries m))

-- a pull that read a reply of some cells, and perhaps had more after it, has exactly these cells, in order, and left
-- what came after
abbrev pub PullsTakeTheReply : Type 0
PullsTakeTheReply =
    (s : Layout) (es cells : List NamedCell) (n limit : ℕ) (more : List ℕ) (left : Option (List ℕ))
    → IsLayout s → AreLeft (s, es)
    → HasPulled s (waiting n 0 limit) (Some (concat (reply s es) ++ more)) left cells
    → (cells ≡ es) × (left ≡ Some more)

-- one that stopped, with at most a prefix of that to read, has the first of these cells, in order
abbrev pub StoppedPullsTakeAPrefix : Type 0
StoppedPullsTakeAPrefix =
    (s : Layout) (es cells : List NamedCell) (n limit : ℕ) (came lost more : List ℕ) (left : Option (List ℕ))
    (fault : GossipFault)
    → IsLayout s → AreLeft (s, es) → came ++ lost ≡ concat (reply s es) ++ more
    → HasStoppedPulling s (waiting n 0 limit) (Some came) left fault cells
    → IsPrefix cells es

-- if a give heard what a pull sent, and that pull read its answer, the pull has exactly what its side lacked, in order
abbrev pub PullsBringTheDifference : Type 0
PullsBringTheDifference =
    (s : Layout) (m given : Cells) (cells : List NamedCell) (limit limit_given : ℕ) (answer more more_given : List ℕ)
    (left left_given : Option (List ℕ))
    → IsLayout s → All (IsCellOf s) (entries m)
    → HasGiven limit_given s given [] (Some (concat (sent_by s m) ++ more_given)) left_given (Some []) (Some answer)
    → HasPulled s (waiting (length (sent_by s m)) 0 limit) (Some (answer ++ more)) left cells
    → cells ≡ newer_cells (versions_of m) (entries given)

-- joining that gives the join of the cells of both sides, if equal versions of one cell mean equal contents
abbrev pub PullsBringTheJoin : Type 0
PullsBringTheJoin =
    (s : Layout) (m given : Cells) (cells : List NamedCell) (limit limit_given : ℕ) (answer more more_given : List ℕ)
    (left left_given : Option (List ℕ))
    → IsLayout s → IsTrimmed s m → All (IsCellOf s) (entries m) → AgreeAtVersions given m
    → HasGiven limit_given s given [] (Some (concat (sent_by s m) ++ more_given)) left_given (Some []) (Some answer)
    → HasPulled s (waiting (length (sent_by s m)) 0 limit) (Some (answer ++ more)) left cells
    → join_cells s m cells ≡ join s m given

-- so if both sides have the cells of closed knowledges, it gives the cells of their union
abbrev pub PullsUnite : Type 0
PullsUnite =
    (s : Layout) (w : World) (k given : Knowledge) (cells : List NamedCell) (limit limit_given : ℕ)
    (answer more more_given : List ℕ) (left left_given : Option (List ℕ))
    → IsLayout s → IsClosed s w k → IsClosed s w given → All (IsCellOf s) (entries (cells_of_knowledge s k))
    → HasGiven limit_given s (cells_of_knowledge s given) []
    (Some (concat (sent_by s (cells_of_knowledge s k)) ++ more_given)) left_given (Some []) (Some answer)
    → HasPulled s (waiting (length (sent_by s (cells_of_knowledge s k))) 0 limit) (Some (answer ++ more)) left cells
    → join_cells s (cells_of_knowledge s k) cells ≡ cells_of_knowledge s (union k given)
