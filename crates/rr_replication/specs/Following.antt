-- How a node reads on in the store of a peer.
use Rattle.std.specs.Prelude.{◌≡◌, ℕ, ◌-◌, ◌==◌, ◌||◌, nat_eq, Bool, true, false, List, length, take, drop, Option, None, Some, IfSome, unwrap_or, Result, Ok, Err}
use Rattle.std.specs.Cmp.Lexicographic.{pointwise}
use Rattle.std.specs.List.{find}
use Rattle.rr_text.specs.Results.{GivesUnless}
use Rattle.rr_schema.specs.Schema.{Layout}
use Rattle.rr_cells.specs.declared.cell.Cell.{Cell}
use Rattle.rr_journal.specs.declared.cursor.Cursor.{Cursor}
use Rattle.rr_journal.specs.Cursor.{start}
use Rattle.rr_journal.specs.Header.{header_at, header_len}
use Rattle.rr_recovery.specs.Found.{with_cursor}
use Rattle.rr_replication.specs.declared.answer.PeerAnswer.{PeerAnswer}
use Rattle.rr_replication.specs.declared.fault.PartFault.{PartFault}
use Rattle.rr_replication.specs.declared.fault.PartFault.TheVariants.{Memory}
use Rattle.rr_replication.specs.declared.following.Following.{Following}
use Rattle.rr_replication.specs.declared.following.Next.{Next}
use Rattle.rr_replication.specs.declared.following.Next.TheVariants.{More, UpToDate}
use Rattle.rr_replication.specs.declared.pace.Reached.{Reached}
use Rattle.rr_replication.specs.declared.pace.Reached.TheVariants as pace
use Rattle.rr_replication.specs.declared.peer_fault.PeerFault.{PeerFault}
use Rattle.rr_replication.specs.declared.peer_fault.PeerFault.TheVariants.{NotWhole}
use Rattle.rr_replication.specs.declared.position.Position.{Position}
use Rattle.rr_replication.specs.declared.position.Position.TheVariants.{Journal, Newest, Checkpoint}
use Rattle.rr_replication.specs.declared.tally.Tally.{Tally}
use Rattle.rr_replication.specs.Position.{greeting_target, target_of}
use Rattle.rr_replication.specs.Reading.{PeerState, after_part, peer_state}
use Rattle.rr_replication.specs.Tally.{IsTallied, is_whole, no_tally}

-- a part is read from a place on, and the answer is the place behind it
abbrev pub ReadsOn : Layout → PeerState → List Cell → List ℕ → Result Cursor PartFault → Type 0
ReadsOn s before cells bytes result =
    GivesUnless Memory (λ end. peer_state end cells) result (after_part s before bytes)

-- ---- before a peer is greeted

-- nothing is known of the peer, but how far these journals were read before
pub record IsNew (f : Following) (known : List Cursor) : Type 0 where
  pub known_is : f.known.items ≡ known
  pub position_is : f.position ≡ None
  pub greets : f.is_greeted ≡ false
  pub begins : f.is_beginning ≡ false

-- the peer is greeted before anything else is asked for; where the node is in its store stays
pub record GreetsAnew (old new : Following) : Type 0 where
  pub greets : new.is_greeted ≡ false
  pub known_is : new.known.items ≡ old.known.items
  pub position_is : new.position ≡ old.position
  pub id_is : new.id ≡ old.id
  pub begins : new.is_beginning ≡ old.is_beginning

-- whether a checkpoint is being read, or the newest one is to be
abbrev pub is_in_checkpoint : Option Position → Bool
is_in_checkpoint (Some Newest) = true
is_in_checkpoint (Some (Checkpoint begins place tally)) = true
is_in_checkpoint (Some (Journal place)) = false
is_in_checkpoint None = false

-- where a node is in the store of its peer, once that was greeted
abbrev pub reached_by : Option Position → Option Reached
reached_by None = None
reached_by (Some (Journal place)) = Some (pace.Journal place.offset)
reached_by (Some Newest) = Some (pace.Checkpoint 0)
reached_by (Some (Checkpoint begins place tally)) = Some (pace.Checkpoint place.offset)

-- ---- what is asked for

-- what is asked for: by where a node is, if its peer was greeted; else by the greeting
abbrev pub target_by : Layout → Bool → Option Position → List ℕ
target_by s true (Some position) = target_of s position
target_by s true None = greeting_target s
target_by s false position = greeting_target s

abbrev pub asked_target : Layout → Following → List ℕ
asked_target s f = target_by s f.is_greeted f.position

-- where the node that asks for it is; nowhere, if it asks for the greeting
abbrev pub position_by : Bool → Option Position → Option Position
position_by true position = position
position_by false position = None

abbrev pub asked_position : Following → Option Position
asked_position f = position_by f.is_greeted f.position

-- ---- the journal

-- the place from which the journal is asked for, if it is asked for
abbrev pub place_by : Bool → Option Position → Option Cursor
place_by true (Some (Journal place)) = Some place
place_by true (Some Newest) = None
place_by true (Some (Checkpoint begins place tally)) = None
place_by true None = None
place_by false position = None

abbrev pub asked_place : Following → Option Cursor
asked_place f = place_by f.is_greeted f.position

-- how far the journal is read
abbrev pub read_in : Next → Option Cursor
read_in (More read) = read
read_in UpToDate = None

-- a part was read from a place up to there, and its cells are behind those from before
abbrev pub IsReadUpTo : Layout → Cursor → List Cell → List ℕ → List Cell → Next → Type 0
IsReadUpTo s place had bytes cells next =
    IfSome (read_in next) (λ end. after_part s (peer_state place had) bytes ≡ Ok (peer_state end cells))

-- where the node is then: past what was read; before the newest checkpoint, if the peer no longer has what was asked
-- for; or where it was, if there is nothing new
abbrev pub after_journal : Cursor → Next → Position
after_journal place (More (Some end)) = Journal end
after_journal place (More None) = Newest
after_journal place UpToDate = Journal place

-- ---- a checkpoint

-- whether the newest one is asked for
abbrev pub newest_by : Bool → Option Position → Bool
newest_by true (Some Newest) = true
newest_by true (Some (Journal place)) = false
newest_by true (Some (Checkpoint begins place tally)) = false
newest_by true None = false
newest_by false position = false

abbrev pub asks_newest : Following → Bool
asks_newest f = newest_by f.is_greeted f.position

-- these bytes begin with the header of a file of this schema that begins at a place of a journal
abbrev pub FileBegins : Layout → List ℕ → Cursor → Type 0
FileBegins s bytes begins = (rest : List ℕ) × (header_at s (take (header_len s) bytes) ≡ Ok (begins, rest))

-- a checkpoint was begun: the header of its file says where it begins in the journal with this id, the rest was read as
-- a part from there on, and the node is past that part, which is all that was read of it; the journal is read no further
pub record IsBegun (s : Layout) (id : List ℕ) (had : List Cell) (bytes : List ℕ) (cells : List Cell)
    (position : Option Position) (next : Next) : Type 0 where
  pub begins : Cursor
  pub end : Cursor
  pub header : FileBegins s bytes begins
  pub of_peer : begins.id ≡ id
  pub tally : Tally
  pub read : after_part s (peer_state begins had) (drop (header_len s) bytes) ≡ Ok (peer_state end cells)
  pub tallied : IsTallied s no_tally begins (drop (header_len s) bytes) (length cells - length had) tally
  pub position_is : position ≡ Some (Checkpoint begins end tally)
  pub next_is : next ≡ More None

-- where the checkpoint being read begins, how far it is read, and what was read of it, if there is one
abbrev pub checkpoint_by : Bool → Option Position → Option (Cursor × Cursor × Tally)
checkpoint_by true (Some (Checkpoint begins place tally)) = Some (begins, place, tally)
checkpoint_by true (Some Newest) = None
checkpoint_by true (Some (Journal place)) = None
checkpoint_by true None = None
checkpoint_by false position = None

abbrev pub asked_checkpoint : Following → Option (Cursor × Cursor × Tally)
asked_checkpoint f = checkpoint_by f.is_greeted f.position

-- a part of it was read from there on, and the node is past that part
pub record IsReadOn (s : Layout) (at : Cursor × Cursor × Tally) (had : List Cell) (bytes : List ℕ) (cells : List Cell)
    (position : Option Position) (next : Next) : Type 0 where
  pub end : Cursor
  pub tally : Tally
  pub read : after_part s (peer_state at.1 had) bytes ≡ Ok (peer_state end cells)
  pub tallied : IsTallied s at.2 at.1 bytes (length cells - length had) tally
  pub position_is : position ≡ Some (Checkpoint at.0 end tally)
  pub next_is : next ≡ More None

-- behind the last part of a checkpoint: if it is whole, the journal is read on from where the checkpoint begins; if not,
-- it is refused, and the newest one is asked for
abbrev pub position_behind : Bool → Cursor → Position
position_behind true begins = Journal begins
position_behind false begins = Newest

abbrev pub next_behind : Bool → Cursor → Result Next PeerFault
next_behind true begins = Ok (More (Some begins))
next_behind false begins = Err NotWhole

-- the checkpoint has no more, and no cells were added
pub record IsAtEnd (at : Cursor × Cursor × Tally) (had cells : List Cell) (position : Option Position)
    (result : Result Next PeerFault) : Type 0 where
  pub same : cells ≡ had
  pub position_is : position ≡ Some (position_behind (is_whole at.2) at.0)
  pub result_is : result ≡ next_behind (is_whole at.2) at.0

-- ---- a peer that has lost what is asked for

-- whether bytes from a place on are asked for, of the journal or of a checkpoint
abbrev pub part_by : Bool → Option Position → Bool
part_by true (Some (Journal place)) = true
part_by true (Some (Checkpoint begins place tally)) = true
part_by true (Some Newest) = false
part_by true None = false
part_by false position = false

-- the peer no longer has the bytes that are asked for
pub record IsGone (f : Following) (answer : PeerAnswer) : Type 0 where
  pub asked : part_by f.is_greeted f.position ≡ true
  pub gone : answer.status ≡ 410

-- whether a checkpoint was begun, and the journal not continued since, after an answer that is taken: a checkpoint is
-- begun if bytes are gone, and the journal is continued by any other answer of it
abbrev pub beginning_by : Bool → Option Position → ℕ → Bool → Bool
beginning_by true (Some (Journal place)) status was = status == 410
beginning_by true (Some (Checkpoint begins place tally)) status was = was || status == 410
beginning_by true (Some Newest) status was = was
beginning_by true None status was = was
beginning_by false position status was = was

abbrev pub beginning_after : Following → PeerAnswer → Bool
beginning_after f answer = beginning_by f.is_greeted f.position answer.status f.is_beginning

-- ---- the greeting

-- how far the journal with an id was read, or where it begins
abbrev pub known_place : List Cursor → List ℕ → Cursor
known_place known id = unwrap_or (find (λ c. pointwise nat_eq c.id id) known) (start id)

-- how far journals were read, with the one that the node is in
abbrev pub places_by : List Cursor → Option Position → List Cursor
places_by known (Some (Journal place)) = with_cursor known place
places_by known (Some Newest) = known
places_by known (Some (Checkpoint begins place tally)) = known
places_by known None = known

abbrev pub places_of : Following → List Cursor
places_of f = places_by f.known.items f.position

-- where the node is in the store of a peer whose journal has an id: where it was, if it was in that one's; else as far
-- as that journal was read
abbrev pub greeted_by : Option Position → Bool → Cursor → Position
greeted_by (Some position) true known = position
greeted_by (Some position) false known = Journal known
greeted_by None same known = Journal known

abbrev pub greeted_position : Following → List ℕ → Position
greeted_position f id = greeted_by f.position (pointwise nat_eq f.id id) (known_place (places_of f) id)

-- the peer was greeted and gave the id of its journal, which says where the node is then
pub record IsGreeted (old : Following) (answer : PeerAnswer) (new : Following) (next : Next) : Type 0 where
  pub status : answer.status ≡ 204
  pub told : answer.id ≡ Some new.id
  pub position : new.position ≡ Some (greeted_position old new.id)
  pub greeted : new.is_greeted ≡ true
  pub next_is : next ≡ More None
