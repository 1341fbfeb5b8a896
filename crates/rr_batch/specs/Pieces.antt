-- What the pieces of a connection for lines make of a keeper.
use Rattle.std.specs.Prelude.{◌≡◌, ◌≢◌, ℕ, ◌-◌, ◌^◌, ℤ, Bool, true, false, List, ◌++◌, take, Option, Some, None, MatchOption, if◌then◌else◌}
use Rattle.std.specs.BTreeMap.{get}
use Rattle.std.specs.Ordering.{nat_cmp}
use Rattle.rr_connection.specs.declared.lines.Piece.{Piece}
use Rattle.rr_desk.specs.KeeperState.{KeeperState}
use Rattle.rr_feed.specs.Items.{Item}
use Rattle.rr_host.specs.Clock.{HasGiven}
use Rattle.rr_node.specs.declared.line_stream.LineStream.{LineStream}
use Rattle.rr_node.specs.declared.report.Report.{Report}
use Rattle.rr_node.specs.LineStream.{EndsAmong, IsFresh, TakesAmong, rules_by}
use Rattle.rr_reactor.specs.declared.item.Work.{Work}
use Rattle.rr_reactor.specs.declared.item.Work.TheVariants as work
use Rattle.rr_batch.specs.declared.writer.Writer.{Writer}
use Rattle.rr_batch.specs.Answers.{PendingView, decided, body, lines, closed}
use Rattle.rr_batch.specs.Taking.{Change, rules_in}

-- the lines of a connection up to its next piece, by its key
abbrev pub stream_of : Writer → ℕ → Option LineStream
stream_of w key = get nat_cmp w.streams key

-- a stream of which nothing has come, and whose lines are taken as the writer takes them
pub record IsNewStream (w : Writer) (s : LineStream) : Type 0 where
  pub fresh : IsFresh s
  pub rules : rules_by s ≡ rules_in w

-- a piece goes on with the stream of its connection; the first one, or one without a stream, with a new stream
abbrev pub GoesOnWith : Writer → ℕ → Bool → LineStream → Type 0
GoesOnWith w key is_first s =
    MatchOption (if is_first then None else stream_of w key) (IsNewStream w s) (λ known. s ≡ known)

-- the lines of other connections are as they were
abbrev pub KeepsOthers : Writer → Writer → ℕ → Type 0
KeepsOthers old new key = (other : ℕ) → other ≢ key → stream_of new other ≡ stream_of old other

-- as much of a text as memory can hold
abbrev pub all_of : List ℕ → List ℕ
all_of text = take (2 ^ 64 - 1) text

-- the lines of a piece were taken, and their refusals given; its stream stays
pub record TakesPiece (old new : Writer) (key : ℕ) (piece : Piece) (change : Change) (refusals : List ℕ) : Type 0 where
  pub stream : LineStream
  pub after : LineStream
  pub goes_on : GoesOnWith old key piece.is_first stream
  pub handed : List Item
  pub moments : List ℤ
  pub answers : List ℕ
  pub gave : HasGiven change.given change.since moments
  pub taken : TakesAmong stream after change.before change.now piece.text.items handed moments answers
  pub kept : refusals ≡ all_of answers
  pub stays : stream_of new key ≡ Some after

-- the lines of the last piece were taken, and what was left of the stream, as a line; the report is of all its lines
pub record EndsWithPiece (old new : Writer) (key : ℕ) (piece : Piece) (change : Change) (refusals : List ℕ)
    (report : Report) : Type 0 where
  pub stream : LineStream
  pub after : LineStream
  pub goes_on : GoesOnWith old key piece.is_first stream
  pub between : KeeperState
  pub handed : List Item
  pub last : List Item
  pub moments : List ℤ
  pub later : List ℤ
  pub answers : List ℕ
  pub more : List ℕ
  pub gave : HasGiven change.given change.since (moments ++ later)
  pub taken : TakesAmong stream after change.before between piece.text.items handed moments answers
  pub ended : EndsAmong after between change.now last later more report
  pub kept : refusals ≡ all_of (answers ++ more)
  pub over : stream_of new key ≡ None

-- the lines of a piece were taken, or those of the last one; or its connection is closed, and its stream is gone
abbrev pub AddsPiece : Writer → Writer → ℕ → Piece → Change → PendingView → Type 0
AddsPiece old new key piece change (decided reply) = ⊥
AddsPiece old new key piece change (body refusals report) = ⊥
AddsPiece old new key piece change (lines refusals None) =
    (piece.is_last ≡ false) × TakesPiece old new key piece change refusals
AddsPiece old new key piece change (lines refusals (Some report)) =
    (piece.is_last ≡ true) × EndsWithPiece old new key piece change refusals report
AddsPiece old new key piece change closed = stream_of new key ≡ None

-- a piece was taken, and no other connection's lines were touched
pub record TookPiece (old new : Writer) (key : ℕ) (piece : Piece) (change : Change) (pending : PendingView) : Type 0 where
  pub adds : AddsPiece old new key piece change pending
  pub others : KeepsOthers old new key

-- this holds of the piece of an item that has one
abbrev pub OfPiece : Work → (Piece → Type 0) → Type 0
OfPiece (work.Request request) P = Unit {0}
OfPiece (work.Piece piece) P = P piece
