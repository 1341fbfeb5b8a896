-- How far the lines of a stream have been reported.
use Rattle.std.specs.Prelude.{◌≡◌, ℕ, ◌+◌, ◌^◌, ◌<◌, ◌≤◌, ℤ, true, false, List, [], ◌++◌, length, count_by, Option, Result, IfOk, OnOk}
use Rattle.std.specs.Io.KnownBytes.{Appends}
use Rattle.rr_io.specs.declared.counted.Counted.{Counted}
use Rattle.rr_io.specs.Counted.{inner_of, is_flushed}
use Rattle.rr_io.specs.Stream.{AppendsPrefix, WritesWhole}
use Rattle.rr_feed.specs.Feed.{MayCome, empty_feed, items_left, state}
use Rattle.rr_feed.specs.Items.{Item}
use Rattle.rr_feed.specs.Laws.{IsFed}
use Rattle.rr_line.specs.declared.precision.Precision.{Precision}
use Rattle.rr_feed.specs.declared.piece.TheConstants.{PIECE}
use Rattle.rr_process.specs.declared.checker.Checker.{Checker}
use Rattle.rr_process.specs.declared.fault.ToolFault.{ToolFault}
use Rattle.rr_process.specs.Report.{is_refused, refused_count, report_from, report_of}
use Rattle.rr_process.specs.Streams.{WritesOut}

-- this text reports what was handed out of the bytes that were pushed, and that is counted
pub record HasReported (c : Checker) (pushed text : List ℕ) : Type 0 where
  pub handed : List Item
  pub fed : IsFed pushed handed c.feed
  pub reported : text ≡ report_from c.precision c.now 1 handed
  pub lines : c.lines ≡ length handed
  pub refused : c.refused ≡ count_by (is_refused c.precision) handed

-- no line has come yet; lines are read with this precision, and a line without a time has this one
pub record IsNew (unit : Precision) (time : ℤ) (c : Checker) : Type 0 where
  pub feed : c.feed ≡ empty_feed
  pub pieces : c.pieces ≡ 0
  pub precision : c.precision ≡ unit
  pub now : c.now ≡ time
  pub nothing : HasReported c [] []

-- a checker can take in a piece: it hasn't ended, the number of pieces fits, and the piece is not too long
pub record CheckerMayTake (c : Checker) (piece : List ℕ) : Type 0 where
  pub going : c.feed.ended ≡ false
  pub pieces_fit : c.pieces + 1 < 2 ^ 32
  pub fits : length piece ≤ PIECE

-- a piece was taken in
pub record CheckerTakesPiece (old new : Checker) (piece : List ℕ) : Type 0 where
  pub feed : new.feed ≡ state (old.feed.left ++ piece) old.feed.skipping old.feed.ended
  pub pieces : new.pieces ≡ old.pieces + 1
  pub lines : new.lines ≡ old.lines
  pub refused : new.refused ≡ old.refused
  pub precision : new.precision ≡ old.precision
  pub now : new.now ≡ old.now

-- items were handed out, this text reports them, and they are counted
pub record Reports (old new : Checker) (text : List ℕ) : Type 0 where
  pub reported : (pushed before : List ℕ) → HasReported old pushed before → HasReported new pushed (before ++ text)
  pub ended : new.feed.ended ≡ old.feed.ended
  pub pieces : new.pieces ≡ old.pieces
  pub precision : new.precision ≡ old.precision
  pub now : new.now ≡ old.now

-- all items that could be handed out were, this text reports them, and they are counted
pub record ReportsAll (old new : Checker) (text : List ℕ) : Type 0 where
  pub reports : Reports old new text
  pub all_taken : items_left new.feed ≡ []

-- the report of the items that could be handed out was written whole; or a prefix of the report of all lines was,
-- whatever lines still come, and the result says why no more was
pub record WritesItems {W X : Type 0} (contents : W → Option (List ℕ)) (old new : Checker)
    (output output_new : Counted W) (result : Result X ToolFault) : Type 0 where
  pub reported : OnOk result ((text : List ℕ) × ReportsAll old new text × WritesWhole contents output output_new text)
  pub prefix : (pushed before more : List ℕ) (start : Option (List ℕ)) → HasReported old pushed before
      → Appends start (contents (inner_of output)) before → MayCome old.feed more true
      → AppendsPrefix start (contents (inner_of output_new)) (report_of old.precision old.now (pushed ++ more))
  pub writes : WritesOut output output_new result

-- the report of all that was pushed was written whole and flushed, and the refused lines are counted; or a prefix of
-- the report was written, and the result says why no more was
pub record WritesReport {W : Type 0} (contents : W → Option (List ℕ)) (old : Checker) (output output_new : Counted W)
    (result : Result ℕ ToolFault) : Type 0 where
  pub reported : OnOk result ((pushed before : List ℕ) (start : Option (List ℕ)) → HasReported old pushed before
      → Appends start (contents (inner_of output)) before
      → Appends start (contents (inner_of output_new)) (report_of old.precision old.now pushed))
  pub refused : IfOk result (λ refused. (pushed before : List ℕ) → HasReported old pushed before
      → refused ≡ refused_count old.precision pushed)
  pub prefix : (pushed before : List ℕ) (start : Option (List ℕ)) → HasReported old pushed before
      → Appends start (contents (inner_of output)) before
      → AppendsPrefix start (contents (inner_of output_new)) (report_of old.precision old.now pushed)
  pub flushed : OnOk result (is_flushed output_new ≡ true)
  pub writes : WritesOut output output_new result
