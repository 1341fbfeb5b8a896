-- What a keeper makes of the lines of a connection: samples that it puts, answers to refused lines, and a report.
use Rattle.std.specs.Prelude.{◌≡◌, ◌⊎◌, ℕ, ◌+◌, ◌%◌, ◌==◌, ℤ, pos, Bool, true, false, List, [], ◌∷◌, ◌++◌, length, take, fold, count_by, codes, decimal, Option, IfSome, Result, Ok, Err, IfOk, IfErr, OnErr, OnOk, unwrap_or, if◌then◌else◌}
use Rattle.std.specs.Io.KnownBytes.{Appends, Consumes}
use mathlib.Core.List.{IsPrefix}
use Rattle.rr_io.specs.declared.counted.Counted.{Counted}
use Rattle.rr_io.specs.Counted.{is_flushed}
use Rattle.rr_io.specs.Stream.{AppendsPrefix, HasFailed}
use Rattle.rr_feed.specs.Items.{Item, Line, TooLong, items}
use Rattle.rr_line.specs.declared.fault.LineFault.{LineFault}
use Rattle.rr_line.specs.declared.precision.Precision.{Precision}
use Rattle.rr_line.specs.Fault.{line_fault_name}
use Rattle.rr_point.specs.Point.{PointView}
use Rattle.rr_line.specs.Line.{LineView, nothing, point}
use Rattle.rr_line.specs.Reading.{reading}
use Rattle.rr_text.specs.Refusal.{refusal_text}
use Rattle.rr_cells.specs.ReplicaState.{ReplicaState}
use Rattle.rr_replica.specs.Writing.{is_ahead, lacks_numbers}
use Rattle.rr_desk.specs.Points.{with_puts}
use Rattle.rr_desk.specs.KeeperState.{KeeperState, own_replica, with_all_published}
use Rattle.rr_node.specs.declared.fault.NodeFault.{NodeFault}
use Rattle.rr_node.specs.declared.fault.NodeFault.TheVariants.{WriteFailed}
use Rattle.rr_node.specs.declared.report.Report.{Report}
use Rattle.rr_node.specs.declared.rules.Rules.{Rules}
use Rattle.rr_node.specs.declared.rules.TheConstants.{LINES_TO_PUBLISH}
use Rattle.rr_host.specs.Clock.{HasGiven}
use Rattle.rr_node.specs.Blame.{ReadsWithin, StaysFlushed}
use Rattle.rr_node.specs.Fault.{IsOfLines, IsInputFault}

-- lines whose times have this precision, and that may be this much ahead of the clock
abbrev pub rules_of : Precision → Option ℕ → Rules
rules_of precision lead = record { precision = precision; lead = lead }

-- ---- what a line means

-- nothing; samples of a point, at a time; or a refusal by a name
pub data Verdict : Type 0 where
  skipped : Verdict
  put : (p : PointView) (time : ℤ) → Verdict
  refused : (name : List ℕ) → Verdict

-- a point is refused if it is ahead of the clock, or if fewer numbers are left than it has fields
abbrev pub verdict_by : (ahead lacking : Bool) → PointView → ℤ → Verdict
verdict_by ahead lacking p time =
    if ahead then refused (codes "AheadOfClock")
    else (if lacking then refused (codes "NumbersSpent") else put p time)

-- of a point, at a moment of the clock: one without a time is of that moment
abbrev pub verdict_of_point : Option ℕ → ℤ → ReplicaState → PointView → Verdict
verdict_of_point lead now h p =
    verdict_by (is_ahead p.time now lead) (lacks_numbers h (length p.fields)) p (unwrap_or p.time now)

abbrev pub verdict_of_line : Option ℕ → ℤ → ReplicaState → Result LineView LineFault → Verdict
verdict_of_line lead now h (Ok nothing) = skipped
verdict_of_line lead now h (Ok (point p)) = verdict_of_point lead now h p
verdict_of_line lead now h (Err fault) = refused (line_fault_name fault)

abbrev pub verdict_of : Rules → ℤ → ReplicaState → Item → Verdict
verdict_of rules now h (Line bytes) = verdict_of_line rules.lead now h (reading rules.precision bytes)
verdict_of rules now h TooLong = refused (codes "LineTooLong")

-- the clock is asked for a moment for each point, even one with a time of its own
abbrev pub is_point : Result LineView LineFault → Bool
is_point (Ok nothing) = false
is_point (Ok (point p)) = true
is_point (Err fault) = false

abbrev pub asks_clock : Rules → Item → Bool
asks_clock rules (Line bytes) = is_point (reading rules.precision bytes)
asks_clock rules TooLong = false

-- ---- one line after the other

-- a connection after some lines: its keeper, the moments to come, how many lines there were, the answers to them, and
-- the report so far
pub record Served : Type 0 where
  pub keeper : KeeperState
  pub moments : List ℤ
  pub lines : ℕ
  pub answers : List ℕ
  pub report : Report

-- before the first line
abbrev pub served_at_start : KeeperState → List ℤ → Served
served_at_start keeper moments = record {
  keeper = keeper;
  moments = moments;
  lines = 0;
  answers = [];
  report = record { points = 0; samples = 0; refused = 0 };
}

abbrev pub first_of : List ℤ → ℤ
first_of [] = pos 0
first_of (moment ∷ later) = moment

abbrev pub later_than_first : List ℤ → List ℤ
later_than_first [] = []
later_than_first (moment ∷ later) = later

-- the operations of a verdict are pending
abbrev pub keeper_with : KeeperState → Verdict → KeeperState
keeper_with k skipped = k
keeper_with k (put p time) = with_puts k p time p.fields
keeper_with k (refused name) = k

-- a refusal is answered with the number of its line
abbrev pub answer_to : ℕ → Verdict → List ℕ
answer_to number skipped = []
answer_to number (put p time) = []
answer_to number (refused name) = refusal_text number name

abbrev pub report_with : Report → Verdict → Report
report_with r skipped = r
report_with r (put p time) = record {
  points = r.points + 1;
  samples = r.samples + length p.fields;
  refused =
      r.refused;
}
report_with r (refused name) = record { points = r.points; samples = r.samples; refused = r.refused + 1 }

-- all that is pending is published each time the number of lines is a multiple of LINES_TO_PUBLISH
abbrev pub published_after : ℕ → KeeperState → KeeperState
published_after lines k = if lines % LINES_TO_PUBLISH == 0 then with_all_published k else k

abbrev pub with_verdict : Served → Verdict → List ℤ → Served
with_verdict s verdict moments = record {
  keeper = published_after (s.lines + 1) (keeper_with s.keeper verdict);
  moments = moments;
  lines = s.lines + 1;
  answers = s.answers ++ answer_to (s.lines + 1) verdict;
  report = report_with s.report verdict;
}

-- after one more line: a point takes the first of the moments to come
abbrev pub with_item : Rules → Served → Item → Served
with_item rules s item =
    with_verdict s (verdict_of rules (first_of s.moments) (own_replica s.keeper) item)
    (if asks_clock rules item then later_than_first s.moments else s.moments)

-- after these lines, with a clock that gives these moments
abbrev pub after : Rules → KeeperState → List ℤ → List Item → Served
after rules keeper moments lines = fold (with_item rules) (served_at_start keeper moments) lines

-- ---- the whole connection

abbrev pub count_text : List ℕ → ℕ → List ℕ
count_text word count = word ++ decimal count

-- points P samples S refused R, without a line feed
abbrev pub report_line : Report → List ℕ
report_line r =
    count_text (codes "points ") r.points ++ count_text (codes " samples ") r.samples
    ++ count_text (codes " refused ") r.refused

-- the same as a line
abbrev pub report_text : Report → List ℕ
report_text r =
    count_text (codes "points ") r.points ++ count_text (codes " samples ") r.samples
    ++ count_text (codes " refused ") r.refused ++ codes "\n"

-- all that is answered
abbrev pub answer_of : Served → List ℕ
answer_of s = s.answers ++ report_text s.report

-- a keeper, a clock, an input and an output, before a call and after it
pub record Run : Type 0 where
  pub old : KeeperState
  pub new : KeeperState
  pub given : Option (List ℤ)
  pub given_since : Option (List ℤ)
  pub input : Option (List ℕ)
  pub left : Option (List ℕ)
  pub written : Option (List ℕ)
  pub written_since : Option (List ℕ)

-- the lines of the input, if that is known, were served to the end, with the moments that the clock gave, one for each
-- point; then all was published, and all was answered; readers may see what they saw, and more
pub record IsServed (rules : Rules) (run : Run) (counted : Report) : Type 0 where
  pub lines : List Item
  pub moments : List ℤ
  pub input : IfSome run.input (λ bytes. lines ≡ items true bytes)
  pub given : HasGiven run.given run.given_since moments
  pub asked : length moments ≡ count_by (asks_clock rules) lines
  pub keeper : run.new ≡ with_all_published (after rules run.old moments lines).keeper
  pub published : IsPrefix run.old.published run.new.published
  pub report : counted ≡ (after rules run.old moments lines).report
  pub answered : Appends run.written run.written_since (answer_of (after rules run.old moments lines))

-- the first operations of a verdict are pending
abbrev pub keeper_with_some : KeeperState → Verdict → ℕ → KeeperState
keeper_with_some k skipped count = k
keeper_with_some k (put p time) count = with_puts k p time (take count p.fields)
keeper_with_some k (refused name) count = k

-- within the first of these lines, or before it: the first of its operations are pending
abbrev pub keeper_within : Rules → Served → List Item → ℕ → KeeperState
keeper_within rules s [] count = s.keeper
keeper_within rules s (item ∷ later) count =
    keeper_with_some s.keeper (verdict_of rules (first_of s.moments) (own_replica s.keeper) item) count

-- Some lines of the input were served, and perhaps the first operations of one more; or all of them were, and all was
-- published. Readers may see what they saw, and perhaps more. What was answered is a prefix of the whole answer,
-- whatever the clock gives later.
pub record HasStopped (rules : Rules) (run : Run) : Type 0 where
  pub lines : List Item
  pub last : List Item
  pub count : ℕ
  pub moments : List ℤ
  pub input : IfSome run.input (λ bytes. IsPrefix (lines ++ last) (items true bytes))
  pub given : HasGiven run.given run.given_since moments
  pub asked : length moments ≡ count_by (asks_clock rules) (lines ++ last)
  pub keeper : (run.new ≡ keeper_within rules (after rules run.old moments lines) last count)
      ⊎ ((last ≡ []) × IfSome run.input (λ bytes. lines ≡ items true bytes)
      × (run.new ≡ with_all_published (after rules run.old moments lines).keeper))
  pub published : IsPrefix run.old.published run.new.published
  pub answered : (later : List ℤ) → IfSome run.input (λ bytes.
      AppendsPrefix run.written run.written_since (answer_of
      (after rules run.old (moments ++ later) (items true bytes))))
  pub reported : ((last ≡ []) × (run.new ≡ with_all_published (after rules run.old moments lines).keeper))
      ⊎ ((later : List ℤ) → IfSome run.input (λ bytes.
      AppendsPrefix run.written run.written_since (after rules run.old (moments ++ later) (items true bytes)).answers))

-- all lines that came whole were served and answered, and nothing else was
pub record HasServedWhole (rules : Rules) (run : Run) : Type 0 where
  pub came : List ℕ
  pub moments : List ℤ
  pub taken : Consumes run.input run.left came
  pub given : HasGiven run.given run.given_since moments
  pub asked : length moments ≡ count_by (asks_clock rules) (items false came)
  pub keeper : run.new ≡ (after rules run.old moments (items false came)).keeper
  pub answered : Appends run.written run.written_since (after rules run.old moments (items false came)).answers

-- A call that serves lines: what became of them, or how things stand where it failed. Each line is served and answered
-- before the next read: so all were when a read fails, or when no more may be made.
pub record ServesLines {W : Type 0} (rules : Rules) (run : Run) (output output_new : Counted W)
    (result : Result Report NodeFault) : Type 0 where
  pub served : IfOk result (IsServed rules run)
  pub stopped : OnErr result (HasStopped rules run)
  pub at_once : IfErr result (λ fault. IsInputFault fault → HasServedWhole rules run)
  pub flushed : OnOk result (is_flushed output_new ≡ true)
  pub stays_flushed : IfErr result (λ fault. IsInputFault fault → StaysFlushed output output_new)
  pub faults : IfErr result IsOfLines
  pub write_failed : result ≡ Err WriteFailed → HasFailed output output_new

-- a call that serves the lines of an input, and reads it at most this many times
pub record ServesWithin {R W : Type 0} (most : ℕ) (rules : Rules) (run : Run) (input input_new : Counted R)
    (output output_new : Counted W) (result : Result Report NodeFault) : Type 0 where
  pub lines : ServesLines rules run output output_new result
  pub reads : ReadsWithin most input input_new result
