-- How the code takes the lines of a connection.
use Rattle.std.specs.Prelude.{◌≡◌, ◌≢◌, ◌⊎◌, ℕ, ◌+◌, ◌^◌, ◌<◌, ◌≤◌, ℤ, true, false, List, [], ◌∷◌, ◌++◌, length, count_by, fold, Result, Ok, Err, Option, IfOk, OnErr, OnOk, if◌then◌else◌}
use Rattle.std.specs.declared.alloc.AllocError.{AllocError}
use Rattle.std.specs.Io.KnownBytes.{Appends}
use mathlib.Core.List.{IsPrefix}
use Rattle.rr_feed.specs.declared.piece.TheConstants.{PIECE}
use Rattle.rr_feed.specs.Feed.{FeedState, empty_feed, items_left, state, MayCome}
use Rattle.rr_feed.specs.Items.{Item, items}
use Rattle.rr_feed.specs.Laws.{IsFed}
use Rattle.rr_io.specs.declared.counted.Counted.{Counted}
use Rattle.rr_io.specs.Counted.{inner_of, is_flushed, one_more}
use Rattle.rr_io.specs.Stream.{AppendsPrefix, WritesWhole}
use Rattle.rr_line.specs.declared.fault.LineFault.{LineFault}
use Rattle.rr_line.specs.declared.fault.LineFault.TheVariants.{Memory}
use Rattle.rr_line.specs.Fault.{line_fault_name}
use Rattle.rr_line.specs.Known.{Sample, samples_of}
use Rattle.rr_point.specs.Point.{PointView}
use Rattle.rr_text.specs.declared.limits.TheConstants.{MAX_FIELDS}
use Rattle.rr_text.specs.Refusal.{refusal_text}
use Rattle.rr_desk.specs.KeeperState.{KeeperState, own_replica, with_all_published}
use Rattle.rr_node.specs.declared.answer.Answer.{Answer}
use Rattle.rr_node.specs.declared.answer.Answer.TheVariants as says
use Rattle.rr_node.specs.declared.connection.Connection.{Connection}
use Rattle.rr_node.specs.declared.fault.NodeFault.{NodeFault}
use Rattle.rr_node.specs.declared.report.Report.{Report}
use Rattle.rr_node.specs.declared.rules.Rules.{Rules}
use Rattle.rr_host.specs.Clock.{HasGiven}
use Rattle.rr_node.specs.Blame.{StaysFlushed, WritesOut}
use Rattle.rr_node.specs.Lines.{Verdict, skipped, put, refused, Served, after, answer_of, asks_clock, first_of, keeper_with, keeper_with_some, keeper_within, verdict_of, verdict_of_point, with_item}

-- the answer tells what came of a verdict
abbrev pub IsAnswer : Verdict → Answer → Type 0
IsAnswer skipped says.Nothing = Unit {0}
IsAnswer (put p time) (says.Put count) = count ≡ length p.fields
IsAnswer (refused name) (says.Refused text) = text.now ≡ name
IsAnswer verdict answer = ⊥

-- what a line with this answer adds to the answers, and the report with it
abbrev pub text_to : ℕ → Answer → List ℕ
text_to number says.Nothing = []
text_to number (says.Put count) = []
text_to number (says.Refused text) = refusal_text number text.now

abbrev pub counted_in : Report → Answer → Report
counted_in r says.Nothing = r
counted_in r (says.Put count) = record { points = r.points + 1; samples = r.samples + count; refused = r.refused }
counted_in r (says.Refused text) = record { points = r.points; samples = r.samples; refused = r.refused + 1 }

-- no more samples than a line may have fields
abbrev pub IsFew : Answer → Type 0
IsFew says.Nothing = Unit {0}
IsFew (says.Put count) = count ≤ MAX_FIELDS
IsFew (says.Refused text) = Unit {0}

-- a verdict's operations are pending, and this is the answer; or memory ran out, and some of them are
abbrev pub Handled : Verdict → KeeperState → KeeperState → Result Answer AllocError → Type 0
Handled verdict old new (Ok answer) = (new ≡ keeper_with old verdict) × IsAnswer verdict answer
Handled verdict old new (Err e) = (count : ℕ) × (new ≡ keeper_with_some old verdict count)

-- how many moments a line asks for
abbrev pub moments_asked : Rules → Item → ℕ
moments_asked rules item = if asks_clock rules item then 1 else 0

-- a line is taken, with the moment that it asked for; or memory ran out before anything was done
abbrev pub HandledAt : Rules → Item → List ℤ → KeeperState → KeeperState → Result Answer AllocError → Type 0
HandledAt rules item asked old new result =
    ((length asked ≡ moments_asked rules item) × Handled (verdict_of rules (first_of asked) (own_replica old) item) old
    new result)
    ⊎ ((asked ≡ []) × (new ≡ old) × ((e : AllocError) × (result ≡ Err e)))

-- a point is taken at a moment that the clock gives
abbrev pub TakenNow : Option ℕ → PointView → KeeperState → KeeperState → Option (List ℤ) → Option (List ℤ)
    → Result Answer AllocError → Type 0
TakenNow lead p old new given since result =
    (now : ℤ) × HasGiven given since (now ∷ []) × Handled (verdict_of_point lead now (own_replica old) p) old new result

-- a point is taken, and has no more samples than a line may have fields
pub record TakesPoint (lead : Option ℕ) (p : PointView) (old new : KeeperState) (given since : Option (List ℤ))
    (result : Result Answer AllocError) : Type 0 where
  pub taken : TakenNow lead p old new given since result
  pub count_fits : IfOk result IsFew

-- samples are taken as a point with them and no others, at this time or none
pub record TakesSamples (lead : Option ℕ) (samples : List Sample) (time : Option ℤ) (old new : KeeperState)
    (given since : Option (List ℤ)) (result : Result Answer AllocError) : Type 0 where
  pub taken : (p : PointView) → samples_of p ≡ samples → p.time ≡ time → TakenNow lead p old new given since result
  pub count_fits : IfOk result IsFew

-- a line is taken at a moment of the clock
pub record HandledItem (rules : Rules) (item : Item) (old new : KeeperState) (given since : Option (List ℤ))
    (result : Result Answer AllocError) : Type 0 where
  pub asked : List ℤ
  pub gave : HasGiven given since asked
  pub taken : HandledAt rules item asked old new result
  pub count_fits : IfOk result IsFew

-- a refused line is answered with the name of its fault, unless memory ran out
pub record Refuses (fault : LineFault) (result : Result Answer AllocError) : Type 0 where
  pub named : IfOk result (IsAnswer (refused (line_fault_name fault)))
  pub read : OnOk result (fault ≢ Memory)
  pub count_fits : IfOk result IsFew

-- a connection can take a piece: the number of pieces fits, and the piece is not too long
pub record ConnectionMayTake (c : Connection) (piece : List ℕ) : Type 0 where
  pub pieces_fit : c.pieces + 1 < 2 ^ 32
  pub fits : length piece ≤ PIECE

-- a piece was taken
pub record ConnectionTakesPiece (old new : Connection) (piece : List ℕ) : Type 0 where
  pub feed : new.feed ≡ state (old.feed.left ++ piece) old.feed.skipping old.feed.ended
  pub pieces : new.pieces ≡ old.pieces + 1
  pub lines : new.lines ≡ old.lines
  pub report : new.report ≡ old.report
  pub rules : new.rules ≡ old.rules

-- a connection as it stands, with these moments to come
abbrev pub served_so_far : Connection → KeeperState → List ℕ → List ℤ → Served
served_so_far c keeper answers moments = record {
  keeper = keeper;
  moments = moments;
  lines = c.lines;
  answers = answers;
  report = c.report;
}

-- what was handed out of the bytes that were pushed was served with these moments, whatever the clock gives later
pub record HasServed (c : Connection) (start : KeeperState) (pushed : List ℕ) (moments : List ℤ) (now : KeeperState)
    (answers : List ℕ) : Type 0 where
  pub handed : List Item
  pub fed : IsFed pushed handed c.feed
  pub asked : length moments ≡ count_by (asks_clock c.rules) handed
  pub served : (later : List ℤ) → after c.rules start (moments ++ later) handed ≡ served_so_far c now answers later

-- no line has come yet on a connection with these rules
pub record IsNew (expected : Rules) (c : Connection) : Type 0 where
  pub feed : c.feed ≡ empty_feed
  pub pieces : c.pieces ≡ 0
  pub lines : c.lines ≡ 0
  pub report : c.report ≡ record { points = 0; samples = 0; refused = 0 }
  pub rules : c.rules ≡ expected
  pub nothing : (start : KeeperState) → HasServed c start [] [] start []

-- items were handed out and served with these moments and answers
pub record ServedItems (old new : Connection) (before now : KeeperState) (moments : List ℤ) (answers : List ℕ)
    : Type 0 where
  pub served : (start : KeeperState) (pushed : List ℕ) (given : List ℤ) (text : List ℕ)
      → HasServed old start pushed given before text
      → HasServed new start pushed (given ++ moments) now (text ++ answers)
  pub ended : new.feed.ended ≡ old.feed.ended
  pub pieces : new.pieces ≡ old.pieces
  pub rules : new.rules ≡ old.rules

-- all items that could be handed out were, and served with these moments and answers
pub record ServedAllItems (old new : Connection) (before now : KeeperState) (moments : List ℤ) (answers : List ℕ)
    : Type 0 where
  pub items : ServedItems old new before now moments answers
  pub all_taken : items_left new.feed ≡ []

-- ---- among the writes of others

-- these items were handed out, and served, starting with a keeper, with these moments and answers, whatever was served
-- before, for this connection or for others, and whatever the clock gives later
pub record ServesAmong (old new : Connection) (before now : KeeperState) (handed : List Item) (moments : List ℤ)
    (answers : List ℕ) : Type 0 where
  pub fed : (pushed : List ℕ) (earlier : List Item) → IsFed pushed earlier old.feed
      → IsFed pushed (earlier ++ handed) new.feed
  pub asked : length moments ≡ count_by (asks_clock new.rules) handed
  pub served : (later : List ℤ) → fold (with_item new.rules) (served_so_far old before [] (moments ++ later)) handed
      ≡ served_so_far new now answers later
  pub rules : new.rules ≡ old.rules

-- these are all that could be handed out
pub record ServesAllAmong (old new : Connection) (before now : KeeperState) (handed : List Item) (moments : List ℤ)
    (answers : List ℕ) : Type 0 where
  pub items : ServesAmong old new before now handed moments answers
  pub all_taken : items_left new.feed ≡ []
  pub ended : new.feed.ended ≡ old.feed.ended

-- ---- where it ends

-- the inputs that begin with what was pushed
abbrev pub ComesAfter : FeedState → List ℕ → List ℕ → Type 0
ComesAfter feed pushed bytes = (more : List ℕ) × (bytes ≡ pushed ++ more) × MayCome feed more true

-- these lines, which are a prefix of the items whatever comes, were served with these moments, and so were the first
-- operations of one more; or they are all of them, and all was published
pub record EndsWithin (rules : Rules) (start now : KeeperState) (Comes : List ℕ → Type 0) (moments : List ℤ)
    : Type 0 where
  pub lines : List Item
  pub last : List Item
  pub count : ℕ
  pub input : (bytes : List ℕ) → Comes bytes → IsPrefix (lines ++ last) (items true bytes)
  pub asked : length moments ≡ count_by (asks_clock rules) (lines ++ last)
  pub keeper : (now ≡ keeper_within rules (after rules start moments lines) last count)
      ⊎ ((last ≡ []) × ((bytes : List ℕ) → Comes bytes → lines ≡ items true bytes)
      × (now ≡ with_all_published (after rules start moments lines).keeper))

-- a call ended within these lines, and a prefix of their answer was written, whatever the clock gives later
pub record Stops (rules : Rules) (start now : KeeperState) (Comes : List ℕ → Type 0) (moments : List ℤ)
    (written since : Option (List ℕ)) : Type 0 where
  pub ends : EndsWithin rules start now Comes moments
  pub answered : (bytes : List ℕ) → Comes bytes → (later : List ℤ)
      → AppendsPrefix written since (answer_of (after rules start (moments ++ later) (items true bytes)))
  pub reported : ((ends.last ≡ []) × (now ≡ with_all_published (after rules start moments ends.lines).keeper))
      ⊎ ((bytes : List ℕ) → Comes bytes → (later : List ℤ)
      → AppendsPrefix written since (after rules start (moments ++ later) (items true bytes)).answers)

-- memory ran out while items were served with these moments
abbrev pub StoppedByMemory : Connection → KeeperState → KeeperState → List ℤ → Type 0
StoppedByMemory old before now moments =
    (start : KeeperState) (pushed : List ℕ) (given : List ℤ) (text : List ℕ)
    → HasServed old start pushed given before text
    → EndsWithin old.rules start now (ComesAfter old.feed pushed) (given ++ moments)

-- so it did, or a write failed; the writer had what was answered before
abbrev pub StoppedWriting : Connection → KeeperState → KeeperState → List ℤ → Option (List ℕ) → Option (List ℕ) → Type 0
StoppedWriting old before now moments written since =
    (start : KeeperState) (pushed : List ℕ) (given : List ℤ) (text : List ℕ) (first : Option (List ℕ))
    → HasServed old start pushed given before text
    → Appends first written text → Stops old.rules start now (ComesAfter old.feed pushed) (given ++ moments) first since

-- so it did at the end of the input, after which no more comes
abbrev pub StoppedAtEnd : Connection → KeeperState → KeeperState → List ℤ → Option (List ℕ) → Option (List ℕ) → Type 0
StoppedAtEnd old before now moments written since =
    (start : KeeperState) (pushed : List ℕ) (given : List ℤ) (text : List ℕ) (first : Option (List ℕ))
    → HasServed old start pushed given before text
    → Appends first written text → Stops old.rules start now (λ bytes. bytes ≡ pushed) (given ++ moments) first since

-- all lines of the input were served, which is no more than what was pushed
pub record IsWhole (rules : Rules) (start now : KeeperState) (counted : Report) (bytes : List ℕ) (moments : List ℤ)
    (written since : Option (List ℕ)) : Type 0 where
  pub asked : length moments ≡ count_by (asks_clock rules) (items true bytes)
  pub keeper : now ≡ with_all_published (after rules start moments (items true bytes)).keeper
  pub report : counted ≡ (after rules start moments (items true bytes)).report
  pub answered : Appends written since (answer_of (after rules start moments (items true bytes)))

abbrev pub ServedAll : Connection → KeeperState → KeeperState → Report → List ℤ → Option (List ℕ) → Option (List ℕ)
    → Type 0
ServedAll old before now counted moments written since =
    (start : KeeperState) (pushed : List ℕ) (given : List ℤ) (text : List ℕ) (first : Option (List ℕ))
    → HasServed old start pushed given before text
    → Appends first written text → IsWhole old.rules start now counted pushed (given ++ moments) first since

-- the clock was renewed, all lines that came were served, and their answers were written and passed on; or memory ran
-- out or a write failed, and the lines were served up to there
pub record AnswersLines {C W X : Type 0} (given : C → Option (List ℤ)) (renewals : C → ℕ)
    (contents : W → Option (List ℕ)) (old new : Connection) (before now : KeeperState) (clock clock_new : C)
    (output output_new : Counted W)
    (result : Result X NodeFault) : Type 0 where
  pub served : OnOk result ((moments : List ℤ) × (text : List ℕ) × HasGiven (given clock) (given clock_new) moments
      × WritesWhole contents output output_new text × ServedAllItems old new before now moments text)
  pub stopped : OnErr result ((moments : List ℤ) × HasGiven (given clock) (given clock_new) moments
      × StoppedWriting old before now moments (contents (inner_of output)) (contents (inner_of output_new)))
  pub renewed : renewals clock_new ≡ one_more (renewals clock)
  pub flushed : OnOk result (StaysFlushed output output_new)
  pub writes : WritesOut output output_new result

-- the clock was renewed, the lines of the whole input were served, all was published, and all answers and the report
-- were written and passed on; or memory ran out or a write failed, and the lines were served up to there
pub record Finishes {C W : Type 0} (given : C → Option (List ℤ)) (renewals : C → ℕ) (contents : W → Option (List ℕ))
    (old : Connection) (before now : KeeperState) (clock clock_new : C) (output output_new : Counted W)
    (result : Result Report NodeFault)
    : Type 0 where
  pub served : IfOk result (λ counted. (moments : List ℤ) × HasGiven (given clock) (given clock_new) moments
      × ServedAll old before now counted moments (contents (inner_of output)) (contents (inner_of output_new)))
  pub stopped : OnErr result ((moments : List ℤ) × HasGiven (given clock) (given clock_new) moments
      × StoppedAtEnd old before now moments (contents (inner_of output)) (contents (inner_of output_new)))
  pub renewed : renewals clock_new ≡ one_more (renewals clock)
  pub flushed : OnOk result (is_flushed output_new ≡ true)
  pub writes : WritesOut output output_new result
