-- What the lines of an item make of a keeper.
use Rattle.std.specs.Prelude.{◌≡◌, ℕ, ℤ, List, take, Option, Some, None}
use Rattle.rr_connection.specs.Requests.{RequestView, request_view}
use Rattle.rr_host.specs.Clock.{HasGiven}
use Rattle.rr_line.specs.declared.precision.Precision.{Precision}
use Rattle.rr_desk.specs.KeeperState.{KeeperState}
use Rattle.rr_node.specs.declared.report.Report.{Report}
use Rattle.rr_node.specs.declared.rules.Rules.{Rules}
use Rattle.rr_node.specs.Lines.{rules_of}
use Rattle.rr_node.specs.LineStream.{AreTaken}
use Rattle.rr_reactor.specs.declared.item.Work.{Work}
use Rattle.rr_reactor.specs.declared.item.Work.TheVariants as work
use Rattle.rr_web.specs.Refusals.{refused_write}
use Rattle.rr_batch.specs.declared.refusals.RefusalCounts.{RefusalCounts}
use Rattle.rr_batch.specs.declared.writer.Writer.{Writer}
use Rattle.rr_batch.specs.declared.writer.TheConstants.{MAX_REFUSALS}
use Rattle.rr_batch.specs.Answers.{PendingView, decided, body, lines, closed}
use Rattle.rr_batch.specs.Refusals.{CountsRefused}

-- a keeper, and what a clock gave, before an item and after it
pub record Change : Type 0 where
  pub before : KeeperState
  pub now : KeeperState
  pub given : Option (List ℤ)
  pub since : Option (List ℤ)

-- how a writer takes lines
abbrev pub rules_in : Writer → Rules
rules_in w = rules_of w.precision w.lead

-- all lines of a body were taken, and the first of their refusals are kept
pub record TakesBody (rules : Rules) (bytes : List ℕ) (change : Change) (refusals : List ℕ) (report : Report)
    : Type 0 where
  pub moments : List ℤ
  pub answers : List ℕ
  pub gave : HasGiven change.given change.since moments
  pub kept : refusals ≡ take MAX_REFUSALS answers
  pub taken : AreTaken rules change.before change.now bytes moments answers report

-- a request is refused, and no line of it is taken; or all are
abbrev pub TakesRequest : Precision → Rules → RequestView → Change → PendingView → Type 0
TakesRequest precision rules request change (decided reply) =
    (refused_write precision request ≡ Some reply) × (change.now ≡ change.before)
TakesRequest precision rules request change (body refusals report) =
    (refused_write precision request ≡ None) × TakesBody rules request.body change refusals report
TakesRequest precision rules request change (lines refusals report) = ⊥
TakesRequest precision rules request change closed = ⊥

-- the refused lines of an item are counted: of a body all, of a piece those that came with it
abbrev pub CountsPending : RefusalCounts → RefusalCounts → PendingView → Type 0
CountsPending old new (decided reply) = new ≡ old
CountsPending old new (body refusals report) = CountsRefused old new refusals report.refused
CountsPending old new (lines refusals report) = (refused : ℕ) × CountsRefused old new refusals refused
CountsPending old new closed = new ≡ old

-- this holds of the request of an item that has one
abbrev pub OfRequest : Work → (RequestView → Type 0) → Type 0
OfRequest (work.Request request) P = P (request_view request)
OfRequest (work.Piece piece) P = Unit {0}
