-- How the items of a batch are answered, by whether the batch is saved.
use Rattle.std.specs.Prelude.{ℕ, Bool, true, false, not, List, ◌++◌, Option, Some, None}
use Rattle.rr_connection.specs.Answer.{ReplyView as ResponseView, reply_view as response_view}
use Rattle.rr_node.specs.declared.report.Report.{Report}
use Rattle.rr_node.specs.Lines.{report_text, report_line}
use Rattle.rr_reactor.specs.declared.item.Answer.{Answer}
use Rattle.rr_reactor.specs.declared.item.Outcome.{Outcome}
use Rattle.rr_reactor.specs.declared.item.Outcome.TheVariants as outcome
use Rattle.rr_web.specs.Reply.{ReplyView, reply_view, write_reply_of}
use Rattle.rr_web.specs.Response.{response_of}
use Rattle.rr_batch.specs.declared.pending.Pending.{Pending}
use Rattle.rr_batch.specs.declared.pending.Pending.TheVariants as pending
use Rattle.rr_batch.specs.declared.pending.Waiting.{Waiting}

-- what an item came to: a decided reply; the refusals and the report of a body; those of a piece of lines, where the
-- report comes with the last piece; or that its connection is closed
pub data PendingView : Type 0 where
  decided : (reply : ReplyView) → PendingView
  body : (refusals : List ℕ) (report : Report) → PendingView
  lines : (refusals : List ℕ) (report : Option Report) → PendingView
  closed : PendingView

abbrev pub pending_view : Pending → PendingView
pending_view (pending.Decided reply) = decided (reply_view reply)
pending_view (pending.Body taken) = body taken.refusals.items taken.report
pending_view (pending.Lines refusals report) = lines refusals.items report
pending_view pending.Closed = closed

-- what comes of an item: a response, a text, or the end of its connection
pub data OutcomeView : Type 0 where
  response : (is : ResponseView) → OutcomeView
  text : (bytes : List ℕ) → OutcomeView
  nothing : OutcomeView

abbrev pub outcome_view : Outcome → OutcomeView
outcome_view (outcome.Reply reply) = response (response_view reply)
outcome_view (outcome.Text bytes) = text bytes.items
outcome_view outcome.Nothing = nothing

pub record AnswerView : Type 0 where
  pub key : ℕ
  pub outcome : OutcomeView

abbrev pub answer_view : Answer → AnswerView
answer_view a = record { key = a.key; outcome = outcome_view a.outcome }

-- a body is acknowledged only if it is saved
abbrev pub body_outcome : List ℕ → Bool → List ℕ → Report → OutcomeView
body_outcome product is_saved refusals report =
    response (response_of product (write_reply_of (not is_saved) refusals (Some (report_line report))))

-- refusals are answered as they come; the report only if all its lines are saved, or else the connection is closed
abbrev pub lines_outcome : Bool → List ℕ → Option Report → OutcomeView
lines_outcome is_saved refusals None = text refusals
lines_outcome true refusals (Some report) = text (refusals ++ report_text report)
lines_outcome false refusals (Some report) = nothing

abbrev pub outcome_of : List ℕ → Bool → PendingView → OutcomeView
outcome_of product is_saved (decided reply) = response (response_of product reply)
outcome_of product is_saved (body refusals report) = body_outcome product is_saved refusals report
outcome_of product is_saved (lines refusals report) = lines_outcome is_saved refusals report
outcome_of product is_saved closed = nothing

-- the answer to an item
abbrev pub answer_to : List ℕ → Bool → Waiting → AnswerView
answer_to product is_saved waiting =
    record { key = waiting.key; outcome = outcome_of product is_saved (pending_view waiting.pending) }
