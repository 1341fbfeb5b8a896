use Rattle.std.proofs.Common.{◌≡◌}
use Rattle.rr_cells.specs.FetchText.{answer_text}
use Rattle.rr_fetch.specs.Answers.{value_of_cells}
use Rattle.rr_fetch.specs.Requests.{request_view}
use Rattle.rr_fetch.proofs.answering.answer_text.Given as goal

-- the records so far are the answer to a request for the rows so far, and the rows are those of the archive
abbrev pub invariant-loop-row : goal.invariant-loop-row
invariant-loop-row g l = record {
  text : l.text.items ≡ answer_text l.replica.schema
      (value_of_cells l.replica.schema l.replica.cells (request_view l.request))
      (record (request_view l.request) { rows = l.row });
  archive : l.rows.archive ≡ l.initial.rows.archive;
}
