use Rattle.rr_fetch.proofs.RowLaws.{row_of_state, answer_of_state}
use Rattle.rr_fetch.proofs.laws.rows_are_of_samples.Goals as goal

pub returns : goal.returns
returns c = record {
  rows = λ s k key archive slot f is. row_of_state s is k key archive slot f;
  answers = λ s k q is. answer_of_state s is k q;
}
