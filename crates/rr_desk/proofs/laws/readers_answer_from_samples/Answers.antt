use Rattle.rr_desk.proofs.HistoriesLemmas as histories
use Rattle.rr_desk.proofs.laws.readers_answer_from_samples.Goals as goal

pub returns : goal.returns
returns c = record {
  answers = histories.answers_are_of_samples;
  given = histories.cells_given_are_whole;
  saved =
      histories.cells_saved_are_whole;
}
