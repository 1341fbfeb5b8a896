use Rattle.rr_desk.proofs.HistoriesLemmas as histories
use Rattle.rr_desk.proofs.laws.operations_are_known.Goals as goal

pub returns : goal.returns
returns c = record {
  step = histories.operations_are_known;
  whole = histories.lists_are_known;
  beginnings =
      histories.beginnings_are_histories;
}
