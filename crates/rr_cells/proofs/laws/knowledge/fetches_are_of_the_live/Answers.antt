use Rattle.rr_cells.proofs.Fetches.{rows_are_of_the_live, fetches_are_of_the_live, live_answers_alike}
use Rattle.rr_cells.proofs.laws.knowledge.fetches_are_of_the_live.Goals as goal

pub returns : goal.returns
returns c = record { rows = rows_are_of_the_live; texts = fetches_are_of_the_live; live_alone = live_answers_alike }
