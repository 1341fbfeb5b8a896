use Rattle.rr_checkpoint.proofs.LawLemmas.{checkpoints_bring_all, checkpoints_make_the_last}
use Rattle.rr_checkpoint.proofs.laws.checkpoints_make_the_last.Goals as goal

pub returns : goal.returns
returns c = record { all = checkpoints_bring_all; last = checkpoints_make_the_last }
