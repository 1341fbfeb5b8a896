use Rattle.rr_checkpoint.proofs.LawLemmas.{reads_go_forward}
use Rattle.rr_checkpoint.proofs.laws.reads_go_forward.Goals as goal

pub returns : goal.returns
returns c = reads_go_forward
