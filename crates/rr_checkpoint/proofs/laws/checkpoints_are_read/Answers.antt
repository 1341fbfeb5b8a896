use Rattle.rr_checkpoint.proofs.FileLemmas.{checkpoints_are_read, checkpoints_are_taken}
use Rattle.rr_checkpoint.proofs.WholeLemmas.{checkpoints_are_whole}
use Rattle.rr_checkpoint.proofs.laws.checkpoints_are_read.Goals as goal

pub returns : goal.returns
returns c = record { read = checkpoints_are_read; taken = checkpoints_are_taken; whole = checkpoints_are_whole }
