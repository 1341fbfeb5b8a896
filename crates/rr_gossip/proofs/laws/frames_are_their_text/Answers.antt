use Rattle.rr_gossip.proofs.FrameLemmas.{frames_are_their_text}
use Rattle.rr_gossip.proofs.laws.frames_are_their_text.Goals as goal

pub returns : goal.returns
returns c = frames_are_their_text
