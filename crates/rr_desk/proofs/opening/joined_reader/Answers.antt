use Rattle.rr_desk.proofs.RuleLemmas.{admits}
use Rattle.rr_desk.proofs.opening.joined_reader.Goals as goal

pub reader-requires : goal.reader-requires
reader-requires g c x = admits _
