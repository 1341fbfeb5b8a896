use Rattle.rr_recovery.proofs.LawLemmas.{prefixes_make_their_map}
use Rattle.rr_recovery.proofs.laws.prefixes_make_their_map.Goals as goal

pub returns : goal.returns
returns c = prefixes_make_their_map
