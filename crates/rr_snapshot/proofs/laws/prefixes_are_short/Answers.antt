use Rattle.rr_snapshot.proofs.CutLemmas.{prefixes_are_short}
use Rattle.rr_snapshot.proofs.laws.prefixes_are_short.Goals as goal

pub returns : goal.returns
returns c = prefixes_are_short
