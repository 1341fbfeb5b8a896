use Rattle.rr_page.proofs.PrefixLemmas.{prefixes_are_short}
use Rattle.rr_page.proofs.laws.prefixes_are_short.Goals as goal

pub returns : goal.returns
returns c = prefixes_are_short
