use Rattle.std.proofs.Common.{◌∙◌, rules}
use Rattle.rr_codec.proofs.RecentLemmas.{place_is}
use Rattle.rr_codec.proofs.recent.place_of.Goals as goal

pub returns : goal.returns
returns c = search rules ∙ place_is c.args.recent.now c.args.origin
