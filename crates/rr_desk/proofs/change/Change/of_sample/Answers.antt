use Rattle.std.proofs.Common.{rules}
use Rattle.rr_desk.proofs.NamingLemmas.{put-change}
use Rattle.rr_desk.proofs.change.Change.of_sample.Goals as goal

pub returns : goal.returns
returns g = put-change g.args.series g.args.sample.now _ (search rules)
