use Rattle.std.proofs.Common.{rules, refl}
use Rattle.rr_desk.proofs.NamingLemmas.{join-change}
use Rattle.rr_desk.proofs.change.Change.join.Goals as goal

pub returns : goal.returns
returns g = join-change g.args.series g.args.cell.now _ _ refl (search rules)
