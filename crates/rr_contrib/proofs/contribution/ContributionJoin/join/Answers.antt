use Rattle.std.proofs.Common.{◌≡◌, Some}
use Rattle.std.specs.Ordering.{ord_max}
use Rattle.rr_contrib.specs.Contributions.{contribution_cmp}
use Rattle.rr_contrib.specs.ContributionOrder.{contribution_cmp-IsAntisymmetric}
use Rattle.rr_contrib.proofs.contribution.ContributionJoin.join.Goals as goal

pub returns : goal.returns
returns c =
    let kept : Some c.join_max.result ≡ Some (ord_max contribution_cmp c.args.self.now c.args.other.now) =
    c.join_max.ensures.merged contribution_cmp-IsAntisymmetric in
    cc
