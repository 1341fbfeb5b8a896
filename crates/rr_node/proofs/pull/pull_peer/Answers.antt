use Rattle.std.proofs.Common.{ap, ◌∙◌}
use Rattle.rr_desk.specs.KeeperState.{KeeperState}
use Rattle.rr_node.proofs.PullsLemmas.{desk_of_joined}
use Rattle.rr_node.proofs.pull.pull_peer.Goals as goal

pub returns-in_err-pull-clause-same_desk : goal.returns-in_err-pull-clause-same_desk
returns-in_err-pull-clause-same_desk g c =
    let stopped = c.in_err-pull.ensures.session.stopped in
    desk_of_joined c.args.keeper.now c.pull.new.target stopped.0 stopped.1

pub returns-in_err-publish-clause-same_desk : goal.returns-in_err-publish-clause-same_desk
returns-in_err-publish-clause-same_desk g c =
    let pulled = c.in_ok-pull.ensures.session.pulled in
    ap (λ (k : KeeperState). k.desk) c.in_err-publish.ensures.state.unchanged
    ∙ desk_of_joined c.args.keeper.now c.pull.new.target pulled.0 pulled.1

pub returns-clause-same_desk : goal.returns-clause-same_desk
returns-clause-same_desk g c =
    let pulled = c.in_ok-pull.ensures.session.pulled in
    ap (λ (k : KeeperState). k.desk) c.in_ok-publish.ensures.state.made
    ∙ desk_of_joined c.args.keeper.now c.pull.new.target pulled.0 pulled.1
