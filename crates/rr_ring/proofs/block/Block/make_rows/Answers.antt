use Rattle.std.proofs.Common.{rules, ◌∙◌}
use Rattle.rr_ring.proofs.RingLemmas.{block_same, block_grown}
use Rattle.rr_ring.proofs.block.Block.make_rows.Goals as goal

pub returns-in_err-reserve-clause-same : goal.returns-in_err-reserve-clause-same
returns-in_err-reserve-clause-same c = block_same c.args.self.now _ (search rules)

pub loop-self-init : goal.loop-self-init
loop-self-init c = block_same c.args.self.now _ (search rules)

pub loop-self-preserved : goal.loop-self-preserved
loop-self-preserved c = block_grown c.loop-self.self _ c.blank.result (search rules) c.blank.ensures
    ∙ c.loop-self.invariant

pub returns-in_err-push-clause-same : goal.returns-in_err-push-clause-same
returns-in_err-push-clause-same c = block_same c.loop-self.self _ (search rules) ∙ c.loop-self.invariant
