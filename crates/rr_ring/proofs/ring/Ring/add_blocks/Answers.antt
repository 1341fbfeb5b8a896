use Rattle.std.proofs.Common.{rules, ◌≡◌, [], ◌∷◌, ◌++◌, refl, ap, ◌∙◌}
use Rattle.rr_ring.specs.Blocks.{items_by_position}
use Rattle.rr_ring.proofs.RingLemmas.{blocks_grown}
use Rattle.rr_ring.proofs.ring.Ring.add_blocks.Goals as goal

pub loop-self-preserved : goal.loop-self-preserved
loop-self-preserved c =
    let was = c.loop-self.self.blocks.items in
    let more : c.push.new.self.items ≡ was ++ (c.new.result ∷ []) = search rules in (
      ap items_by_position more ∙ blocks_grown was c.new.result c.new.ensures
          ∙ c.loop-self.invariant.0,
      c.loop-self.invariant.1,
    )

pub returns-in_err-reserve_exact-clause-same : goal.returns-in_err-reserve_exact-clause-same
returns-in_err-reserve_exact-clause-same c = ap items_by_position (search rules)

pub loop-self-init : goal.loop-self-init
loop-self-init c = (ap items_by_position (search rules), refl)
