use Rattle.std.proofs.Common.{◌≤◌, length, refl, map, ap, ◌∙◌, arith}
use Rattle.std.proofs.lemmas.List.{take_all}
use Rattle.rr_ring.proofs.RingLemmas.{blocks_copied, rows_same, stored_rows}
use Rattle.rr_ring.proofs.ring.Ring.copy.Goals as goal

pub returns-clause-row : goal.returns-clause-row
returns-clause-row c =
    let old = c.args.self.now.blocks.items in
    let past : length old ≤ c.loop-block.block-index = omega arith in
    rows_same c.args.self.now _ refl (blocks_copied old c.loop-block.blocks.items
    (c.loop-block.invariant ∙ ap (map stored_rows) (take_all c.loop-block.block-index old past)))
