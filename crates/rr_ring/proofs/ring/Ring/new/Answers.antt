use Rattle.std.proofs.Common.{rules, ◌≡◌, [], ap}
use Rattle.std.specs.Prelude.{slice_get, ◌/◌, ◌%◌}
use Rattle.rr_ring.specs.declared.block.TheConstants.{BLOCK_ROWS}
use Rattle.rr_ring.specs.Positions.{position_of}
use Rattle.rr_ring.specs.Blocks.{items_by_position, items_of_block}
use Rattle.rr_ring.specs.Ring.{ring_row}
use Rattle.rr_ring.proofs.ring.Ring.new.Goals as goal

pub returns-clause-empty : goal.returns-clause-empty
unfolding ring_row items_by_position
returns-clause-empty c = λ slot.
    let none : c.new.result.items ≡ [] = search rules in
    let at = position_of c.args.rows slot in
    ap (λ bs. items_of_block (slice_get bs (at / BLOCK_ROWS)) (at % BLOCK_ROWS) slot) none
