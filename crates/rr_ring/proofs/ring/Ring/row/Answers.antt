use Rattle.std.proofs.Common.{rules, ◌≡◌, ◌<◌, ◌≤◌, ◌/◌, ◌%◌, length, sym, ap, ◌∙◌, Some, to_z, of_z, w64}
use Rattle.std.specs.Prelude.{slice_get}
use Rattle.std.proofs.lemmas.Option.{slice_get-get_or, slice_get_past}
use Rattle.rr_ring.specs.declared.block.Block.{Block}
use Rattle.rr_ring.specs.declared.block.TheConstants.{BLOCK_ROWS}
use Rattle.rr_ring.specs.Positions.{position_of}
use Rattle.rr_ring.specs.Blocks.{block_items, items_of_block, items_by_position}
use Rattle.rr_ring.specs.Ring.{ring_row}
use Rattle.rr_ring.proofs.ring.Ring.row.Goals as goal

pub returns-in-Some : goal.returns-in-Some
unfolding ring_row items_by_position
returns-in-Some c =
    let ring = c.args.self.now in
    let block : Block = c.in-Some.block.now in
    let slot : to_z w64 (of_z w64 c.args.slot) ≡ c.args.slot = search rules in
    let n = c.position-position.result in
    let at : n ≡ position_of ring.rows c.args.slot = c.position-position.ensures.position
    ∙ ap (position_of ring.rows) slot in
    let all : c.deref.result.now ≡ ring.blocks.items = search rules in
    let within : n / BLOCK_ROWS < length c.deref.result.now = c.in-Some.ensures.lookup.3.0 in
    let has : slice_get ring.blocks.items (n / BLOCK_ROWS) ≡ Some block =
    ap (λ xs. slice_get xs (n / BLOCK_ROWS)) (sym all)
    ∙ slice_get-get_or c.deref.result.now (n / BLOCK_ROWS) block within
    ∙ ap (λ x. Some x) (sym c.in-Some.ensures.lookup.1) in
    c.entries.ensures ∙ ap (block_items block (n % BLOCK_ROWS)) slot
    ∙ ap (λ o. items_of_block o (n % BLOCK_ROWS) c.args.slot) (sym has)
    ∙ ap (λ k. items_by_position ring.blocks.items k c.args.slot) at

pub returns-in-None : goal.returns-in-None
unfolding ring_row items_by_position
returns-in-None c =
    let ring = c.args.self.now in
    let slot : to_z w64 (of_z w64 c.args.slot) ≡ c.args.slot = search rules in
    let n = c.position-position.result in
    let at : n ≡ position_of ring.rows c.args.slot = c.position-position.ensures.position
    ∙ ap (position_of ring.rows) slot in
    let all : c.deref.result.now ≡ ring.blocks.items = search rules in
    let past : length ring.blocks.items ≤ n / BLOCK_ROWS = rw all at c.in-None.ensures.lookup.3 in
    sym (ap (λ o. items_of_block o (n % BLOCK_ROWS) c.args.slot)
    (slice_get_past ring.blocks.items (n / BLOCK_ROWS) past))
    ∙ ap (λ k. items_by_position ring.blocks.items k c.args.slot) at
