use Rattle.std.proofs.Common.{rules, ◌≡◌, ◌<◌, ◌+◌, ◌+ℤ◌, pos, sym, ap, ◌∙◌, arith, to_z, of_z, w64}
use Rattle.rr_ring.specs.Positions.{position_of}
use Rattle.rr_ring.specs.Blocks.{items_by_position}
use Rattle.rr_ring.specs.Ring.{ring_row}
use Rattle.rr_ring.proofs.PositionLemmas.{position_on}
use Rattle.rr_ring.proofs.RingLemmas.{blocks_unmade}
use Rattle.rr_ring.proofs.ring.Ring.slots_on.Goals as goal

pub returns : goal.returns
unfolding ring_row
returns c = record {
  at_least_one = search rules;
  at_most = search rules;
  empty =
      λ i some h.
      let ring = c.args.self.now in
      let slot : to_z w64 (of_z w64 c.args.slot) ≡ c.args.slot = search rules in
      let at : c.position-position.result ≡ position_of ring.rows c.args.slot = c.position-position.ensures.position
      ∙ ap (position_of ring.rows) slot in
      let near : position_of ring.rows c.args.slot + i < ring.rows = omega arith in
      ap (λ k. items_by_position ring.blocks.items k (c.args.slot +ℤ pos i))
      (position_on ring.rows c.args.slot i ring.rows_at_least near ∙ ap (λ k. k + i) (sym at))
      ∙ blocks_unmade ring.blocks.items c.position-position.result i (c.args.slot +ℤ pos i) (omega arith) (omega arith);
}
