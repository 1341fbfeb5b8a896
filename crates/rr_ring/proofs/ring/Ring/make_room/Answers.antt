use Rattle.std.proofs.Common.{rules, ◌≡◌, ◌<◌, ◌/◌, ◌%◌, length, set, sym, ap, ◌∙◌, subst, true≢false, Some, to_z, of_z, w64}
use Rattle.std.specs.Prelude.{slice_get, IsTrue, IsOk}
use Rattle.std.proofs.lemmas.Option.{slice_get-get_or}
use Rattle.std.proofs.lemmas.Result.{on_ok_weaker}
use Rattle.rr_ring.specs.declared.block.TheConstants.{BLOCK_ROWS}
use Rattle.rr_ring.specs.Positions.{position_of}
use Rattle.rr_ring.specs.Blocks.{has_room_in, has_room_by_position}
use Rattle.rr_ring.specs.Ring.{has_room}
use Rattle.rr_ring.proofs.RingLemmas.{blocks_alike, blocks_room_made, blocks_room, blocks_room_within, rows_same}
use Rattle.rr_ring.proofs.ring.Ring.make_room.Goals as goal

pub returns-in_err-add_blocks-clause-made : goal.returns-in_err-add_blocks-clause-made
unfolding has_room
returns-in_err-add_blocks-clause-made c = record {
  same = rows_same c.args.self.now c.add_blocks.new.self c.add_blocks.ensures.rows
      c.add_blocks.ensures.same;
  room = search rules;
  room_suffices = λ room.
      let ring = c.args.self.now in
      let slot : to_z w64 (of_z w64 c.args.slot) ≡ c.args.slot = search rules in
      let at : c.position-position.result ≡ position_of ring.rows c.args.slot = c.position-position.ensures.position
      ∙ ap (position_of ring.rows) slot in
      let here = subst (λ k. IsTrue (has_room_by_position ring.blocks.items k c.args.slot c.args.origin)) (sym at)
      room in
      let ok : IsOk c.add_blocks.result = c.add_blocks.ensures.room
      (blocks_room_within ring.blocks.items c.position-position.result c.args.slot c.args.origin here) in
      absurd (true≢false (sym (subst IsOk c.in_err-add_blocks.was ok)));
}

pub returns-clause-made : goal.returns-clause-made
unfolding has_room
returns-clause-made c = record {
  same =
      let b = c.position-position.result / BLOCK_ROWS in
      let blocks = c.add_blocks.new.self.blocks.items in
      let within : b < length blocks = search rules in
      let has : slice_get blocks b ≡ Some c.index_mut.result.now = slice_get-get_or blocks b c.index_mut.result.now
      within
      ∙ ap (λ x. Some x) (sym c.index_mut.ensures.value) in
      rows_same c.args.self.now _ c.add_blocks.ensures.rows
      (blocks_alike blocks b c.index_mut.result.now c.make_room.new.self has c.make_room.ensures.same
      ∙ c.add_blocks.ensures.same);
  room =
      let at = c.position-position.result in
      let made = c.add_blocks.new.self in
      let slot : to_z w64 (of_z w64 c.args.slot) ≡ c.args.slot = search rules in
      let within : at / BLOCK_ROWS < length made.blocks.items = search rules in
      let is : at ≡ position_of made.rows c.args.slot = c.position-position.ensures.position
      ∙ (λ i. position_of (sym c.add_blocks.ensures.rows i) (slot i)) in
      on_ok_weaker c.make_room.result (λ room. subst
      (λ k. IsTrue (has_room_by_position (set made.blocks.items (at / BLOCK_ROWS) c.make_room.new.self) k c.args.slot
      c.args.origin)) is (blocks_room_made made.blocks.items at c.make_room.new.self c.args.slot c.args.origin within
      room)) (rw slot at c.make_room.ensures.room);
  room_suffices = λ room.
      let ring = c.args.self.now in
      let at = c.position-position.result in
      let blocks = c.add_blocks.new.self.blocks.items in
      let slot : to_z w64 (of_z w64 c.args.slot) ≡ c.args.slot = search rules in
      let is : at ≡ position_of ring.rows c.args.slot = c.position-position.ensures.position
      ∙ ap (position_of ring.rows) slot in
      let within : at / BLOCK_ROWS < length blocks = search rules in
      let has : slice_get blocks (at / BLOCK_ROWS) ≡ Some c.index_mut.result.now =
      slice_get-get_or blocks (at / BLOCK_ROWS) c.index_mut.result.now within
      ∙ ap (λ x. Some x) (sym c.index_mut.ensures.value) in
      let here = subst (λ k. IsTrue (has_room_by_position ring.blocks.items k c.args.slot c.args.origin)) (sym is)
      room in
      c.make_room.ensures.room_suffices (subst (λ z. IsTrue (has_room_in c.index_mut.result.now (at % BLOCK_ROWS) z
      c.args.origin))
      (sym slot) (blocks_room ring.blocks.items blocks at c.index_mut.result.now c.args.slot c.args.origin
      c.add_blocks.ensures.blocks_stay has here));
}
