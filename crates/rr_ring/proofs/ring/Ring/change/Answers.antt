use Rattle.std.proofs.Common.{rules, ◌≡◌, ◌<◌, ◌/◌, ◌%◌, length, sym, ap, ◌∙◌, subst, refl, true≢false, Some, to_z, of_z, w64}
use Rattle.std.specs.Prelude.{slice_get, is_none, IsTrue, IsOk}
use Rattle.std.proofs.lemmas.Option.{slice_get-get_or}
use Rattle.std.proofs.lemmas.Result.{on_ok_weaker, on_err_weaker, IfOk-weaker}
use Rattle.rr_archive.specs.Row.{entry_at}
use Rattle.rr_archive.specs.Changes.{Fits}
use Rattle.rr_ring.specs.declared.block.TheConstants.{BLOCK_ROWS}
use Rattle.rr_ring.specs.Positions.{position_of}
use Rattle.rr_ring.specs.Blocks.{has_room_in, has_room_by_position}
use Rattle.rr_ring.specs.Ring.{has_room}
use Rattle.rr_ring.proofs.RingLemmas.{blocks_alike, blocks_room, blocks_room_within, rows_same, row_read, rows_after}
use Rattle.rr_ring.proofs.ring.Ring.change.Goals as goal

pub returns-in_err-add_blocks-clause-unchanged : goal.returns-in_err-add_blocks-clause-unchanged
returns-in_err-add_blocks-clause-unchanged c = let same =
    rows_same c.args.self.now c.add_blocks.new.self c.add_blocks.ensures.rows c.add_blocks.ensures.same in
    search (rules, same)

pub returns-in_err-add_blocks-clause-room : goal.returns-in_err-add_blocks-clause-room
unfolding has_room
returns-in_err-add_blocks-clause-room c = λ room.
    let ring = c.args.self.now in
    let slot : to_z w64 (of_z w64 c.args.slot) ≡ c.args.slot = search rules in
    let at : c.position-position.result ≡ position_of ring.rows c.args.slot = c.position-position.ensures.position
    ∙ ap (position_of ring.rows) slot in
    let here = subst (λ k. IsTrue (has_room_by_position ring.blocks.items k c.args.slot c.args.origin)) (sym at) room in
    let ok : IsOk c.add_blocks.result = c.add_blocks.ensures.room
    (blocks_room_within ring.blocks.items c.position-position.result c.args.slot c.args.origin here) in
    absurd (true≢false (sym (subst IsOk c.in_err-add_blocks.was ok)))

-- the block of the position, and that it is the slot's
record Found (c : goal.After-index_mut) : Type 0 where
  slot : to_z w64 (of_z w64 c.args.slot) ≡ c.args.slot
  at : c.position-position.result ≡ position_of c.args.self.now.rows c.args.slot
  within : c.position-position.result / BLOCK_ROWS < length c.add_blocks.new.self.blocks.items
  has : slice_get c.add_blocks.new.self.blocks.items (c.position-position.result / BLOCK_ROWS)
      ≡ Some c.index_mut.result.now

found : (c : goal.After-index_mut) → Found c
found c =
    let slot : to_z w64 (of_z w64 c.args.slot) ≡ c.args.slot = search rules in
    let within : c.position-position.result / BLOCK_ROWS < length c.add_blocks.new.self.blocks.items = search rules in
    record {
      slot = slot;
      at = c.position-position.ensures.position ∙ ap (position_of c.args.self.now.rows) slot;
      within = within;
      has = slice_get-get_or c.add_blocks.new.self.blocks.items (c.position-position.result / BLOCK_ROWS)
          c.index_mut.result.now within ∙ ap (λ x. Some x) (sym c.index_mut.ensures.value);
    }

pub change-requires : goal.change-requires
change-requires c =
    let f = found c in
    let here = row_read c.args.self.now c.add_blocks.new.self.blocks.items c.position-position.result
    c.index_mut.result.now c.args.slot f.at f.has c.add_blocks.ensures.same in
    let slot = f.slot in
    rw slot (subst (λ es. Fits (entry_at es c.args.origin) c.args.change.now) (sym here) c.requires)

pub returns-clause-changed : goal.returns-clause-changed
returns-clause-changed c =
    let f = found c.before.before.before in
    let slot = f.slot in
    on_ok_weaker c.change.result (λ changed. rows_after c.args.self.now _ c.add_blocks.new.self.blocks.items
    c.position-position.result c.index_mut.result.now c.change.new.self c.args.slot c.args.origin c.args.change.now
    f.at f.has c.add_blocks.ensures.same c.add_blocks.ensures.rows refl changed)
    (rw slot at c.change.ensures.changed)

pub returns-clause-unchanged : goal.returns-clause-unchanged
returns-clause-unchanged c =
    let f = found c.before.before.before in
    on_err_weaker c.change.result (λ same. rows_same c.args.self.now _ c.add_blocks.ensures.rows
    (blocks_alike c.add_blocks.new.self.blocks.items (c.position-position.result / BLOCK_ROWS)
    c.index_mut.result.now c.change.new.self f.has same ∙ c.add_blocks.ensures.same)) c.change.ensures.unchanged

pub returns-clause-room : goal.returns-clause-room
unfolding has_room
returns-clause-room c = λ room.
    let ring = c.args.self.now in
    let f = found c.before.before.before in
    let at = c.position-position.result in
    let here = subst (λ k. IsTrue (has_room_by_position ring.blocks.items k c.args.slot c.args.origin)) (sym f.at)
    room in
    c.change.ensures.room (subst (λ z. IsTrue (has_room_in c.index_mut.result.now (at % BLOCK_ROWS) z c.args.origin))
    (sym f.slot) (blocks_room ring.blocks.items c.add_blocks.new.self.blocks.items at c.index_mut.result.now
    c.args.slot c.args.origin c.add_blocks.ensures.blocks_stay f.has here))

pub returns-clause-is_new : goal.returns-clause-is_new
returns-clause-is_new c =
    let f = found c.before.before.before in
    let slot = f.slot in
    let here = row_read c.args.self.now c.add_blocks.new.self.blocks.items c.position-position.result
    c.index_mut.result.now c.args.slot f.at f.has c.add_blocks.ensures.same in
    IfOk-weaker c.change.result _ _ (λ _ is. is ∙ ap (λ es. is_none (entry_at es c.args.origin)) here)
    (rw slot at c.change.ensures.is_new)
