use Rattle.std.proofs.Common.{rules, ◌≡◌, ◌<◌, length, sym, ap, ◌∙◌, subst, refl, true≢false, Some, to_z, of_z, w64}
use Rattle.std.specs.Prelude.{slice_get, IsTrue, IsOk}
use Rattle.std.proofs.lemmas.Option.{slice_get-get_or}
use Rattle.std.proofs.lemmas.Result.{on_ok_weaker}
use Rattle.rr_ring.specs.declared.stored_row.StoredRow.{StoredRow}
use Rattle.rr_ring.specs.StoredRows.{has_room_at}
use Rattle.rr_ring.proofs.RingLemmas.{block_alike, block_room_made, block_room, block_room_within}
use Rattle.rr_ring.proofs.block.Block.make_room.Goals as goal

pub returns : goal.returns
returns c = record {
  same =
      let made = c.make_rows.new.self in
      let was : StoredRow = c.index_mut.result.now in
      let within : c.args.number < length made.rows.items = search rules in
      let has : slice_get made.rows.items c.args.number ≡ Some was =
      slice_get-get_or made.rows.items c.args.number was within ∙ ap (λ x. Some x) (sym c.index_mut.ensures.value) in
      block_alike made _ c.args.number was c.make_room.new.self has refl c.make_room.ensures.same
      ∙ c.make_rows.ensures.same;
  room =
      let made = c.make_rows.new.self in
      let slot : to_z w64 (of_z w64 c.args.slot) ≡ c.args.slot = search rules in
      let within : c.args.number < length made.rows.items = search rules in
      on_ok_weaker c.make_room.result (λ room. block_room_made made _ c.args.number c.make_room.new.self c.args.slot
      c.args.origin within refl room) (rw slot at c.make_room.ensures.room);
  room_suffices = λ room.
      let made = c.make_rows.new.self in
      let was : StoredRow = c.index_mut.result.now in
      let slot : to_z w64 (of_z w64 c.args.slot) ≡ c.args.slot = search rules in
      let within : c.args.number < length made.rows.items = search rules in
      let has : slice_get made.rows.items c.args.number ≡ Some was =
      slice_get-get_or made.rows.items c.args.number was within ∙ ap (λ x. Some x) (sym c.index_mut.ensures.value) in
      c.make_room.ensures.room_suffices (subst (λ z. IsTrue (has_room_at (Some was) z c.args.origin)) (sym slot)
      (block_room c.args.self.now made c.args.number was c.args.slot c.args.origin c.make_rows.ensures.rows_stay has
      room));
}

pub returns-in_err-make_rows : goal.returns-in_err-make_rows
returns-in_err-make_rows c = record {
  same = search rules;
  room = search rules;
  room_suffices = λ room.
      let ok : IsOk c.make_rows.result = c.make_rows.ensures.room
      (block_room_within c.args.self.now c.args.number c.args.slot c.args.origin room) in
      absurd (true≢false (sym (subst IsOk c.in_err-make_rows.was ok)));
}
