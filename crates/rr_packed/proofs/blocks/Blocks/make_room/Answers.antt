use Rattle.std.proofs.Common.{rules, ◌≡◌, ◌<◌, ◌≤◌, length, sym, ap, ◌∙◌, subst, true≢false, to_z, of_z, w64}
use Rattle.std.specs.Prelude.{IsOk}
use Rattle.std.specs.Option.{option_to_list}
use Rattle.std.proofs.lemmas.Result.{on_ok_weaker}
use Rattle.rr_packed.specs.Slots.{block_of, row_of, begins_before}
use Rattle.rr_packed.specs.Blocks.{all_blocks, items_of_block, IsPlaceOf}
use Rattle.rr_packed.proofs.NumberLemmas.{older_put, newest_put, none_past}
use Rattle.rr_packed.proofs.BlocksLemmas.{blocks_alike, room_found, room_at, room_there, room_stays}
use Rattle.rr_packed.proofs.blocks.Blocks.make_room.Goals as goal

pub returns-in_err-at : goal.returns-in_err-at
returns-in_err-at c = record {
  same = search rules;
  room = search rules;
  room_suffices =
      λ room.
      let slot : to_z w64 (of_z w64 c.args.slot) ≡ c.args.slot = search rules in
      let ok : IsOk c.place_of.result = (rw slot at c.place_of.ensures.was_there)
      (room_there c.args.self.now c.args.slot c.args.origin room) in
      absurd (true≢false (sym (subst IsOk c.in_err-at.was ok)));
}

-- ---- an older block

pub invariant_of-self : goal.invariant_of-self
invariant_of-self c =
    let a = c.place_of.new.self in
    let place : IsPlaceOf (block_of c.args.slot) (all_blocks a) c.in_ok-at.at = search rules in
    let within : c.in_ok-at.at < length a.older.items = search rules in
    let put = older_put a.older.items (option_to_list a.newest) (block_of c.args.slot) c.in_ok-at.at
    c.index_mut.result.now c.make_room.new.self a.ordered place within c.index_mut.ensures.value in
    record {
      ordered = put.ascend;
      none_before = ap (begins_before a.dropped) put.numbers ∙ a.none_before;
    }

pub returns-then-at-len : goal.returns-then-at-len
returns-then-at-len c = record {
  same =
      let a = c.place_of.new.self in
      let place : IsPlaceOf (block_of c.args.slot) (all_blocks a) c.in_ok-at.at = search rules in
      let within : c.in_ok-at.at < length a.older.items = search rules in
      let put = older_put a.older.items (option_to_list a.newest) (block_of c.args.slot) c.in_ok-at.at
      c.index_mut.result.now c.make_room.new.self a.ordered place within c.index_mut.ensures.value in
      blocks_alike (all_blocks a) _ (block_of c.args.slot) c.make_room.new.self put.sets
      (c.make_room.ensures.same ∙ ap items_of_block (sym put.has)) ∙ c.place_of.ensures.same;
  room =
      let a = c.place_of.new.self in
      let place : IsPlaceOf (block_of c.args.slot) (all_blocks a) c.in_ok-at.at = search rules in
      let row : c.row_of-row.result.value ≡ row_of c.args.slot = search rules in
      let within : c.in_ok-at.at < length a.older.items = search rules in
      let put = older_put a.older.items (option_to_list a.newest) (block_of c.args.slot) c.in_ok-at.at
      c.index_mut.result.now c.make_room.new.self a.ordered place within c.index_mut.ensures.value in
      on_ok_weaker c.make_room.result (room_at (all_blocks a) _ c.args.slot c.args.origin c.make_room.new.self put.sets)
      (rw row at c.make_room.ensures.room);
  room_suffices =
      λ room.
      let a = c.place_of.new.self in
      let slot : to_z w64 (of_z w64 c.args.slot) ≡ c.args.slot = search rules in
      let still = room_stays c.args.self.now a c.args.slot c.args.origin (rw slot at c.place_of.ensures.stays) room in
      let place : IsPlaceOf (block_of c.args.slot) (all_blocks a) c.in_ok-at.at = search rules in
      let row : c.row_of-row.result.value ≡ row_of c.args.slot = search rules in
      let within : c.in_ok-at.at < length a.older.items = search rules in
      let put = older_put a.older.items (option_to_list a.newest) (block_of c.args.slot) c.in_ok-at.at
      c.index_mut.result.now c.make_room.new.self a.ordered place within c.index_mut.ensures.value in
      (rw row at c.make_room.ensures.room_suffices) (room_found a c.args.slot c.args.origin c.index_mut.result.now.1
      (sym put.has) still);
}

-- ---- the newest

pub returns-in-Some : goal.returns-in-Some
returns-in-Some c = record {
  same =
      let a = c.place_of.new.self in
      let place : IsPlaceOf (block_of c.args.slot) (all_blocks a) c.in_ok-at.at = search rules in
      let past : length a.older.items ≤ c.in_ok-at.at = search rules in
      let put = newest_put a.older.items a.newest (block_of c.args.slot) c.in_ok-at.at (
        c.in-Some.field-0-0,
        c.in-Some.block,
      )
      c.make_room-in-Some.new.self c.in-Some.is a.ordered place past in
      blocks_alike (all_blocks a) _ (block_of c.args.slot) c.make_room-in-Some.new.self put.sets
      (c.make_room-in-Some.ensures.same ∙ ap items_of_block (sym put.has)) ∙ c.place_of.ensures.same;
  room =
      let a = c.place_of.new.self in
      let place : IsPlaceOf (block_of c.args.slot) (all_blocks a) c.in_ok-at.at = search rules in
      let row : c.row_of-row.result.value ≡ row_of c.args.slot = search rules in
      let past : length a.older.items ≤ c.in_ok-at.at = search rules in
      let put = newest_put a.older.items a.newest (block_of c.args.slot) c.in_ok-at.at (
        c.in-Some.field-0-0,
        c.in-Some.block,
      )
      c.make_room-in-Some.new.self c.in-Some.is a.ordered place past in
      on_ok_weaker c.make_room-in-Some.result (room_at (all_blocks a) _ c.args.slot c.args.origin
      c.make_room-in-Some.new.self put.sets) (rw row at c.make_room-in-Some.ensures.room);
  room_suffices =
      λ room.
      let a = c.place_of.new.self in
      let slot : to_z w64 (of_z w64 c.args.slot) ≡ c.args.slot = search rules in
      let still = room_stays c.args.self.now a c.args.slot c.args.origin (rw slot at c.place_of.ensures.stays) room in
      let place : IsPlaceOf (block_of c.args.slot) (all_blocks a) c.in_ok-at.at = search rules in
      let row : c.row_of-row.result.value ≡ row_of c.args.slot = search rules in
      let past : length a.older.items ≤ c.in_ok-at.at = search rules in
      let put = newest_put a.older.items a.newest (block_of c.args.slot) c.in_ok-at.at (
        c.in-Some.field-0-0,
        c.in-Some.block,
      )
      c.make_room-in-Some.new.self c.in-Some.is a.ordered place past in
      (rw row at c.make_room-in-Some.ensures.room_suffices) (room_found a c.args.slot c.args.origin c.in-Some.block
      (sym put.has) still);
}

-- ---- none

pub returns-in-None : goal.returns-in-None
returns-in-None c = record {
  same = search rules;
  room =
      let a = c.place_of.new.self in
      let place : IsPlaceOf (block_of c.args.slot) (all_blocks a) c.in_ok-at.at = search rules in
      let past : length a.older.items ≤ c.in_ok-at.at = search rules in
      absurd (none_past a.older.items a.newest (block_of c.args.slot) c.in_ok-at.at c.in-None.is place past);
  room_suffices = search rules;
}
