use Rattle.std.proofs.Common.{rules, ◌≡◌, ◌<◌, ◌≤◌, ℤ, List, length, sym, ap, ◌∙◌, subst, true≢false, to_z, of_z, w64}
use Rattle.std.specs.Prelude.{IsOk}
use Rattle.std.specs.Option.{option_to_list}
use Rattle.std.proofs.lemmas.Result.{on_ok_weaker, on_err_weaker}
use Rattle.rr_archive.specs.declared.entry.Entry.{Entry}
use Rattle.rr_archive.specs.Row.{entry_at}
use Rattle.rr_archive.specs.Changes.{Fits}
use Rattle.rr_packed.specs.Slots.{block_of, row_of, begins_before}
use Rattle.rr_packed.specs.Blocks.{all_blocks, row_at, stored_in, items_of_block, IsPlaceOf}
use Rattle.rr_packed.proofs.NumberLemmas.{older_put, newest_put, none_past}
use Rattle.rr_packed.proofs.BlocksLemmas.{blocks_alike, slot_found, room_found, room_there, room_stays, change_there}
use Rattle.rr_packed.proofs.blocks.Blocks.change.Goals as goal

pub returns-in_err-at : goal.returns-in_err-at
returns-in_err-at c = record {
  changed = search rules;
  unchanged = search rules;
  room =
      λ room.
      let slot : to_z w64 (of_z w64 c.args.slot) ≡ c.args.slot = search rules in
      let ok : IsOk c.place_of.result = (rw slot at c.place_of.ensures.was_there)
      (room_there c.args.self.now c.args.slot c.args.origin room) in
      absurd (true≢false (sym (subst IsOk c.in_err-at.was ok)));
}

-- ---- an older block

pub change-requires : goal.change-requires
change-requires c =
    let a = c.place_of.new.self in
    let place : IsPlaceOf (block_of c.args.slot) (all_blocks a) c.in_ok-at.at = search rules in
    let was = c.index_mut.result.now in
    let row : c.row_of-row.result.value ≡ row_of c.args.slot = search rules in
    let within : c.in_ok-at.at < length a.older.items = search rules in
    let put = older_put a.older.items (option_to_list a.newest) (block_of c.args.slot) c.in_ok-at.at was was.1 a.ordered
    place within c.index_mut.ensures.value in
    let fits = subst (λ (f : ℤ → List Entry). Fits (entry_at (f c.args.slot) c.args.origin) c.args.change.now)
    (sym c.place_of.ensures.same) c.requires in
    subst (λ (es : List Entry). Fits (entry_at es c.args.origin) c.args.change.now)
    (slot_found (all_blocks a) c.args.slot was.1 (sym put.has) ∙ ap (stored_in was.1) (sym row)) fits

pub invariant_of-self : goal.invariant_of-self
invariant_of-self c =
    let a = c.place_of.new.self in
    let place : IsPlaceOf (block_of c.args.slot) (all_blocks a) c.in_ok-at.at = search rules in
    let within : c.in_ok-at.at < length a.older.items = search rules in
    let put = older_put a.older.items (option_to_list a.newest) (block_of c.args.slot) c.in_ok-at.at
    c.index_mut.result.now c.change.new.self a.ordered place within c.index_mut.ensures.value in
    record {
      ordered = put.ascend;
      none_before = ap (begins_before a.dropped) put.numbers ∙ a.none_before;
    }

pub returns-then-at-len : goal.returns-then-at-len
returns-then-at-len c = record {
  changed =
      let a = c.place_of.new.self in
      let place : IsPlaceOf (block_of c.args.slot) (all_blocks a) c.in_ok-at.at = search rules in
      let was = c.index_mut.result.now in
      let row : c.row_of-row.result.value ≡ row_of c.args.slot = search rules in
      let within : c.in_ok-at.at < length a.older.items = search rules in
      let put = older_put a.older.items (option_to_list a.newest) (block_of c.args.slot) c.in_ok-at.at was
      c.change.new.self a.ordered place within c.index_mut.ensures.value in
      on_ok_weaker c.change.result (change_there (row_at c.args.self.now) (all_blocks a) _ c.args.slot was.1
      c.change.new.self c.args.origin c.args.change.now c.place_of.ensures.same put.sets (sym put.has))
      (rw row at c.change.ensures.changed);
  unchanged =
      let a = c.place_of.new.self in
      let place : IsPlaceOf (block_of c.args.slot) (all_blocks a) c.in_ok-at.at = search rules in
      let within : c.in_ok-at.at < length a.older.items = search rules in
      let put = older_put a.older.items (option_to_list a.newest) (block_of c.args.slot) c.in_ok-at.at
      c.index_mut.result.now c.change.new.self a.ordered place within c.index_mut.ensures.value in
      on_err_weaker c.change.result (λ same. blocks_alike (all_blocks a) _ (block_of c.args.slot) c.change.new.self
      put.sets (same ∙ ap items_of_block (sym put.has)) ∙ c.place_of.ensures.same) c.change.ensures.unchanged;
  room =
      λ room.
      let a = c.place_of.new.self in
      let slot : to_z w64 (of_z w64 c.args.slot) ≡ c.args.slot = search rules in
      let still = room_stays c.args.self.now a c.args.slot c.args.origin (rw slot at c.place_of.ensures.stays) room in
      let place : IsPlaceOf (block_of c.args.slot) (all_blocks a) c.in_ok-at.at = search rules in
      let row : c.row_of-row.result.value ≡ row_of c.args.slot = search rules in
      let within : c.in_ok-at.at < length a.older.items = search rules in
      let put = older_put a.older.items (option_to_list a.newest) (block_of c.args.slot) c.in_ok-at.at
      c.index_mut.result.now c.change.new.self a.ordered place within c.index_mut.ensures.value in
      (rw row at c.change.ensures.room) (room_found a c.args.slot c.args.origin c.index_mut.result.now.1 (sym put.has)
      still);
}

-- ---- the newest

pub change-requires-in-Some : goal.change-requires-in-Some
change-requires-in-Some c =
    let a = c.place_of.new.self in
    let place : IsPlaceOf (block_of c.args.slot) (all_blocks a) c.in_ok-at.at = search rules in
    let was = c.in-Some.block in
    let row : c.row_of-row.result.value ≡ row_of c.args.slot = search rules in
    let past : length a.older.items ≤ c.in_ok-at.at = search rules in
    let put = newest_put a.older.items a.newest (block_of c.args.slot) c.in_ok-at.at (c.in-Some.field-0-0, was) was
    c.in-Some.is a.ordered place past in
    let fits = subst (λ (f : ℤ → List Entry). Fits (entry_at (f c.args.slot) c.args.origin) c.args.change.now)
    (sym c.place_of.ensures.same) c.requires in
    subst (λ (es : List Entry). Fits (entry_at es c.args.origin) c.args.change.now)
    (slot_found (all_blocks a) c.args.slot was (sym put.has) ∙ ap (stored_in was) (sym row)) fits

pub returns-in-Some : goal.returns-in-Some
returns-in-Some c = record {
  changed =
      let a = c.place_of.new.self in
      let place : IsPlaceOf (block_of c.args.slot) (all_blocks a) c.in_ok-at.at = search rules in
      let was = c.in-Some.block in
      let row : c.row_of-row.result.value ≡ row_of c.args.slot = search rules in
      let past : length a.older.items ≤ c.in_ok-at.at = search rules in
      let put = newest_put a.older.items a.newest (block_of c.args.slot) c.in_ok-at.at (c.in-Some.field-0-0, was)
      c.change-in-Some.new.self c.in-Some.is a.ordered place past in
      on_ok_weaker c.change-in-Some.result (change_there (row_at c.args.self.now) (all_blocks a) _ c.args.slot was
      c.change-in-Some.new.self c.args.origin c.args.change.now c.place_of.ensures.same put.sets (sym put.has))
      (rw row at c.change-in-Some.ensures.changed);
  unchanged =
      let a = c.place_of.new.self in
      let place : IsPlaceOf (block_of c.args.slot) (all_blocks a) c.in_ok-at.at = search rules in
      let past : length a.older.items ≤ c.in_ok-at.at = search rules in
      let put = newest_put a.older.items a.newest (block_of c.args.slot) c.in_ok-at.at (
        c.in-Some.field-0-0,
        c.in-Some.block,
      )
      c.change-in-Some.new.self c.in-Some.is a.ordered place past in
      on_err_weaker c.change-in-Some.result (λ same. blocks_alike (all_blocks a) _ (block_of c.args.slot)
      c.change-in-Some.new.self put.sets (same ∙ ap items_of_block (sym put.has)) ∙ c.place_of.ensures.same)
      c.change-in-Some.ensures.unchanged;
  room =
      λ room.
      let a = c.place_of.new.self in
      let slot : to_z w64 (of_z w64 c.args.slot) ≡ c.args.slot = search rules in
      let still = room_stays c.args.self.now a c.args.slot c.args.origin (rw slot at c.place_of.ensures.stays) room in
      let place : IsPlaceOf (block_of c.args.slot) (all_blocks a) c.in_ok-at.at = search rules in
      let row : c.row_of-row.result.value ≡ row_of c.args.slot = search rules in
      let past : length a.older.items ≤ c.in_ok-at.at = search rules in
      let put = newest_put a.older.items a.newest (block_of c.args.slot) c.in_ok-at.at (
        c.in-Some.field-0-0,
        c.in-Some.block,
      )
      c.change-in-Some.new.self c.in-Some.is a.ordered place past in
      (rw row at c.change-in-Some.ensures.room) (room_found a c.args.slot c.args.origin c.in-Some.block (sym put.has)
      still);
}

-- ---- none

pub returns-in-None : goal.returns-in-None
returns-in-None c = record {
  changed =
      let a = c.place_of.new.self in
      let place : IsPlaceOf (block_of c.args.slot) (all_blocks a) c.in_ok-at.at = search rules in
      let past : length a.older.items ≤ c.in_ok-at.at = search rules in
      absurd (none_past a.older.items a.newest (block_of c.args.slot) c.in_ok-at.at c.in-None.is place past);
  unchanged = search rules;
  room = search rules;
}
