use Rattle.std.proofs.Common.{rules, ◌≡◌, ◌<◌, length, refl, sym, ap, ◌∙◌, Some}
use Rattle.std.specs.Prelude.{slice_get}
use Rattle.std.proofs.lemmas.Option.{slice_get-get_or}
use Rattle.rr_archive.specs.declared.entries.Entries.{Entries}
use Rattle.rr_packed.proofs.BlockLemmas.{found_entries, entries_alike, room_there, room_of_entries}
use Rattle.rr_packed.proofs.block.Block.make_room.Goals as goal

-- ---- the row is held as its entries

there : (c : goal.After-self-in-Some-1) → slice_get c.unpack.new.self.rows.items.items c.in-Some.at
    ≡ Some c.index_mut.result.now
there c =
    let within : c.in-Some.at < length c.unpack.new.self.rows.items.items = search rules in
    slice_get-get_or c.unpack.new.self.rows.items.items c.in-Some.at c.index_mut.result.now within
    ∙ ap (λ x. Some x) (sym c.index_mut.ensures.value)

pub returns-in-Some : goal.returns-in-Some
returns-in-Some c = record {
  same =
      entries_alike c.unpack.new.self _ c.args.number.value c.in-Some.at c.index_mut.result.now c.make_room.new.self
      c.in-Some.ensures.place (there c) refl refl refl refl c.make_room.ensures.same
      ∙ c.unpack.ensures.same;
  room =
      room_there c.make_room.result c.unpack.new.self _ c.args.number.value c.in-Some.at
      c.args.origin c.index_mut.result.now c.make_room.new.self c.in-Some.ensures.place (there c) refl refl
      c.make_room.ensures.room;
  room_suffices =
      λ room.
      let mid = c.unpack.new.self in
      let k = c.args.number.value in
      let was : Entries = c.index_mut.result.now in
      c.make_room.ensures.room_suffices (room_of_entries mid k c.args.origin was
      (found_entries mid k c.in-Some.at was c.in-Some.ensures.place (there c))
      (c.unpack.ensures.room_stays c.args.origin room));
}

-- ---- it has no entry

pub returns-in-None : goal.returns-in-None
returns-in-None c =
    let made = c.make_free_room-in-None.ensures c.args.origin in
    record {
      same = made.same ∙ c.unpack.ensures.same;
      room = made.room;
      room_suffices = λ room. made.room_suffices (c.unpack.ensures.room_stays c.args.origin room);
    }
