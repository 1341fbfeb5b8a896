use Rattle.std.proofs.Common.{rules, ◌≡◌, refl, ap, ◌∙◌, subst, sym, true≢false, None}
use Rattle.std.specs.Prelude.{IsOk, IsTrue}
use Rattle.std.proofs.lemmas.Result.{on_ok_weaker}
use Rattle.rr_packed.specs.declared.block.Block.{Block}
use Rattle.rr_packed.specs.Sparse.{item_in, place_at}
use Rattle.rr_packed.specs.Sparse.{has_room as has_spare}
use Rattle.rr_packed.proofs.SparseLemmas.{item_none}
use Rattle.rr_packed.proofs.BlockLemmas.{block_same, room_is_free, free_has_room}
use Rattle.rr_packed.proofs.block.Block.make_free_room.Goals as goal

pub returns-in_err-make_room : goal.returns-in_err-make_room
returns-in_err-make_room c = λ origin. record {
  same =
      let b = c.args.self.now in
      let new : Block = record { alloc = b.alloc; source = b.source; samples = c.make_room.new.self; rows = b.rows } in
      block_same b new (λ n. refl) refl (λ n. ap (λ f. f n) c.make_room.ensures.made.same);
  room = search rules;
  room_suffices =
      λ room.
      let b = c.args.self.now in
      let k = c.args.number.value in
      let none : item_in b.rows k ≡ None = item_none b.rows.mask b.rows.items.items k c.requires.rows in
      let free = room_is_free b k origin none room in
      let ok : IsOk c.make_room.result = c.make_room.ensures.made.room_suffices free.samples in
      absurd (true≢false (sym (subst IsOk c.in_err-make_room.was ok)));
}

pub returns : goal.returns
returns c = λ origin. record {
  same =
      let b = c.args.self.now in
      let new : Block = record {
        alloc = b.alloc;
        source = b.source;
        samples = c.make_room.new.self;
        rows = c.make_room-2.new.self;
      } in
      block_same b new (λ n. ap (λ f. f n) c.make_room-2.ensures.made.same) refl
      (λ n. ap (λ f. f n) c.make_room.ensures.made.same);
  room =
      let b = c.args.self.now in
      let k = c.args.number.value in
      let new : Block = record {
        alloc = b.alloc;
        source = b.source;
        samples = c.make_room.new.self;
        rows = c.make_room-2.new.self;
      } in
      let none : item_in b.rows k ≡ None = item_none b.rows.mask b.rows.items.items k c.requires.rows in
      let samples : IsTrue (has_spare c.make_room.new.self) = search rules in
      on_ok_weaker c.make_room-2.result
      (λ rows. free_has_room new k origin (ap (λ f. f k) c.make_room-2.ensures.made.same ∙ none)
      (record {
        unread = ap (λ m. place_at m k) c.make_room.ensures.mask
            ∙ c.requires.samples;
        samples = samples;
        rows = rows;
      }))
      c.make_room-2.ensures.made.room;
  room_suffices =
      λ room.
      let b = c.args.self.now in
      let k = c.args.number.value in
      let none : item_in b.rows k ≡ None = item_none b.rows.mask b.rows.items.items k c.requires.rows in
      c.make_room-2.ensures.made.room_suffices (room_is_free b k origin none room).rows;
}
