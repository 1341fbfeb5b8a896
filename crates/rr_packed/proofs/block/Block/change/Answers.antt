use Rattle.std.proofs.Common.{rules, ◌≡◌, ℕ, ◌<◌, [], List, Result, Ok, Err, OnErr, cond, eqb, length, refl, sym, ap, ◌∙◌, subst, true≢false, Some}
use Rattle.std.specs.Prelude.{slice_get, IsOk, IsTrue, ◌&&◌}
use Rattle.std.proofs.lemmas.Bool.{and_from}
use Rattle.std.proofs.lemmas.Option.{slice_get_read}
use Rattle.std.proofs.lemmas.Result.{on_ok_weaker}
use Rattle.rr_archive.specs.declared.entry.Entry.{Entry}
use Rattle.rr_archive.specs.declared.entries.Entries.{Entries}
use Rattle.rr_archive.specs.Entries.{items_of}
use Rattle.rr_archive.specs.Row.{entry_at, with_entry}
use Rattle.rr_archive.specs.Changes.{Fits, entry_after}
use Rattle.rr_packed.specs.declared.block.Block.{Block}
use Rattle.rr_packed.specs.Sparse.{place_at}
use Rattle.rr_packed.specs.Sparse.{has_room as has_spare}
use Rattle.rr_packed.specs.BlockRows.{items_in, has_room_in, IsUnheld}
use Rattle.rr_packed.proofs.SparseLemmas.{item_none}
use Rattle.rr_packed.proofs.BlockLemmas.{items_by_entries, found_entries, entries_alike, entries_changed, room_of_entries, room_is_free}
use Rattle.rr_packed.proofs.FreeRowLemmas.{items_unheld}
use Rattle.rr_packed.proofs.block.Block.change.Goals as goal

-- ---- it has no entry

spare : (b : Block) (k origin : ℕ) → IsUnheld b k → IsTrue (has_room_in b k origin)
    → IsTrue (has_spare b.samples && has_spare b.rows)
spare b k origin free room =
    let is = room_is_free b k origin (item_none b.rows.mask b.rows.items.items k free.rows) room in
    and_from (has_spare b.samples) (has_spare b.rows) is.samples is.rows

pub returns-then-is_free : goal.returns-then-is_free
returns-then-is_free c = record {
  changed =
      let b = c.args.self.now in
      let k = c.args.number.value in
      let free : IsUnheld b k = search rules in
      on_ok_weaker c.add.result
      (λ added. λ n. added n
      ∙ (λ i. cond (eqb n k)
      (ap (λ l. with_entry l (entry_after l c.args.origin c.args.change.now)) (sym (items_unheld b k free)) i)
      (items_in b n)))
      c.add.ensures.changed;
  unchanged = search rules;
  room =
      λ room.
      let b = c.args.self.now in
      let k = c.args.number.value in
      let free : IsUnheld b k = search rules in
      c.add.ensures.room (spare b k c.args.origin free room);
}

pub returns-in-None : goal.returns-in-None
returns-in-None c = record {
  changed =
      let mid = c.unpack.new.self in
      let k = c.args.number.value in
      let free : IsUnheld mid k = search rules in
      let none : items_in c.args.self.now k ≡ [] =
      sym (ap (λ f. f k) c.unpack.ensures.same) ∙ items_unheld mid k free in
      on_ok_weaker c.add-in-None.result (λ added. λ n. added n
      ∙ (λ i. cond (eqb n k) (ap (λ l. with_entry l (entry_after l c.args.origin c.args.change.now)) (sym none) i)
      (c.unpack.ensures.same i n))) c.add-in-None.ensures.changed;
  unchanged = search rules;
  room =
      λ room.
      let mid = c.unpack.new.self in
      let k = c.args.number.value in
      let free : IsUnheld mid k = search rules in
      c.add-in-None.ensures.room (spare mid k c.args.origin free (c.unpack.ensures.room_stays c.args.origin room));
}

-- ---- the row is held as its entries

-- they are the row's
held : (b mid : Block) (k at : ℕ) (was : Entries) → items_in mid ≡ items_in b → Some at ≡ place_at mid.rows.mask k
    → slice_get mid.rows.items.items at ≡ Some was → items_of was ≡ items_in b k
held b mid k at was same place has = sym (items_by_entries mid k was (found_entries mid k at was place has))
    ∙ ap (λ f. f k) same

on_err : {T E P : Type 0} (r : Result T E) → P → OnErr r P
on_err (Ok x) p = tt
on_err (Err e) p = p

pub change-requires : goal.change-requires
change-requires c =
    let mid = c.unpack.new.self in
    let was : Entries = c.index_mut.result.now in
    let within : c.in-Some.at < length mid.rows.items.items = search rules in
    let has = slice_get_read mid.rows.items.items (length mid.rows.items.items) c.in-Some.at was refl within
    c.index_mut.ensures.value in
    subst (λ (es : List Entry). Fits (entry_at es c.args.origin) c.args.change.now)
    (sym (held c.args.self.now mid c.args.number.value c.in-Some.at was c.unpack.ensures.same c.in-Some.ensures.place
    has)) c.requires

pub returns-in_err-change-in-Some : goal.returns-in_err-change-in-Some
returns-in_err-change-in-Some c = record {
  changed = search rules;
  unchanged =
      let mid = c.unpack.new.self in
      let was : Entries = c.index_mut.result.now in
      let within : c.in-Some.at < length mid.rows.items.items = search rules in
      let has = slice_get_read mid.rows.items.items (length mid.rows.items.items) c.in-Some.at was refl within
      c.index_mut.ensures.value in
      on_err c.from_residual-in_err-change-in-Some.result (entries_alike mid _ c.args.number.value c.in-Some.at was
      c.change.new.self c.in-Some.ensures.place has refl refl refl refl c.in_err-change-in-Some.ensures.unchanged
      ∙ c.unpack.ensures.same);
  room =
      λ room.
      let mid = c.unpack.new.self in
      let k = c.args.number.value in
      let was : Entries = c.index_mut.result.now in
      let within : c.in-Some.at < length mid.rows.items.items = search rules in
      let has = slice_get_read mid.rows.items.items (length mid.rows.items.items) c.in-Some.at was refl within
      c.index_mut.ensures.value in
      let ok : IsOk c.change.result = c.change.ensures.room
      (room_of_entries mid k c.args.origin was (found_entries mid k c.in-Some.at was c.in-Some.ensures.place has)
      (c.unpack.ensures.room_stays c.args.origin room)) in
      absurd (true≢false (sym (subst IsOk c.in_err-change-in-Some.was ok)));
}

pub returns-in_ok-change-in-Some : goal.returns-in_ok-change-in-Some
returns-in_ok-change-in-Some c = record {
  changed =
      λ n.
      let b = c.args.self.now in
      let mid = c.unpack.new.self in
      let k = c.args.number.value in
      let was : Entries = c.index_mut.result.now in
      let within : c.in-Some.at < length mid.rows.items.items = search rules in
      let has = slice_get_read mid.rows.items.items (length mid.rows.items.items) c.in-Some.at was refl within
      c.index_mut.ensures.value in
      let here = held b mid k c.in-Some.at was c.unpack.ensures.same c.in-Some.ensures.place has in
      let now = c.in_ok-change-in-Some.ensures.changed in
      entries_changed mid _ k c.in-Some.at was c.change.new.self c.in-Some.ensures.place has refl refl refl refl n
      ∙ (λ i. cond (eqb n k) ((now ∙ ap (λ l. with_entry l (entry_after l c.args.origin c.args.change.now)) here) i)
      (c.unpack.ensures.same i n));
  unchanged = search rules;
  room = search rules;
}
