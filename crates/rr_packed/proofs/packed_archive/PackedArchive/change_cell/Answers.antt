use Rattle.std.proofs.Common.{rules, refl, ◌≡◌, true, false, cond, arith, sym, ap, ◌∙◌, pos, ◌+ℤ◌, ◌-ℤ◌, subst, Some, None, to_z, of_z, w64, int_cmp}
use Rattle.std.specs.FinMap as fin
use Rattle.rr_join.specs.Maps.{greater, trimmed}
use Rattle.rr_join.specs.Horizon.{is_above}
use Rattle.rr_archive.specs.declared.entry.Entry.{Entry}
use Rattle.rr_archive.specs.CellSlots.{cell_slot, is_live_at, IsInRange}
use Rattle.rr_archive.specs.Row.{entry_at}
use Rattle.rr_archive.specs.Changes.{Fits, contribution_after, entry_after}
use Rattle.rr_archive.proofs.LiveRowsLemmas.{get-cells_by}
use Rattle.rr_archive.proofs.LiveChanges.{change_dead, change_cells, change_held, later_is_slot, IsSetIn}
use Rattle.rr_packed.specs.Blocks.{row_at, IsSlotSet}
use Rattle.rr_packed.specs.PackedCells.{cells_in}
use Rattle.rr_packed.proofs.BlocksLemmas.{IsLeft}
use Rattle.rr_packed.proofs.PackedLemmas.{set_in_packed}
use Rattle.rr_packed.proofs.packed_archive.PackedArchive.change_cell.Goals as goal

-- a change past the horizon leaves no trace
pub returns-then-not-is_live-clause-cells : goal.returns-then-not-is_live-clause-cells
returns-then-not-is_live-clause-cells c = record {
  changed =
      let a = c.args.self.now in
      let p = cell_slot c.args.slot c.args.origin in
      let dead : is_above a.rows a.newest c.args.slot ≡ false = search rules in
      change_dead a.rows a.newest _ (row_at a.blocks) p
      (contribution_after (fin.get (cells_in a.rows a.newest a.blocks) p) c.args.change.now) a.held dead;
  dead = search rules;
  unchanged = search rules;
  limit = search rules;
  room = search rules;
}

pub change-requires : goal.change-requires
change-requires c =
    let a = c.args.self.now in
    let f = row_at a.blocks in
    let p = cell_slot c.args.slot c.args.origin in
    let slot : to_z w64 (of_z w64 c.args.slot) ≡ c.args.slot = search rules in
    let live : is_above a.rows a.newest c.args.slot ≡ true = search rules in
    let known = get-cells_by f a.rows a.newest a.held.ascend a.held.none_later p
    ∙ ap (λ b. cond b (entry_at (f c.args.slot) c.args.origin) None) live in
    rw slot (subst (λ o. Fits o c.args.change.now) known c.requires.fits)

pub first_live-requires : goal.first_live-requires
first_live-requires c =
    let a = c.args.self.now in
    let slot : to_z w64 (of_z w64 c.args.slot) ≡ c.args.slot = search rules in
    let top : to_z w64 (of_z w64 c.later-newest.result) ≡ c.later-newest.result = search rules in
    let latest : Some c.later-newest.result ≡ greater int_cmp a.newest (Some c.args.slot) = c.later-newest.ensures
    ∙ ap (λ z. greater int_cmp a.newest (Some z)) slot in
    rw top (later_is_slot a.newest c.args.slot c.later-newest.result latest c.requires.slot a.held.is_slot)

-- what the steps did: the entry is set, the blocks past the horizon leave, and the newest slot is the later of
-- the two
record Steps (c : goal.After-drop_before) : Type 0 where
  top : to_z w64 (of_z w64 c.later-newest.result) ≡ c.later-newest.result
  live : is_above c.args.self.now.rows c.args.self.now.newest c.args.slot ≡ true
  known : fin.get (cells_in c.args.self.now.rows c.args.self.now.newest c.args.self.now.blocks)
      (cell_slot c.args.slot c.args.origin) ≡ entry_at (row_at c.args.self.now.blocks c.args.slot) c.args.origin
  latest : Some c.later-newest.result ≡ greater int_cmp c.args.self.now.newest (Some c.args.slot)
  set : IsSetIn c.args.self.now.rows c.later-newest.result c.args.slot
      (entry_after (row_at c.args.self.now.blocks c.args.slot) c.args.origin c.args.change.now)
      (row_at c.args.self.now.blocks) (row_at c.drop_before.new.self)

steps : (c : goal.After-drop_before) → Steps c
steps c =
    let a = c.args.self.now in
    let f = row_at a.blocks in
    let slot : to_z w64 (of_z w64 c.args.slot) ≡ c.args.slot = search rules in
    let live : is_above a.rows a.newest c.args.slot ≡ true = search rules in
    let top : to_z w64 (of_z w64 c.later-newest.result) ≡ c.later-newest.result = search rules in
    let known = get-cells_by f a.rows a.newest a.held.ascend a.held.none_later (cell_slot c.args.slot c.args.origin)
    ∙ ap (λ b. cond b (entry_at (f c.args.slot) c.args.origin) None) live in
    let latest : Some c.later-newest.result ≡ greater int_cmp a.newest (Some c.args.slot) = c.later-newest.ensures
    ∙ ap (λ z. greater int_cmp a.newest (Some z)) slot in
    let e : Entry = entry_after (f c.args.slot) c.args.origin c.args.change.now in
    let set : IsSlotSet c.args.slot e f (row_at c.change.new.self) = rw slot at c.in_ok-change.ensures.changed in
    let first : to_z w64 (of_z w64 c.first_live.result) ≡ (c.later-newest.result -ℤ pos a.rows) +ℤ pos 1 =
    search rules in
    let left : IsLeft (to_z w64 (of_z w64 c.first_live.result)) (row_at c.change.new.self)
    (row_at c.drop_before.new.self) = c.drop_before.ensures.left in
    record {
      top = top;
      live = live;
      known = known;
      latest = latest;
      set = set_in_packed a.rows a.newest _ c.later-newest.result c.args.slot (to_z w64 (of_z w64 c.first_live.result))
          e f (row_at c.change.new.self) (row_at c.drop_before.new.self) a.held set left first latest;
    }

pub invariant_of-self-2 : goal.invariant_of-self-2
invariant_of-self-2 c =
    let a = c.args.self.now in
    let f = row_at a.blocks in
    let s = steps c in
    let top = s.top in
    let e : Entry = entry_after (f c.args.slot) c.args.origin c.args.change.now in
    let in_range : IsInRange (cell_slot c.args.slot c.args.origin) =
    record { slot = c.requires.slot; origin = record { at_least = omega arith; at_most = omega arith } } in
    record {
      some_row = a.some_row;
      held = rw top (change_held a.rows a.newest _ c.later-newest.result c.args.slot e f (row_at c.drop_before.new.self)
          a.some_row a.held s.set s.latest s.live _ refl in_range);
    }

pub returns-clause-cells : goal.returns-clause-cells
returns-clause-cells c = record {
  changed =
      let a = c.args.self.now in
      let f = row_at a.blocks in
      let s = steps c.before in
      let top = s.top in
      let p = cell_slot c.args.slot c.args.origin in
      let e : Entry = entry_after (f c.args.slot) c.args.origin c.args.change.now in
      rw top (change_cells a.rows a.newest _ c.later-newest.result c.args.slot e f (row_at c.drop_before.new.self)
      a.some_row a.held s.set s.latest s.live
      ∙ ap (λ o. trimmed (is_live_at a.rows) (fin.insert (cells_in a.rows a.newest a.blocks) p
      (contribution_after o c.args.change.now))) (sym s.known));
  dead = search rules;
  unchanged = search rules;
  limit = search rules;
  room = search rules;
}
