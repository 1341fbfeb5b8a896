use Rattle.std.proofs.Common.{rules, sym, ℕ, Bool, true, false, refl, ◌≡◌, ◌+◌, ◌≤◌, cond, arith, ap, ◌∙◌, Some, to_z, of_z, w64, int_cmp}
use mir.Val.{bool_byte}
use Rattle.std.specs.Prelude.{is_none}
use Rattle.std.specs.FinMap as fin
use Rattle.rr_join.specs.Maps.{greater}
use Rattle.rr_archive.specs.Changes.{contribution_after}
use Rattle.rr_archive.specs.Cells.{with_change}
use Rattle.rr_join.specs.Horizon.{is_above}
use Rattle.rr_archive.specs.CellSlots.{cell_slot, IsInRange}
use Rattle.rr_archive.specs.ArchiveState.{cells_in}
use Rattle.rr_archive.proofs.Counting.{held_kept, cells_kept, len_with, set_dead}
use Rattle.rr_archive.proofs.FewCells.{few_cells}
use Rattle.rr_archive.proofs.plain.PlainArchive.change_cell.Goals as goal

-- a change past the horizon leaves no trace
pub returns-then-not-is_live : goal.returns-then-not-is_live
returns-then-not-is_live c = record {
  changed =
      let a = c.args.self.now in
      let p = cell_slot c.args.slot c.args.origin in
      let dead : is_above a.rows a.newest c.args.slot ≡ false = search rules in
      set_dead a.rows a.count a.newest a.slots.rows.entries p
      (contribution_after (fin.get (cells_in a.slots.rows.entries) p) c.args.change.now) a.held dead;
  dead = search rules;
  unchanged = search rules;
  limit = search rules;
  room = search rules;
}

pub overflow_add-cells : goal.overflow_add-cells
overflow_add-cells c =
    let few = few_cells (cells_in c.args.self.now.slots.rows.entries) c.args.self.now.held.in_range in
    let counted = c.args.self.now.held.counted in
    let one : c.from.result ≤ 1 = bit_le c.in_ok-is_new.is_new c.from.result c.from.ensures in
    record { fits = omega arith }
  where
    bit_le : (b : Bool) (n : ℕ) → n ≡ bool_byte b → n ≤ 1
    bit_le true n e = omega arith
    bit_le false n e = omega arith

bit_is : (b : Bool) → bool_byte b ≡ cond b 1 0
bit_is true = refl
bit_is false = refl

-- the cells once this one is changed
pub drop_dead-self-requires : goal.drop_dead-self-requires
drop_dead-self-requires c =
    let old = cells_in c.args.self.now.slots.rows.entries in
    let p = cell_slot c.args.slot c.args.origin in
    let is : cells_in c.change_cell.new.self.rows.entries ≡ with_change old p c.args.change.now = search rules in
    let new : c.in_ok-is_new.is_new ≡ is_none (fin.get old p) = search rules in
    let one : c.from.result ≡ cond (is_none (fin.get old p)) 1 0 = c.from.ensures ∙ ap bool_byte new
    ∙ bit_is (is_none (fin.get old p)) in
    (λ i. c.args.self.now.held.counted i + one i) ∙ len_with old p
    (contribution_after (fin.get old p) c.args.change.now) ∙ ap fin.len (sym is)

-- what the steps did: the cell is changed, and of the rows then those are left that are not past the horizon
record Steps (c : goal.After-drop_dead-self) : Type 0 where
  changed : cells_in c.change_cell.new.self.rows.entries
      ≡ with_change (cells_in c.args.self.now.slots.rows.entries) (cell_slot c.args.slot c.args.origin)
      c.args.change.now
  latest : Some c.later-newest.result ≡ greater int_cmp c.args.self.now.newest (Some c.args.slot)
  live : cells_in c.drop_dead-self.new.self.rows.entries
      ≡ fin.retain_keys (cells_in c.change_cell.new.self.rows.entries)
      (λ q. is_above c.args.self.now.rows (Some c.later-newest.result) q.slot)

steps : (c : goal.After-drop_dead-self) → Steps c
steps c =
    let slot : to_z w64 (of_z w64 c.args.slot) ≡ c.args.slot = search rules in
    let top : to_z w64 (of_z w64 c.later-newest.result) ≡ c.later-newest.result = search rules in
    record {
      changed = search rules;
      latest = c.later-newest.ensures ∙ ap (λ z. greater int_cmp c.args.self.now.newest (Some z)) slot;
      live = rw top at c.drop_dead-self.ensures.live;
    }

pub returns : goal.returns
returns c = record {
  changed =
      let a = c.args.self.now in
      let p = cell_slot c.args.slot c.args.origin in
      let s = steps c.before in
      cells_kept a.rows a.count a.newest c.later-newest.result a.slots.rows.entries c.change_cell.new.self.rows.entries
      c.drop_dead-self.new.self.rows.entries p (contribution_after (fin.get (cells_in a.slots.rows.entries) p)
      c.args.change.now) a.held s.changed s.live s.latest;
  dead = search rules;
  unchanged = search rules;
  limit = search rules;
  room = search rules;
}

pub invariant_of-self-2 : goal.invariant_of-self-2
invariant_of-self-2 c =
    let a = c.args.self.now in
    let p = cell_slot c.args.slot c.args.origin in
    let s = steps c in
    let e = c.drop_dead-self.ensures in
    let top : to_z w64 (of_z w64 c.later-newest.result) ≡ c.later-newest.result = search rules in
    let in_range : IsInRange p = record {
      slot = c.requires.slot;
      origin =
          record { at_least = omega arith; at_most = omega arith };
    } in
    record {
      held = rw top (held_kept a.rows a.count c.drop_dead-self.result a.newest c.later-newest.result
          a.slots.rows.entries c.change_cell.new.self.rows.entries c.drop_dead-self.new.self.rows.entries p
          (contribution_after (fin.get (cells_in a.slots.rows.entries) p) c.args.change.now) a.held in_range s.changed
          s.live e.counted s.latest);
    }
