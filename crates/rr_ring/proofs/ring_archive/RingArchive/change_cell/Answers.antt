use Rattle.std.proofs.Common.{rules, ℕ, ◌+◌, ◌-◌, ◌≤◌, Bool, refl, ◌≡◌, true, false, cond, arith, sym, ap, ◌∙◌, subst, Some, None, to_z, of_z, w64, int_cmp}
use mir.Val.{bool_byte}
use Rattle.std.specs.Prelude.{is_none}
use Rattle.std.specs.FinMap as fin
use Rattle.rr_join.specs.Maps.{greater, trimmed}
use Rattle.rr_join.specs.Horizon.{is_above}
use Rattle.rr_archive.specs.declared.entry.Entry.{Entry}
use Rattle.rr_archive.specs.CellSlots.{cell_slot, is_live_at, IsInRange}
use Rattle.rr_archive.specs.Row.{entry_at}
use Rattle.rr_archive.specs.Changes.{Fits, contribution_after, entry_after}
use Rattle.rr_archive.proofs.FewCells.{few_cells}
use Rattle.rr_ring.specs.Ring.{ring_row, IsRowChanged}
use Rattle.rr_archive.specs.LiveRows.{cells_by, IsArchiveStateBy}
use Rattle.rr_ring.specs.RingCells.{cells_in}
use Rattle.rr_archive.proofs.LiveRowsLemmas.{get-cells_by}
use Rattle.rr_archive.proofs.LiveChanges.{change_dead, change_cells, change_len, change_held, IsSetIn}
use Rattle.rr_ring.proofs.RingChangeLemmas.{set_in_ring}
use Rattle.rr_ring.proofs.ring_archive.RingArchive.change_cell.Goals as goal

-- a change past the horizon leaves no trace
pub returns-then-not-is_live : goal.returns-then-not-is_live
returns-then-not-is_live c = record {
  changed =
      let a = c.args.self.now in
      let p = cell_slot c.args.slot c.args.origin in
      let dead : is_above a.ring.rows a.newest c.args.slot ≡ false = search rules in
      change_dead a.ring.rows a.newest a.count (ring_row a.ring) p
      (contribution_after (fin.get (cells_in a.newest a.ring) p) c.args.change.now) a.held dead;
  dead = search rules;
  unchanged = search rules;
  limit = search rules;
  room = search rules;
}

pub change-requires : goal.change-requires
change-requires c =
    let a = c.args.self.now in
    let f = ring_row a.ring in
    let p = cell_slot c.args.slot c.args.origin in
    let slot : to_z w64 (of_z w64 c.args.slot) ≡ c.args.slot = search rules in
    let live : is_above a.ring.rows a.newest c.args.slot ≡ true = search rules in
    let known = get-cells_by f a.ring.rows a.newest a.held.ascend a.held.none_later p
    ∙ ap (λ b. cond b (entry_at (f c.args.slot) c.args.origin) None) live in
    rw slot (subst (λ o. Fits o c.args.change.now) known c.requires.fits)

bit_is : (b : Bool) → bool_byte b ≡ cond b 1 0
bit_is true = refl
bit_is false = refl

pub overflow_add-self : goal.overflow_add-self
overflow_add-self c =
    let a = c.args.self.now in
    let few = few_cells (cells_in a.newest a.ring) a.held.in_range in
    let counted = a.held.counted in
    let one : c.from.result ≤ 1 = bit_le c.in_ok-is_new.is_new c.from.result c.from.ensures in
    record { fits = omega arith }
  where
    bit_le : (b : Bool) (n : ℕ) → n ≡ bool_byte b → n ≤ 1
    bit_le true n e = omega arith
    bit_le false n e = omega arith

-- what the steps did: the entry is changed, and the newest slot is the later of the two
record Steps (c : goal.After-from) : Type 0 where
  slot : to_z w64 (of_z w64 c.args.slot) ≡ c.args.slot
  top : to_z w64 (of_z w64 c.later-newest.result) ≡ c.later-newest.result
  live : is_above c.args.self.now.ring.rows c.args.self.now.newest c.args.slot ≡ true
  known : fin.get (cells_in c.args.self.now.newest c.args.self.now.ring) (cell_slot c.args.slot c.args.origin)
      ≡ entry_at (ring_row c.args.self.now.ring c.args.slot) c.args.origin
  latest : Some c.later-newest.result ≡ greater int_cmp c.args.self.now.newest (Some c.args.slot)
  new : c.from.result ≡ cond (is_none (fin.get (cells_in c.args.self.now.newest c.args.self.now.ring)
      (cell_slot c.args.slot c.args.origin))) 1 0
  left : c.dead_cells-dead.result + fin.len (fin.retain_keys (cells_in c.args.self.now.newest c.args.self.now.ring)
      (λ p. is_above c.args.self.now.ring.rows (Some c.later-newest.result) p.slot))
      ≡ fin.len (cells_in c.args.self.now.newest c.args.self.now.ring)
  set : IsSetIn c.args.self.now.ring.rows c.later-newest.result c.args.slot
      (entry_after (ring_row c.args.self.now.ring c.args.slot) c.args.origin c.args.change.now)
      (ring_row c.args.self.now.ring) (ring_row c.change.new.self)

steps : (c : goal.After-from) → Steps c
steps c =
    let a = c.args.self.now in
    let f = ring_row a.ring in
    let slot : to_z w64 (of_z w64 c.args.slot) ≡ c.args.slot = search rules in
    let live : is_above a.ring.rows a.newest c.args.slot ≡ true = search rules in
    let top : to_z w64 (of_z w64 c.later-newest.result) ≡ c.later-newest.result = search rules in
    let known = get-cells_by f a.ring.rows a.newest a.held.ascend a.held.none_later
    (cell_slot c.args.slot c.args.origin) ∙ ap (λ b. cond b (entry_at (f c.args.slot) c.args.origin) None) live in
    let latest : Some c.later-newest.result ≡ greater int_cmp a.newest (Some c.args.slot) = c.later-newest.ensures
    ∙ ap (λ z. greater int_cmp a.newest (Some z)) slot in
    let changed : IsRowChanged a.ring.rows c.args.slot (entry_after (f c.args.slot) c.args.origin c.args.change.now) f
    (ring_row c.change.new.self) = rw slot at c.in_ok-is_new.ensures.changed in
    record {
      slot = slot;
      top = top;
      live = live;
      known = known;
      new = c.from.ensures ∙ ap bool_byte ((rw slot at c.in_ok-is_new.ensures.is_new) ∙ ap is_none (sym known))
          ∙ bit_is (is_none (fin.get (cells_in a.newest a.ring) (cell_slot c.args.slot c.args.origin)));
      left = rw top at c.dead_cells-dead.ensures;
      latest = latest;
      set = set_in_ring a.ring.rows a.newest a.count c.later-newest.result c.args.slot
          (entry_after (f c.args.slot) c.args.origin c.args.change.now) f (ring_row c.change.new.self)
          a.ring.rows_at_least a.held changed latest live;
    }

count_after : (count dead one old left new after : ℕ) → count ≡ old → dead + left ≡ old → one ≡ new → after ≡ left + new
    → (count - dead) + one ≡ after
count_after count dead one old left new after is all is_new sum = omega arith

pub invariant_of-self-2 : goal.invariant_of-self-2
invariant_of-self-2 c =
    let a = c.args.self.now in
    let f = ring_row a.ring in
    let s = steps c in
    let top = s.top in
    let e : Entry = entry_after (f c.args.slot) c.args.origin c.args.change.now in
    let in_range : IsInRange (cell_slot c.args.slot c.args.origin) =
    record { slot = c.requires.slot; origin = record { at_least = omega arith; at_most = omega arith } } in
    let len = change_len a.ring.rows a.newest a.count c.later-newest.result c.args.slot e f (ring_row c.change.new.self)
    a.ring.rows_at_least a.held s.set s.latest s.live in
    let counted = count_after a.count c.dead_cells-dead.result c.from.result _ _ _ _ a.held.counted s.left s.new len in
    record {
      held = rw top (subst (λ n. IsArchiveStateBy n (Some c.later-newest.result)
          ((a.count - c.dead_cells-dead.result) + c.from.result) (ring_row c.change.new.self))
          (sym c.change.ensures.rows)
          (change_held a.ring.rows a.newest a.count c.later-newest.result c.args.slot e f (ring_row c.change.new.self)
          a.ring.rows_at_least a.held s.set s.latest s.live _ counted in_range));
    }

pub returns : goal.returns
returns c = record {
  changed =
      let a = c.args.self.now in
      let f = ring_row a.ring in
      let s = steps c.before in
      let top = s.top in
      let p = cell_slot c.args.slot c.args.origin in
      let e : Entry = entry_after (f c.args.slot) c.args.origin c.args.change.now in
      rw top (ap (λ n. cells_by n (Some c.later-newest.result) (ring_row c.change.new.self)) c.change.ensures.rows
      ∙ change_cells a.ring.rows a.newest a.count c.later-newest.result c.args.slot e f (ring_row c.change.new.self)
      a.ring.rows_at_least a.held s.set s.latest s.live
      ∙ ap (λ o. trimmed (is_live_at a.ring.rows) (fin.insert (cells_in a.newest a.ring) p
      (contribution_after o c.args.change.now))) (sym s.known));
  dead = search rules;
  unchanged = search rules;
  limit = search rules;
  room = search rules;
}
