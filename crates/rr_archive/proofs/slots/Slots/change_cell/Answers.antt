use Rattle.std.proofs.Common.{rules, ◌≡◌, [], ◌∷◌, ap, sym, subst, ◌∙◌, Some, Option, arith}
use Rattle.std.proofs.Math.Facts.{to_z-of_z}
use Rattle.std.proofs.lemmas.Result.{on_ok_weaker, on_err_weaker}
use Rattle.std.specs.Int.{w64}
use Rattle.std.specs.Prelude.{is_none, IfOk}
use Rattle.std.specs.FinMap.{insert}
use Rattle.rr_contrib.specs.declared.contribution.Contribution.{Contribution}
use Rattle.rr_archive.specs.Changes.{Fits, contribution_after, entry_after}
use Rattle.rr_archive.specs.CellSlots.{cell_slot}
use Rattle.rr_archive.specs.ArchiveState.{row_in, cells_in}
use Rattle.rr_archive.proofs.ArchiveStateLemmas.{Sets, items_of, set_found, set_fresh, set_alike, room_is, no_room, cell_here, cell_nowhere}
use Rattle.rr_archive.proofs.slots.Slots.change_cell.Goals as goal

-- ---- the slot has a row

pub change_entry-requires : goal.change_entry-requires
change_entry-requires c =
    let back = to_z-of_z {w = w64} {z = c.args.slot} (search rules) in
    let has = rw back at c.in-Some.ensures.value in
    subst (λ (o : Option Contribution). Fits o c.args.change.now)
    (cell_here c.args.self.now.rows.entries (cell_slot c.args.slot c.args.origin) c.in-Some.row.now has) c.requires

pub returns-in-Some : goal.returns-in-Some
returns-in-Some c =
    let back = to_z-of_z {w = w64} {z = c.args.slot} (search rules) in
    let old = c.args.self.now.rows.entries in
    let p = cell_slot c.args.slot c.args.origin in
    let change = c.args.change.now in
    let was = c.in-Some.row.now in
    let row = c.change_entry.new.row in
    let has : Some was ≡ row_in old c.args.slot = rw back at c.in-Some.ensures.value in
    let here = cell_here old p was has in
    let holds = c.get_mut.follows.holds row in
    let updates = holds.3 (search rules) in
    let sets : Sets old (c.get_mut.follows.lender row).entries c.args.slot row =
    record { at = λ q. grind (arith, updates.0 q) } in
    let step = c.change_entry.ensures in
    record {
      changed = on_ok_weaker c.change_entry.result (λ e.
          set_found _ _ c.args.slot row was (entry_after was.items c.args.origin change) sets has e
          ∙ ap (λ (o : Option Contribution). insert (cells_in old) p (contribution_after o change)) (sym here))
          step.sets.changed;
      is_new = subst (λ (o : Option Contribution). IfOk c.change_entry.result (λ is_new. is_new ≡ is_none o)) (sym here)
          step.is_new;
      unchanged = on_err_weaker c.change_entry.result (λ e. set_alike _ _ c.args.slot row sets (e ∙ ap items_of has))
          step.sets.unchanged;
      room = λ room. step.sets.room (room_is old p was has room);
    }

-- ---- the slot has none

pub contribution_after-contribution-requires : goal.contribution_after-contribution-requires
contribution_after-contribution-requires c =
    let back = to_z-of_z {w = w64} {z = c.args.slot} (search rules) in
    let none = rw back at c.in-None.ensures.value in
    subst (λ (o : Option Contribution). Fits o c.args.change.now)
    (cell_nowhere c.args.self.now.rows.entries (cell_slot c.args.slot c.args.origin) none) c.requires

pub returns-in_err-push-in-None-clause-room : goal.returns-in_err-push-in-None-clause-room
returns-in_err-push-in-None-clause-room c =
    let back = to_z-of_z {w = w64} {z = c.args.slot} (search rules) in
    let none = rw back at c.in-None.ensures.value in
    λ room. absurd (no_room c.args.self.now.rows.entries (cell_slot c.args.slot c.args.origin) none room)

pub returns-in_ok-insert-in-None-clause-changed : goal.returns-in_ok-insert-in-None-clause-changed
returns-in_ok-insert-in-None-clause-changed c =
    let back = to_z-of_z {w = w64} {z = c.args.slot} (search rules) in
    let none = rw back at c.in-None.ensures.value in
    let old = c.args.self.now.rows.entries in
    let p = cell_slot c.args.slot c.args.origin in
    let same : c.get_mut.follows.lender-at-none ≡ c.args.self.now.rows = c.get_mut.follows.holds-at-none in
    let updates = rw same at c.in_ok-insert-in-None.ensures.updates in
    let sets : Sets old c.insert.new.self.entries c.args.slot c.push.new.self =
    record { at = λ q. grind (arith, updates.0 q) } in
    let items : c.push.new.self.items ≡ entry_after [] c.args.origin c.args.change.now ∷ [] = search rules in
    set_fresh _ _ c.args.slot c.push.new.self (entry_after [] c.args.origin c.args.change.now) sets none items
    ∙ ap (λ (o : Option Contribution). insert (cells_in old) p (contribution_after o c.args.change.now))
    (sym (cell_nowhere old p none))

pub returns-in_ok-insert-in-None-clause-is_new : goal.returns-in_ok-insert-in-None-clause-is_new
returns-in_ok-insert-in-None-clause-is_new c =
    let back = to_z-of_z {w = w64} {z = c.args.slot} (search rules) in
    let none = rw back at c.in-None.ensures.value in
    sym (ap is_none (cell_nowhere c.args.self.now.rows.entries (cell_slot c.args.slot c.args.origin) none))
