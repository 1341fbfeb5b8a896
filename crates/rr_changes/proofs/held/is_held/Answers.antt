use Rattle.std.proofs.Common.{rules, ◌≡◌, ℕ, ℤ, ◌<◌, ap, sym, ◌∙◌, subst, to_z, of_z, w64, Some, None}
use Rattle.std.specs.Option.{option_map}
use Rattle.rr_join.proofs.Booleans.{and_second}
use Rattle.rr_contrib.proofs.ValidityLemmas.{Decides-is_valid}
use Rattle.rr_archive.specs.CellSlots.{IsSlot}
use Rattle.rr_cells.specs.Listing.{cell_name, next_cell, seen_cell}
use Rattle.rr_cells.proofs.Slots.{slot_is}
use Rattle.rr_replica.specs.ReplicaWithRoom.{replica_state}
use Rattle.rr_changes.proofs.HeldLemmas.{before_is_origin, held_from_before}
use Rattle.rr_changes.proofs.held.is_held.Goals as goal

pub before-slot-requires : goal.before-slot-requires
before-slot-requires g c =
    let s = c.args.replica.now.schema in
    let cell = c.args.cell.now in
    let valid = (Decides-is_valid s cell.archive cell.slot cell.contribution).0 (and_second _ _ c.requires) in
    subst IsSlot valid.in_slot (slot_is s c.schema-schema.ensures.holds.layout cell.archive cell.contribution.last_time
    (search rules))

pub returns-in-Some : goal.returns-in-Some
returns-in-Some g c =
    let h = replica_state c.args.replica.now in
    let cell = c.args.cell.now in
    let slot : to_z w64 (of_z w64 c.before-slot.result.0) ≡ c.before-slot.result.0 = search rules in
    let before = ap (λ (p : ℤ × ℕ). p.0) c.before-slot.ensures in
    let number = (c.in-Ok.ensures).1 ∙ ap (λ (p : ℤ × ℕ). p.1) c.before-slot.ensures in
    c.has_no_less.ensures
    ∙ held_from_before h cell.key cell.archive cell.slot cell.origin cell.contribution (Some (seen_cell c.in-Some.next))
    c.schema-schema.ensures.holds (search rules)
    (ap (option_map seen_cell) (sym c.in-Some.is) ∙ rw slot at c.next_cell.ensures.listed
    ∙ (λ i. next_cell h.cells (cell_name cell.key cell.archive (before i) (number i))))

pub returns-in-None : goal.returns-in-None
returns-in-None g c =
    let h = replica_state c.args.replica.now in
    let cell = c.args.cell.now in
    let slot : to_z w64 (of_z w64 c.before-slot.result.0) ≡ c.before-slot.result.0 = search rules in
    let before = ap (λ (p : ℤ × ℕ). p.0) c.before-slot.ensures in
    let number = (c.in-Ok.ensures).1 ∙ ap (λ (p : ℤ × ℕ). p.1) c.before-slot.ensures in
    held_from_before h cell.key cell.archive cell.slot cell.origin cell.contribution None
    c.schema-schema.ensures.holds (search rules)
    (ap (option_map seen_cell) (sym c.in-None.is) ∙ rw slot at c.next_cell.ensures.listed
    ∙ (λ i. next_cell h.cells (cell_name cell.key cell.archive (before i) (number i))))

pub returns-in_default : goal.returns-in_default
returns-in_default g c = absurd (c.in_default.ensures (subst (λ (p : ℤ × ℕ). 0 < p.1) (sym c.before-slot.ensures)
    (before_is_origin c.args.cell.now.slot c.args.cell.now.origin (search rules))))
