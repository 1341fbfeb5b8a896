use Rattle.std.proofs.Common.{rules, ◌≡◌, ℤ, ap, sym, ◌∙◌, subst, to_z, of_z, w64}
use Rattle.std.specs.Prelude.{FitsSigned}
use Rattle.rr_schema.specs.Schema.{slot_of}
use Rattle.rr_archive.specs.CellSlots.{IsSlot}
use Rattle.rr_cells.proofs.Slots.{slot_is}
use Rattle.rr_changes.proofs.slots.Slots.of.Goals as goal

pub returns-clause-first_is_slot : goal.returns-clause-first_is_slot
returns-clause-first_is_slot c =
    let s = c.args.schema.now in
    let same : to_z w64 (of_z w64 c.slot.result) ≡ c.slot.result = search rules in
    let fits : FitsSigned w64 c.args.range.now.first = search rules in
    let time : to_z w64 (of_z w64 c.args.range.now.first) ≡ c.args.range.now.first = search rules in
    let at = same ∙ c.slot.ensures ∙ ap (slot_of s c.args.archive) time in
    subst (λ (z : ℤ). IsSlot z) (sym at)
    (slot_is s c.archives-archives.ensures.within c.args.archive c.args.range.now.first fits)

pub returns-clause-last_is_slot : goal.returns-clause-last_is_slot
returns-clause-last_is_slot c =
    let s = c.args.schema.now in
    let same : to_z w64 (of_z w64 c.slot-2.result) ≡ c.slot-2.result = search rules in
    let fits : FitsSigned w64 c.args.range.now.last = search rules in
    let time : to_z w64 (of_z w64 c.args.range.now.last) ≡ c.args.range.now.last = search rules in
    let at = same ∙ c.slot-2.ensures ∙ ap (slot_of s c.args.archive) time in
    subst (λ (z : ℤ). IsSlot z) (sym at)
    (slot_is s c.archives-archives.ensures.within c.args.archive c.args.range.now.last fits)
