use Rattle.std.proofs.Common.{rules, ◌<◌, ◌^◌, ℕ, negsuc, ◌≤◌, ◌≡◌, ◌++◌, ◌∙◌, ◌+ℤ◌, ◌-ℤ◌, ◌<ℤ◌, ◌≤ℤ◌, ℤ, pos, sym, ap, subst, append-nil, arith, to_z, of_z, w64}
use Rattle.std.specs.Prelude.{FitsSigned, None, Some}
use Rattle.std.specs.Int.{int_max, int_min}
use Rattle.std.specs.Option.{option_map}
use Rattle.std.proofs.lemmas.Int.{ints}
use Rattle.rr_archive.specs.CellSlots.{IsSlot, cell_slot}
use Rattle.rr_archive.specs.Cells.{cell_of, cells_on, next_cell}
use Rattle.rr_changes.specs.Listing.{cells_between, up_to_slot}
use Rattle.rr_changes.proofs.SlotLemmas.{none_after, none_up_to, run_pushed}
use Rattle.rr_changes.proofs.listing.ArchiveChanges.push_run.Goals as goal

fits : (cell first last : ℤ) (n : ℕ) → IsSlot first → IsSlot last → cell ≤ℤ last → first ≤ℤ last → n < 2 ^ 32
    → FitsSigned w64 (int_max cell first +ℤ pos n)
fits cell first last n from to h k few =
    let low = from.0 in
    let high = to.1 in
    by (int_max cell first) n (over cell first) (under cell first last h k) low high few
  where
    over : (cell first : ℤ) → first ≤ℤ int_max cell first
    over cell first = grind (arith, ints)

    under : (cell first last : ℤ) → cell ≤ℤ last → first ≤ℤ last → int_max cell first ≤ℤ last
    under cell first last h k = grind (arith, ints)

    by : (start : ℤ) (n : ℕ) → first ≤ℤ start → start ≤ℤ last → negsuc 9_223_372_036 ≤ℤ first
        → last ≤ℤ pos 9_223_372_037 → n < 2 ^ 32 → FitsSigned w64 (start +ℤ pos n)
    by start n a b low high few = omega (arith, ints, a, b, low, high, few)

starts : (cell first : ℤ) (n : ℕ) → 1 ≤ n → first <ℤ (int_max cell first +ℤ pos n)
starts cell first n some = grind (arith, ints)

pub returns-in_default : goal.returns-in_default
returns-in_default g c =
    let m = g.A.Cells.cells c.args.archive.now in
    let next : option_map cell_of (next_cell m (cell_slot (c.args.first -ℤ pos 1) c.args.origin)) ≡ None = search rules in
    sym (ap (λ l. c.args.self.now ++ l) (none_after m c.args.first (c.args.last +ℤ pos 1) c.args.origin next)
    ∙ append-nil c.args.self.now)

pub returns-then-cell-last : goal.returns-then-cell-last
returns-then-cell-last g c =
    let m = g.A.Cells.cells c.args.archive.now in
    let next : option_map cell_of (next_cell m (cell_slot (c.args.first -ℤ pos 1) c.args.origin))
    ≡ Some (c.in-Some.cell, c.in-Some.field-0-1) = search rules in
    let past : c.args.last <ℤ c.in-Some.cell = search rules in
    sym (ap (λ l. c.args.self.now ++ l) (none_up_to m c.args.first c.in-Some.cell c.args.last c.args.origin
    c.in-Some.field-0-1 past c.requires.order next)
    ∙ append-nil c.args.self.now)

pub overflow_add-result : goal.overflow_add-result
overflow_add-result g c =
    let within : c.in-Some.cell ≤ℤ c.args.last = search rules in
    let max : to_z w64 (of_z w64 c.max-start.result) ≡ int_max c.in-Some.cell c.args.first = search rules in
    let few : c.in_ok-slots.slots < 2 ^ 32 = search rules in
    let slots : to_z w64 (of_z w64 c.from.result) ≡ pos c.in_ok-slots.slots = search rules in
    rw (max, slots) (fits c.in-Some.cell c.args.first c.args.last c.in_ok-slots.slots c.requires.first c.requires.last
    within c.requires.order few)

pub returns : goal.returns
returns g c =
    let m = g.A.Cells.cells c.args.archive.now in
    let next : option_map cell_of (next_cell m (cell_slot (c.args.first -ℤ pos 1) c.args.origin))
    ≡ Some (c.in-Some.cell, c.in-Some.field-0-1) = search rules in
    let within : c.in-Some.cell ≤ℤ c.args.last = search rules in
    let start : to_z w64 (of_z w64 c.max-start.result) ≡ int_max c.in-Some.cell c.args.first = search rules in
    let slots : to_z w64 (of_z w64 c.from.result) ≡ pos c.in_ok-slots.slots = search rules in
    let end : to_z w64 (of_z w64 (to_z w64 (of_z w64 c.max-start.result) +ℤ to_z w64 (of_z w64 c.from.result)))
    ≡ int_max c.in-Some.cell c.args.first +ℤ pos c.in_ok-slots.slots = search rules in
    let ran : c.cells_into.new.run.items ≡ cells_on m (int_max c.in-Some.cell c.args.first) c.in_ok-slots.slots =
    search rules in
    let old : c.self.inside.cells.items ≡ c.args.self.now = search rules in
    let last : to_z w64 (of_z w64 c.args.last) ≡ c.args.last = search rules in
    let pushed : c.push_up_to.new.cells.items ≡ c.args.self.now ++ up_to_slot c.args.last c.cells_into.new.run.items =
    c.in_ok-push_up_to.ensures ∙ (λ i. old i ++ up_to_slot (last i) (c.deref.ensures.value i)) in (
      subst (λ (z : ℤ). c.args.first <ℤ z) (sym end)
          (starts c.in-Some.cell c.args.first c.in_ok-slots.slots c.in_ok-slots.ensures.some),
      run_pushed m c.args.first c.in-Some.cell c.args.last c.args.origin c.in_ok-slots.slots c.in-Some.field-0-1
          c.cells_into.new.run.items c.args.self.now c.push_up_to.new.cells.items c.requires.order within next ran pushed
          ∙ ap (λ (z : ℤ). c.args.self.now ++ cells_between m c.args.first (int_min z (c.args.last +ℤ pos 1))) (sym end),
    )
