use Rattle.std.proofs.Common.{rules, ◌≡◌, ℕ, ◌^◌, ◌<◌, ◌-ℤ◌, ℤ, pos, arith, to_z, of_z, w64, FitsSigned}
use Rattle.std.proofs.Math.Facts.{to_z-of_z}
use Rattle.std.proofs.lemmas.Int.{ints}
use Rattle.rr_archive.specs.CellSlots.{IsSlot}
use Rattle.rr_archive.proofs.live_slots.first_live.Goals as goal

fits_before : (newest : ℤ) (rows : ℕ) → IsSlot newest → rows < 2 ^ 32 → FitsSigned w64 (newest -ℤ pos rows)
fits_before newest rows slot few = let low = slot.0 in let high = slot.1 in omega (arith, ints)

pub overflow_sub-result : goal.overflow_sub-result
overflow_sub-result c =
    let slot = c.requires in
    let back : to_z w64 (of_z w64 c.args.newest) ≡ c.args.newest = search rules in
    let rows : to_z w64 (of_z w64 c.from.result) ≡ c.from.result = search rules in
    let is = c.from.ensures in
    rw (back, rows, is) (fits_before c.args.newest c.args.rows slot (omega arith))

pub overflow_add-result : goal.overflow_add-result
overflow_add-result c =
    let slot = c.requires in
    let low = slot.0 in
    let high = slot.1 in
    let back : to_z w64 (of_z w64 c.args.newest) ≡ c.args.newest = search rules in
    let rows : to_z w64 (of_z w64 c.from.result) ≡ c.from.result = search rules in
    let is = c.from.ensures in
    let before : to_z w64 (of_z w64 (c.args.newest -ℤ pos c.args.rows)) ≡ c.args.newest -ℤ pos c.args.rows =
    to_z-of_z (fits_before c.args.newest c.args.rows slot (omega arith)) in
    rw (back, rows, is, before) (omega (arith, ints))

pub returns : goal.returns
returns c =
    let slot = c.requires in
    let low = slot.0 in
    let high = slot.1 in
    let back : to_z w64 (of_z w64 c.args.newest) ≡ c.args.newest = search rules in
    let rows : to_z w64 (of_z w64 c.from.result) ≡ c.from.result = search rules in
    let is = c.from.ensures in
    let before : to_z w64 (of_z w64 (c.args.newest -ℤ pos c.args.rows)) ≡ c.args.newest -ℤ pos c.args.rows =
    to_z-of_z (fits_before c.args.newest c.args.rows slot (omega arith)) in
    rw (back, rows, is, before) (to_z-of_z {w = w64} (omega (arith, ints)))
