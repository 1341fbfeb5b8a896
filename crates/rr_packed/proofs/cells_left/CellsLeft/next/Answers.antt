use Rattle.std.proofs.Common.{rules, ◌≡◌, pos, ◌∷◌, ℤ, ◌≤ℤ◌, nat_abs, to_z, of_z, w64, arith, ap, ◌∙◌, sym}
use Rattle.std.proofs.lemmas.Int.{ints}
use Rattle.rr_packed.specs.PackedRows.{left_of}
use Rattle.rr_packed.proofs.CellsLeftLemmas.{order_kept, some_taken}
use Rattle.rr_packed.proofs.cells_left.CellsLeft.next.Goals as goal

pub invariant_of-self : goal.invariant_of-self
invariant_of-self c = record {
  in_order = order_kept c.args.self.now.decoder c.next.new.self c.next.result c.next.ensures c.args.self.now.in_order;
}

pub overflow_cast-result : goal.overflow_cast-result
overflow_cast-result c =
    let cell = c.in-Ok-Some.cell in
    let old = c.args.self.now.decoder in
    let taken = some_taken cell c.in-Ok-Some.field-0 old c.next.new.self c.in-Ok-Some.field-0-is c.in-Ok-Some.ensures
    c.args.self.now.in_order in
    let slot : to_z w64 (of_z w64 cell.0) ≡ cell.0 = search rules in
    let low = taken.low in
    let high = taken.high in
    rw slot (omega (arith, ints), omega (arith, ints))

pub invariant_of-result : goal.invariant_of-result
invariant_of-result c =
    let cell = c.in-Ok-Some.cell in
    let old = c.args.self.now.decoder in
    let taken = some_taken cell c.in-Ok-Some.field-0 old c.next.new.self c.in-Ok-Some.field-0-is c.in-Ok-Some.ensures
    c.args.self.now.in_order in
    let slot : to_z w64 (of_z w64 cell.0) ≡ cell.0 = search rules in
    let low = taken.low in
    let high = taken.high in
    record { fits = rw slot (omega (arith, ints)) }

number_of : (z : ℤ) → pos 0 ≤ℤ z → pos (nat_abs z) ≡ z
number_of z h = omega (arith, ints)

pub returns-in-Ok-Some : goal.returns-in-Ok-Some
returns-in-Ok-Some c =
    let cell = c.in-Ok-Some.cell in
    let old = c.args.self.now.decoder in
    let taken = some_taken cell c.in-Ok-Some.field-0 old c.next.new.self c.in-Ok-Some.field-0-is c.in-Ok-Some.ensures
    c.args.self.now.in_order in
    let slot : to_z w64 (of_z w64 cell.0) ≡ cell.0 = search rules in
    taken.takes ∙ ap (λ (z : ℤ). (z, cell.1) ∷ left_of c.next.new.self.cells)
    (sym (ap (λ (z : ℤ). pos (nat_abs z)) slot ∙ number_of cell.0 taken.low))
