use Rattle.std.proofs.Common.{rules, ◌≡◌, ◌+◌, ◌-◌, ◌≤◌, length, vec_capacity, sym, subst, to_z, of_z, w64}
use Rattle.std.specs.Result.{IsOk}
use Rattle.rr_packed.specs.declared.held_block.HeldBlock.{HeldBlock}
use Rattle.rr_packed.specs.Blocks.{stored_in}
use Rattle.rr_packed.specs.PackedRows.{cells_of_rows}
use Rattle.rr_packed.proofs.held_block.HeldBlockRows.cells_into.Goals as goal

pub returns-in-Own-clause-room : goal.returns-in-Own-clause-room
returns-in-Own-clause-room c =
    let first = c.args.first.value in
    let slot : to_z w64 (of_z w64 c.args.slot) ≡ c.args.slot = search rules in
    subst (λ (b : HeldBlock). length c.args.run.now.items
    + length (cells_of_rows (λ i. stored_in b (first + i)) c.args.slot (64 - first))
    ≤ vec_capacity c.args.run.now → IsOk c.cells_into.result) (sym c.in-Own.is)
    (rw (slot, c.deref.ensures) at c.cells_into.ensures.room)

pub returns-in-Finished-clause-room : goal.returns-in-Finished-clause-room
returns-in-Finished-clause-room c =
    let first = c.args.first.value in
    let slot : to_z w64 (of_z w64 c.args.slot) ≡ c.args.slot = search rules in
    subst (λ (b : HeldBlock). length c.args.run.now.items
    + length (cells_of_rows (λ i. stored_in b (first + i)) c.args.slot (64 - first))
    ≤ vec_capacity c.args.run.now → IsOk c.cells_into-in-Finished.result) (sym c.in-Finished.is)
    (rw (slot, c.deref-in-Finished.ensures) at c.cells_into-in-Finished.ensures.room)

pub returns-in-Packed-clause-room : goal.returns-in-Packed-clause-room
returns-in-Packed-clause-room c =
    let first = c.args.first.value in
    let slot : to_z w64 (of_z w64 c.args.slot) ≡ c.args.slot = search rules in
    subst (λ (b : HeldBlock). length c.args.run.now.items
    + length (cells_of_rows (λ i. stored_in b (first + i)) c.args.slot (64 - first))
    ≤ vec_capacity c.args.run.now → IsOk c.cells_into-in-Packed.result) (sym c.in-Packed.is)
    (rw (slot, c.deref-in-Packed.ensures) at c.cells_into-in-Packed.ensures.room)
