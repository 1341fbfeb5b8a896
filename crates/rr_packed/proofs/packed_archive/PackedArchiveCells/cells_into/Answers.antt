use Rattle.std.proofs.Common.{rules, ◌≡◌, ℕ, ℤ, ◌≤ℤ◌, length, true, false, pos, ◌+ℤ◌, [], ◌++◌, sym, ap, ◌∙◌, arith, to_z, of_z, w64}
use Rattle.std.specs.Prelude.{int_lt}
use Rattle.std.proofs.lemmas.Int.{ints}
use Rattle.std.proofs.lemmas.Result.{IfOk-weaker}
use Rattle.rr_join.specs.Horizon.{is_above}
use Rattle.rr_archive.specs.Cells.{cells_on}
use Rattle.rr_archive.specs.LiveRows.{cells_by, is_later}
use Rattle.rr_packed.specs.Blocks.{row_at}
use Rattle.rr_packed.specs.PackedRows.{cells_of_rows}
use Rattle.rr_packed.proofs.RunLemmas.{run_live, run_dead, run_later}
use Rattle.rr_packed.proofs.packed_archive.PackedArchiveCells.cells_into.Goals as goal
use Rattle.rr_packed.proofs.packed_archive.PackedArchiveCells.cells_into.Goals.{then-newest-slot-via-then-newest-slot, then-newest-slot-via-else-newest-slot+then-not-is_live}

pub returns-in_default-clause-written : goal.returns-in_default-clause-written
returns-in_default-clause-written c =
    let a = c.args.self.now in
    let none : c.clear.new.self.items ≡ [] = search rules in
    none ∙ sym (run_later a.rows a.newest (row_at a.blocks) a.held.ascend a.held.none_later c.args.slot
    (ap (λ o. is_later o c.args.slot) c.in_default.is))

pub returns-then-newest-slot-clause-written : goal.returns-then-newest-slot-clause-written
returns-then-newest-slot-clause-written c =
    let a = c.args.self.now in
    let f = row_at a.blocks in
    let none : c.clear.new.self.items ≡ [] = search rules in
    none ∙ sym (elim c.then-newest-slot.branch [
      | then-newest-slot-via-then-newest-slot w ↦
          let after : int_lt c.in-Some.newest c.args.slot ≡ true = search rules in
          run_later a.rows a.newest f a.held.ascend a.held.none_later c.args.slot
          (ap (λ o. is_later o c.args.slot) c.in-Some.is ∙ after)
      | then-newest-slot-via-else-newest-slot+then-not-is_live w ↦
          let dead : is_above a.rows a.newest c.args.slot ≡ false = search rules in
          run_dead a.rows a.newest f a.held.ascend a.held.none_later c.args.slot dead
    ])

pub cells_into-read-requires : goal.cells_into-read-requires
cells_into-read-requires c =
    let slot : to_z w64 (of_z w64 c.args.slot) ≡ c.args.slot = search rules in
    let top = c.args.self.now.held.is_slot c.in-Some.newest c.in-Some.is in
    let near : c.args.slot ≤ℤ c.in-Some.newest = search rules in
    rw slot (within c.args.slot c.in-Some.newest _ near top.1)
  where
    within : (slot top : ℤ) (most : ℕ) → slot ≤ℤ top → top ≤ℤ pos most → slot ≤ℤ pos most
    within slot top most near h = omega (arith, ints)

pub returns-then-is_err-clause-room : goal.returns-then-is_err-clause-room
returns-then-is_err-clause-room c = λ room.
    let a = c.args.self.now in
    let f = row_at a.blocks in
    let slot : to_z w64 (of_z w64 c.args.slot) ≡ c.args.slot = search rules in
    let live : is_above a.rows a.newest c.args.slot ≡ true = search rules in
    let none : length c.clear.new.self.items ≡ 0 = search rules in
    let capacity = c.clear.ensures.capacity in
    (rw slot at c.cells_into-read.ensures.room) (λ slots.
    let fits = room slots in
    let same : length (cells_on (cells_by a.rows a.newest f) c.args.slot slots)
    ≡ length (cells_of_rows (λ i. f (c.args.slot +ℤ pos i)) c.args.slot slots) =
    ap length (run_live a.rows a.newest f a.held.ascend a.held.none_later c.args.slot slots live) in
    omega arith)

pub returns-else-is_err-clause-written : goal.returns-else-is_err-clause-written
returns-else-is_err-clause-written c =
    let a = c.args.self.now in
    let f = row_at a.blocks in
    let slot : to_z w64 (of_z w64 c.args.slot) ≡ c.args.slot = search rules in
    let live : is_above a.rows a.newest c.args.slot ≡ true = search rules in
    let none : c.clear.new.self.items ≡ [] = search rules in
    IfOk-weaker c.cells_into-read.result
    (λ slots. c.cells_into-read.new.run.items ≡ c.clear.new.self.items
    ++ cells_of_rows (λ i. f (c.args.slot +ℤ pos i)) c.args.slot slots)
    (λ slots. c.cells_into-read.new.run.items ≡ cells_on (cells_by a.rows a.newest f) c.args.slot slots)
    (λ slots added. added
    ∙ ap (λ cells. cells ++ cells_of_rows (λ i. f (c.args.slot +ℤ pos i)) c.args.slot slots) none
    ∙ sym (run_live a.rows a.newest f a.held.ascend a.held.none_later c.args.slot slots live))
    (rw slot at c.cells_into-read.ensures.added)
