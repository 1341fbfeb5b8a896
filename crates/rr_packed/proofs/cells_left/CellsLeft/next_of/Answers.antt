use Rattle.std.proofs.Common.{sym, ◌∙◌}
use Rattle.rr_packed.proofs.CellsLeftLemmas.{none_of_earlier}
use Rattle.rr_packed.proofs.cells_left.CellsLeft.next_of.Goals as goal

pub returns-then-cell-number-2 : goal.returns-then-cell-number-2
returns-then-cell-number-2 c =
    let left = c.loop-cell.self in
    sym c.loop-cell.invariant
    ∙ none_of_earlier left.decoder.cells c.in-Some.cell.number.value c.in-Some.cell.entry _ c.args.number.value
    left.in_order c.in-Some.ensures c.if-cell-number-2.true
