use Rattle.std.proofs.Common.{◌≡◌, ◌++◌, drop, take, All}
use Rattle.rr_codec.specs.Fields.{IsTyped}
use Rattle.rr_codec.specs.Recent.{nothing_known}
use Rattle.rr_codec.specs.Text.{cells_text}
use Rattle.rr_codec.proofs.encoding.push_each.Given as goal

-- what is written, and the text of the cells that are left, are the text of all
abbrev pub invariant-loop-cell : goal.invariant-loop-cell
invariant-loop-cell l = record {
  added : l.bytes.items ++ cells_text l.known (drop l.cell-index l.cells)
      ≡ l.initial.bytes.items ++ cells_text (nothing_known l.span) l.cells;
  typed : All IsTyped (take l.cell-index l.cells);
}
