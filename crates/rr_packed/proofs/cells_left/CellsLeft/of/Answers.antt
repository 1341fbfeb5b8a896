use Rattle.std.proofs.Common.{ap, ◌∙◌}
use Rattle.rr_packed.specs.PackedRows.{are_in_order, left_of}
use Rattle.rr_packed.proofs.CellsLeftLemmas.{packed_in_order, packed_left}
use Rattle.rr_packed.proofs.cells_left.CellsLeft.of.Goals as goal

pub invariant_of-result : goal.invariant_of-result
invariant_of-result c = record {
  in_order =
      ap are_in_order (c.in-Ok.ensures ∙ packed_left c.args.bytes.now c.requires)
      ∙ packed_in_order c.args.bytes.now c.requires;
}

pub returns : goal.returns
returns c = ap left_of (c.in-Ok.ensures ∙ packed_left c.args.bytes.now c.requires)
