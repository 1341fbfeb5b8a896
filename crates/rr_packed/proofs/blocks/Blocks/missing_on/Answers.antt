use Rattle.std.proofs.Common.{rules, ◌≡◌, ◌-◌, max, min, sym, arith, to_z, of_z, w64}
use Rattle.rr_packed.specs.Slots.{row_of}
use Rattle.rr_packed.specs.Blocks.{all_blocks}
use Rattle.rr_packed.proofs.BlocksLemmas.{none_on}
use Rattle.rr_packed.proofs.blocks.Blocks.missing_on.Goals as goal

pub returns : goal.returns
returns c = record {
  at_least_one = search rules;
  at_most = search rules;
  empty =
      λ i from h.
      let bs = all_blocks c.args.self.now in
      let row : c.row_of.result.value ≡ row_of c.args.slot = search rules in
      let is : c.max.result
      ≡ max (min c.args.most (64 - c.row_of.result.value)) (min c.slots_to_first.result c.args.most) =
      search rules in
      let slot : to_z w64 (of_z w64 c.args.slot) ≡ c.args.slot = search rules in
      none_on bs c.args.slot c.args.most c.slots_to_first.result i (sym c.requires)
      (rw slot at c.slots_to_first.ensures) (omega (arith, is, row, h));
}
