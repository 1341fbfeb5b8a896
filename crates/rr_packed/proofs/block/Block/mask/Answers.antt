use Rattle.std.proofs.Common.{◌≡◌, arith}
use Rattle.std.specs.Int.{bit_at}
use Rattle.std.proofs.lemmas.Nat.Bits.{bit_at_or}
use Rattle.rr_packed.proofs.SparseLemmas.{place_none, item_none}
use Rattle.rr_packed.proofs.BlockLemmas.{items_none}
use Rattle.rr_packed.proofs.block.Block.mask.Goals as goal

-- a row whose bit neither mask has
pub returns : goal.returns
returns c = λ n e.
    let b = c.args.self.now in
    let either = bit_at_or b.samples.mask b.rows.mask n in
    let samples : bit_at b.samples.mask n ≡ 0 = omega arith in
    let rows : bit_at b.rows.mask n ≡ 0 = omega arith in
    items_none b n (item_none b.rows.mask b.rows.items.items n (place_none b.rows.mask n rows))
    (item_none b.samples.mask b.samples.items.items n (place_none b.samples.mask n samples))
