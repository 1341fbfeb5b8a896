use Rattle.std.proofs.Common.{rules, ◌≡◌, []}
use Rattle.rr_packed.proofs.BlockLemmas.{samples_alike}
use Rattle.rr_packed.proofs.block.Block.is_same.Goals as goal

pub returns-then-is_same_source : goal.returns-then-is_same_source
returns-then-is_same_source c = λ t.
    let own = c.args.self.now in
    let other = c.args.other.now in
    let was : own.rows.items.items ≡ [] = search rules in
    let is : other.rows.items.items ≡ [] = search rules in
    let source : own.source ≡ other.source = search rules in
    let mask : own.samples.mask ≡ other.samples.mask = search rules in
    let samples : own.samples.items.items ≡ other.samples.items.items = search rules in
    samples_alike other own is was source mask samples
