use Rattle.std.proofs.Common.{rules, ◌≡◌, ◌<◌, ℤ, length, get_or}
use Rattle.rr_packed.specs.declared.held_block.HeldBlock.{HeldBlock}
use Rattle.rr_packed.specs.Blocks.{all_blocks, count_before}
use Rattle.rr_packed.proofs.NumberLemmas.{gap_at, number_there, place_within}
use Rattle.rr_packed.proofs.blocks.Blocks.find.Goals as goal

pub returns-else-other-number-clause-missing : goal.returns-else-other-number-clause-missing
returns-else-other-number-clause-missing c =
    let bs = all_blocks c.args.self.now in
    let there : ℤ × HeldBlock = c.in-Some-nth.field-0.now in
    let at : c.count_before-at.result ≡ count_before c.args.number bs = search rules in
    let is : there ≡ get_or bs c.count_before-at.result there = search rules in
    gap_at bs c.args.number c.count_before-at.result c.args.self.now.ordered at
    (λ place. let same : there.0 ≡ c.args.number =
    number_there bs c.args.number c.count_before-at.result there is place in search rules)

pub returns-in_default-nth-clause-missing : goal.returns-in_default-nth-clause-missing
returns-in_default-nth-clause-missing c =
    let bs = all_blocks c.args.self.now in
    let at : c.count_before-at.result ≡ count_before c.args.number bs = search rules in
    gap_at bs c.args.number c.count_before-at.result c.args.self.now.ordered at
    (λ place. let within : c.count_before-at.result < length bs =
    place_within bs c.args.number c.count_before-at.result place in search rules)
