use Rattle.std.proofs.Common.{rules, ◌≡◌, length, map, refl, sym, ap, ◌∙◌}
use Rattle.std.specs.Prelude.{count_ones, vec_len}
use Rattle.std.proofs.lemmas.List.{take_all}
use Rattle.rr_archive.specs.Entries.{items_of}
use Rattle.rr_packed.proofs.BlockLemmas.{block_copied, same_length}
use Rattle.rr_packed.proofs.block.Block.copy.Goals as goal

pub invariant_of-result-2 : goal.invariant_of-result-2
invariant_of-result-2 c =
    let old = c.args.self.now.rows in
    let all : c.deref-entries-items.result.now ≡ old.items.items = search rules in
    let rows = c.loop-entries.invariant ∙ ap (map items_of)
    (take_all c.loop-entries.entries-index c.deref-entries-items.result.now c.loop-entries-test.false ∙ all) in
    let len = same_length c.loop-entries.rows.items old.items.items rows in
    let counted : count_ones old.mask ≡ vec_len old.items = old.counted in
    let was : vec_len old.items ≡ length old.items.items = search rules in
    let is : length c.loop-entries.rows.items ≡ vec_len c.loop-entries.rows = search rules in
    record { counted = counted ∙ was ∙ sym len ∙ is }

pub returns : goal.returns
returns c =
    let old = c.args.self.now in
    let all : c.deref-entries-items.result.now ≡ old.rows.items.items = search rules in
    let rows = c.loop-entries.invariant ∙ ap (map items_of)
    (take_all c.loop-entries.entries-index c.deref-entries-items.result.now c.loop-entries-test.false ∙ all) in
    let samples : c.in_ok-samples.samples.items ≡ old.samples.items.items = search rules in
    block_copied old _ refl refl samples refl rows
