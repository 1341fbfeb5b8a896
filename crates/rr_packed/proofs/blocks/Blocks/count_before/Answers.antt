use Rattle.std.proofs.Common.{rules, ◌≡◌, ◌+◌, ℤ, length, true, false, ap, ◌∙◌}
use Rattle.std.specs.Prelude.{int_lt}
use Rattle.std.specs.Option.{option_to_list}
use Rattle.std.proofs.lemmas.List.Sorted.{IsPartitionPoint-from_clause}
use Rattle.rr_packed.specs.declared.held_block.HeldBlock.{HeldBlock}
use Rattle.rr_packed.specs.Blocks.{starts_before}
use Rattle.rr_packed.proofs.NumberLemmas.{ascend_prefix, count_by_parts, count_older, count_past, parted}
use Rattle.rr_packed.proofs.blocks.Blocks.count_before.Goals as goal

pub returns-then-ends_before : goal.returns-then-ends_before
returns-then-ends_before c =
    let a = c.args.self.now in
    let before : starts_before c.args.number (option_to_list a.newest) ≡ true = search rules in
    let len : c.len.result ≡ length a.older.items = search rules in
    ap (λ n. n + 1) len ∙ count_past c.args.number a.older.items a.newest a.ordered before

pub returns-else-ends_before : goal.returns-else-ends_before
returns-else-ends_before c =
    let a = c.args.self.now in
    let bs = a.older.items in
    let n = c.args.number in
    let after : starts_before n (option_to_list a.newest) ≡ false = search rules in
    count_by_parts n bs c.partition_point.result (search rules)
    (IsPartitionPoint-from_clause (λ (b : ℤ × HeldBlock). int_lt b.0 n) bs c.partition_point.result
    c.partition_point.ensures.partitioned (parted n bs (ascend_prefix bs (option_to_list a.newest) a.ordered))
    (λ a r f called. search rules))
    ∙ count_older n bs a.newest after
