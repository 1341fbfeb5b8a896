use Rattle.std.proofs.Common.{rules, ◌≡◌, ◌++◌, sym, ap, ◌∙◌, subst, to_z, of_z, w64}
use Rattle.std.specs.List.Sorted.{IsStrictlySortedBy}
use Rattle.std.specs.Map.{keys_of}
use Rattle.std.specs.Option.{option_to_list}
use Rattle.std.specs.Ordering.{int_cmp}
use Rattle.std.specs.VecDeque.Iter.{deque_iter_rest}
use Rattle.rr_packed.specs.Slots.{begins_before}
use Rattle.rr_packed.specs.Blocks.{all_blocks}
use Rattle.rr_packed.proofs.SparseLemmas.{empty_of}
use Rattle.rr_packed.proofs.BlocksLemmas.{copied_more, all_copied, both_copied, copied_numbers, copied_rows}
use Rattle.rr_packed.proofs.blocks.Blocks.copy.Goals as goal

pub loop-number-preserved : goal.loop-number-preserved
loop-number-preserved c =
    copied_more c.args.self.now.older.items (deque_iter_rest c.loop-number.number-iterator)
    (deque_iter_rest c.next.new.self) c.loop-number.older.items c.push_back.new.self.items c.in-Some.number
    c.in-Some.block c.in_ok-copy.field-0 c.loop-number.invariant (search rules) (search rules) (search rules)
    (search rules)

pub invariant_of-result : goal.invariant_of-result
invariant_of-result c =
    let a = c.args.self.now in
    let left = deque_iter_rest c.loop-number.number-iterator in
    let same = all_copied a.older.items left c.loop-number.older.items c.loop-number.invariant
    (empty_of left (search rules)) in
    let both = both_copied a.older.items (option_to_list a.newest) c.loop-number.older.items
    (option_to_list c.in_ok-copy_newest.field-0) same c.in_ok-copy_newest.ensures in
    let numbers = copied_numbers (all_blocks a) _ both in
    record {
      ordered = subst (IsStrictlySortedBy int_cmp) (sym numbers) a.ordered;
      none_before =
          let same : to_z w64 (of_z w64 a.dropped) ≡ a.dropped = search rules in
          ap (λ d. begins_before d (keys_of (c.loop-number.older.items ++ option_to_list c.in_ok-copy_newest.field-0)))
          same
          ∙ ap (begins_before a.dropped) numbers ∙ a.none_before;
    }

pub returns-clause-rows : goal.returns-clause-rows
returns-clause-rows c =
    let a = c.args.self.now in
    let left = deque_iter_rest c.loop-number.number-iterator in
    let same = all_copied a.older.items left c.loop-number.older.items c.loop-number.invariant
    (empty_of left (search rules)) in
    copied_rows (all_blocks a) _ (both_copied a.older.items (option_to_list a.newest) c.loop-number.older.items
    (option_to_list c.in_ok-copy_newest.field-0) same c.in_ok-copy_newest.ensures)

pub returns-clause-blocks : goal.returns-clause-blocks
returns-clause-blocks c =
    let a = c.args.self.now in
    let left = deque_iter_rest c.loop-number.number-iterator in
    let same = all_copied a.older.items left c.loop-number.older.items c.loop-number.invariant
    (empty_of left (search rules)) in
    both_copied a.older.items (option_to_list a.newest) c.loop-number.older.items
    (option_to_list c.in_ok-copy_newest.field-0) same c.in_ok-copy_newest.ensures
