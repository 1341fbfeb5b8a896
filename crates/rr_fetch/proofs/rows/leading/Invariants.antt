use Rattle.std.proofs.Common.{◌≡◌, ◌+◌, ◌-◌, ◌≤◌, drop, length}
use Rattle.std.specs.List.{prefix_len}
use Rattle.std.specs.Ordering.{int_eq}
use Rattle.rr_fetch.proofs.rows.leading.Given as goal

-- those so far are of the slot, and then come those that still are
abbrev pub invariant-loop-count : goal.invariant-loop-count
invariant-loop-count l = record {
  counted : l.count + prefix_len (λ c. int_eq c.0 l.slot) (drop l.count l.cells)
      ≡ prefix_len (λ c. int_eq c.0 l.slot) l.cells;
  within : l.count ≤ length l.cells;
}

abbrev pub decreases-loop-count : goal.decreases-loop-count
decreases-loop-count l = length l.cells - l.count
