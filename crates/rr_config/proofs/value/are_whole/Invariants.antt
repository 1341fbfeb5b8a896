use Rattle.std.proofs.Common.{◌≡◌, drop}
use Rattle.toml.specs.View.{items_view}
use Rattle.rr_config.specs.Values.{are_whole}
use Rattle.rr_config.proofs.value.are_whole.Given as goal

-- the values that are left decide
abbrev pub invariant-loop-value : goal.invariant-loop-value
invariant-loop-value l = are_whole (items_view (drop l.value-index l.values.items))
    ≡ are_whole (items_view l.values.items)
