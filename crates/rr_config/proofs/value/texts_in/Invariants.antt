use Rattle.std.proofs.Common.{◌≡◌, map, drop}
use Rattle.std.specs.String.{string_bytes}
use Rattle.toml.specs.View.{items_view}
use Rattle.rr_config.specs.Values.{texts_in}
use Rattle.rr_config.proofs.TextsLemmas.{with_prefix}
use Rattle.rr_config.proofs.value.texts_in.Given as goal

-- the texts so far and those of the values that are left are all texts
abbrev pub invariant-loop-value : goal.invariant-loop-value
invariant-loop-value l = with_prefix (map string_bytes l.texts.items)
    (texts_in (items_view (drop l.value-index l.values.items))) ≡ texts_in (items_view l.values.items)
