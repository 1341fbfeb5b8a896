use Rattle.std.proofs.Common.{◌≡◌, ◌++◌, map, take}
use Rattle.std.specs.List.{flat_map}
use Rattle.rr_web.specs.Family.{label_view, next_label_text}
use Rattle.rr_web.proofs.family.push_next_labels.Given as goal

-- the labels so far were added
abbrev pub invariant-loop-label : goal.invariant-loop-label
invariant-loop-label l =
    l.text.items ≡ l.initial.text.items ++ flat_map next_label_text (map label_view (take l.label-index l.labels))
