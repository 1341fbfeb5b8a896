use Rattle.std.proofs.Common.{◌≡◌, ◌++◌, map, take}
use Rattle.std.specs.List.{flat_map}
use Rattle.rr_web.specs.Family.{sample_text, sample_view}
use Rattle.rr_web.proofs.family.push_samples.Given as goal

-- the lines of the samples so far were added
abbrev pub invariant-loop-sample : goal.invariant-loop-sample
invariant-loop-sample l =
    l.text.items ≡ l.initial.text.items ++ flat_map (sample_text l.name) (map sample_view (take l.sample-index l.samples))
