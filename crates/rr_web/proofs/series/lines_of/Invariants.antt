use Rattle.std.proofs.Common.{◌≡◌, take}
use Rattle.std.specs.List.{flat_map}
use Rattle.rr_web.specs.Series.{line_of}
use Rattle.rr_web.proofs.series.lines_of.Given as goal

-- the lines of the keys so far are there
abbrev pub invariant-loop-key : goal.invariant-loop-key
invariant-loop-key l = l.text.items ≡ flat_map line_of (take l.key-index l.keys)
