use Rattle.std.proofs.Common.{◌≡◌, ℕ, ◌-◌, List, ◌++◌, filter, length, take}
use Rattle.std.specs.List.{flat_map}
use Rattle.rr_web.specs.Series.{begins_with, line_of}
use Rattle.rr_web.proofs.series.push_keys.Given as goal

-- the lines of as many keys as a number that begin with a prefix
abbrev lines_of : ℕ → List ℕ → List (List ℕ) → List ℕ
lines_of count prefix keys = flat_map line_of (take count (filter (begins_with prefix) keys))

-- of the keys so far the lines of as many were added
abbrev pub invariant-loop-key : goal.invariant-loop-key
invariant-loop-key l = record {
  lines : l.text.items ≡ l.initial.text.items ++ lines_of l.count l.prefix (take l.key-index l.keys);
  left : l.left ≡ l.count - length (filter (begins_with l.prefix) (take l.key-index l.keys));
}
