use Rattle.std.proofs.Common.{◌≡◌, ◌≤◌, ℕ, List, ◌++◌, length}
use Rattle.std.specs.Io.KnownBytes.{Appends}
use Rattle.rr_io.specs.Counted.{inner_of, failures_of}
use Rattle.rr_io.proofs.stream.write_all.Given as goal

-- the prefix of the text is written, and the rest of it is left
abbrev pub invariant-loop-rest : goal.invariant-loop-rest
invariant-loop-rest g l = record {
  written : (prefix : List ℕ) × (l.text ≡ prefix ++ l.rest)
      × Appends (g.W.Write.contents (inner_of l.initial.output)) (g.W.Write.contents (inner_of l.output)) prefix;
  count : failures_of l.initial.output ≤ failures_of l.output;
}

abbrev pub decreases-loop-rest : goal.decreases-loop-rest
decreases-loop-rest g l = length l.rest
