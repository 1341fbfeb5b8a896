use Rattle.std.proofs.Common.{◌≡◌, ◌+◌, ◌^◌, ◌<◌, length}
use Rattle.rr_batch.specs.Refusals.{all_lines, whole_lines}
use Rattle.rr_batch.proofs.RefusalLemmas.{CountsSoFar}
use Rattle.rr_batch.proofs.refusals.RefusalCounts.add_lines.Given as goal

-- the lines so far and those that are left are all lines
abbrev pub invariant-loop-line : goal.invariant-loop-line
invariant-loop-line l = record {
  lines : l.lines + length (whole_lines l.left) ≡ length (whole_lines l.text);
  counts : all_lines l.fn.self + length (whole_lines l.text) < 2 ^ 64 → CountsSoFar l.fn.self l.self l.text l.left;
}

abbrev pub decreases-loop-line : goal.decreases-loop-line
decreases-loop-line l = length l.left
