use Rattle.std.proofs.Common.{◌≡◌, ℕ, List, ◌++◌, length}
use Rattle.rr_process.specs.Checker.{Reports}
use Rattle.rr_process.specs.Writing.{written, IsBetween}
use Rattle.rr_process.proofs.checker.Checker.push_items.Given as goal

-- what was handed out is reported and counted
abbrev pub invariant-loop-item : goal.invariant-loop-item
invariant-loop-item l = record {
  between : IsBetween l.report;
  reported : (text : List ℕ) × (written l.report ≡ written l.initial.report ++ text)
      × Reports l.initial.self l.self text;
}

abbrev pub decreases-loop-item : goal.decreases-loop-item
decreases-loop-item l = length l.self.feed.left
