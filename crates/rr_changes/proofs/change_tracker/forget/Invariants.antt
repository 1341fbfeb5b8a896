use Rattle.std.proofs.Common.{◌≡◌, ℕ, false, length, drop}
use Rattle.rr_changes.specs.declared.time_range.TheConstants.{UNCHANGED}
use Rattle.rr_changes.specs.Tracking.{is_listed, times_at}
use Rattle.rr_changes.proofs.change_tracker.forget.Given as goal

-- what isn't listed from here on has not changed
abbrev pub invariant-loop-series : goal.invariant-loop-series
invariant-loop-series l = record {
  same : length l.times ≡ length l.fn.times;
  left : (i : ℕ) → is_listed (drop l.series-index l.changed) i ≡ false → times_at l.times i ≡ UNCHANGED;
}
