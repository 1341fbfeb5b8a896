use Rattle.rr_changes.proofs.TrackingLemmas.{tracked_operations_are_covered, tracked_times_are_in, one_more_is_tracked, times_stay_in, unchanging_needs_no_tracking}
use Rattle.rr_changes.proofs.laws.changes.tracked_operations_are_covered.Goals as goal

pub returns : goal.returns
returns c = record {
  times = tracked_times_are_in;
  stay = times_stay_in;
  one_more = one_more_is_tracked;
  unchanging = unchanging_needs_no_tracking;
  covered = tracked_operations_are_covered;
}
