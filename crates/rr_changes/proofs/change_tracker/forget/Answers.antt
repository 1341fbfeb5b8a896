use Rattle.std.proofs.Common.{rules, ◌<◌, ◌∙◌, length, get_or, arith}
use Rattle.std.proofs.Math.ListN.{length-set}
use Rattle.rr_changes.specs.declared.time_range.TheConstants.{UNCHANGED}
use Rattle.rr_changes.proofs.TrackingLemmas.{all_within, forgotten}
use Rattle.rr_changes.proofs.change_tracker.forget.Goals as goal

pub bounds-times-series : goal.bounds-times-series
bounds-times-series c =
    let lt = all_within c.args.times.now c.args.changed.now c.loop-series.series-index 0 c.requires
    c.loop-series-test.true in
    let same = c.loop-series.invariant.same in
    omega arith

pub offset_bounds-times-series : goal.offset_bounds-times-series
offset_bounds-times-series c =
    let lt : get_or c.args.changed.now c.loop-series.series-index 0 < length c.args.times.now = all_within
    c.args.times.now c.args.changed.now c.loop-series.series-index 0 c.requires c.loop-series-test.true in
    search rules

pub loop-series-preserved : goal.loop-series-preserved
loop-series-preserved c =
    let changed = c.args.changed.now in
    let k = c.loop-series.series-index in
    let lt = all_within c.args.times.now changed k 0 c.requires c.loop-series-test.true in
    let same = c.loop-series.invariant.same in
    record {
      same = length-set c.loop-series.times (get_or changed k 0) UNCHANGED ∙ same;
      left = forgotten c.loop-series.times changed k 0 c.loop-series-test.true
          (omega arith) c.loop-series.invariant.left;
    }
