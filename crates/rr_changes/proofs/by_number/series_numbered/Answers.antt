use Rattle.std.proofs.Common.{rules, pos, ◌≡◌, ◌<◌, ◌+◌, List, ℕ, length, take, get_or, sym, subst, true, ap, ◌∙◌, ◌++◌}
use Rattle.std.proofs.lemmas.List.{take_all, take_more}
use Rattle.rr_changes.specs.declared.changed_series.ChangedSeries.{ChangedSeries}
use Rattle.rr_changes.specs.declared.time_range.TimeRange.{TimeRange}
use Rattle.rr_changes.specs.ChangeTimes.{is_changed}
use Rattle.rr_changes.specs.Tracking.{numbered_series, times_at}
use Rattle.rr_changes.proofs.NumberedLemmas.{AreSoFar, all_so_far, one_so_far}
use Rattle.rr_changes.proofs.TrackingLemmas.{all_within, listed_here, times_there}
use Rattle.rr_changes.proofs.by_number.series_numbered.Goals as goal

pub bounds-times-number : goal.bounds-times-number
bounds-times-number g c = all_within c.args.times.now c.args.changed.now c.loop-number.number-index 0 c.requires
    c.loop-number-test.true

pub offset_bounds-times-number : goal.offset_bounds-times-number
offset_bounds-times-number g c =
    let within : get_or c.args.changed.now c.loop-number.number-index 0 < length c.args.times.now =
    all_within c.args.times.now c.args.changed.now c.loop-number.number-index 0 c.requires c.loop-number-test.true in
    search rules

pub loop-number-preserved : goal.loop-number-preserved
loop-number-preserved g c =
    let changed = c.args.changed.now in
    let times = c.args.times.now in
    let k = c.loop-number.number-index in
    let i = get_or changed k 0 in
    let keys = c.args.replica.now.keys in
    let within = all_within times changed k 0 c.requires c.loop-number-test.true in
    let moves : is_changed (times_at times i) ≡ true =
    c.requires.moved i (listed_here changed k 0 c.loop-number-test.true) in
    let none : TimeRange = record { first = pos 0; last = pos 0 } in
    let items : c.push_series.new.list.items ≡ c.loop-number.list.items ++ numbered_series keys i (times_at times i) =
    c.in_ok-push_series.ensures
    ∙ ap (λ p. c.loop-number.list.items ++ numbered_series keys i p)
    (times_there times i (record { recent = none; late = none }) within) in
    subst (λ (l : List ChangedSeries). AreSoFar keys times (take (k + 1) changed) l) (sym items)
    (subst (λ (l : List ℕ). AreSoFar keys times l (c.loop-number.list.items ++ numbered_series keys i (times_at times i)))
    (sym (take_more changed k 0 c.loop-number-test.true))
    (one_so_far keys times (take k changed) i c.loop-number.list.items moves c.loop-number.invariant))

pub returns : goal.returns
returns g c =
    let changed = c.args.changed.now in
    let all : take c.loop-number.number-index changed ≡ changed = take_all c.loop-number.number-index changed
    c.loop-number-test.false in
    all_so_far c.args.replica.now.keys c.args.times.now changed c.loop-number.list.items c.requires
    (subst (λ (l : List ℕ). AreSoFar c.args.replica.now.keys c.args.times.now l c.loop-number.list.items) all
    c.loop-number.invariant)
