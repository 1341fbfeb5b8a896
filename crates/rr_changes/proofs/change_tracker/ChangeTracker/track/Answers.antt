use Rattle.std.proofs.Common.{rules, ◌≡◌, ◌<◌, ◌++◌, ◌∷◌, [], ℕ, List, length, set, ap, sym, ◌∙◌, subst, if◌then◌else◌, to_z, of_z, w64}
use Rattle.rr_changes.specs.declared.time_range.ChangeTimes.{ChangeTimes}
use Rattle.rr_changes.specs.ChangeTimes.{is_changed, with_time}
use Rattle.rr_changes.specs.Tracking.{AreListed, ChangedState, times_of}
use Rattle.rr_changes.proofs.TrackingLemmas.{listed_too, times_set_here, times_set_other, times_there, with_time_changed}
use Rattle.rr_changes.proofs.change_tracker.ChangeTracker.track.Goals as goal

pub invariant_of-self : goal.invariant_of-self
invariant_of-self c =
    let a = c.self.inside in
    let i = c.args.series in
    let within : i < length a.times.items = search rules in
    let was = c.index.ensures ∙ times_there a.times.items i c.index.result.now within in
    let moves = ap is_changed c.with_time.ensures
    ∙ with_time_changed a.near c.index.result.now (to_z w64 (of_z w64 c.args.time)) in
    let listed = ap (λ (p : ChangeTimes). if is_changed p then a.changed.items else a.changed.items ++ i ∷ []) (sym was)
    ∙ sym c.list.ensures in
    subst (λ (l : List ℕ). AreListed (set a.times.items i c.with_time.result) l) listed
    (listed_too a.times.items a.changed.items i c.with_time.result c.self.invariant within moves)

pub returns-clause-widened : goal.returns-clause-widened
returns-clause-widened c =
    let a = c.self.inside in
    let i = c.args.series in
    let within : i < length a.times.items = search rules in
    let was = c.index.ensures ∙ times_there a.times.items i c.index.result.now within in
    let time : to_z w64 (of_z w64 c.args.time) ≡ c.args.time = search rules in
    times_set_here a.times.items i c.with_time.result within ∙ c.with_time.ensures
    ∙ (λ j. with_time a.near (was j) (time j))
    ∙ ap (λ (s : ChangedState). with_time s.near (times_of s i) c.args.time) c.self.view_is

pub returns-clause-others : goal.returns-clause-others
returns-clause-others c = λ j ne.
    let a = c.self.inside in
    times_set_other a.times.items c.args.series j c.with_time.result ne
    ∙ ap (λ (s : ChangedState). times_of s j) c.self.view_is
