use Rattle.std.proofs.Common.{rules, ◌≡◌, length, ap, sym, ◌∙◌, vec_len}
use Rattle.std.proofs.lemmas.Bool.{eqb-true, eq-eqb}
use Rattle.std.proofs.lemmas.List.{nil_from_length}
use Rattle.rr_changes.specs.Tracking.{ChangedState, times_of}
use Rattle.rr_changes.proofs.TrackingLemmas.{none_listed}
use Rattle.rr_changes.proofs.change_tracker.ChangeTracker.is_empty.Goals as goal

pub returns : goal.returns
returns c =
    let a = c.self.inside in
    let len : vec_len a.changed ≡ length a.changed.items = search rules in
    let both = none_listed a.times.items a.changed.items c.self.invariant in (
      λ t i. ap (λ (s : ChangedState). times_of s i) (sym c.self.view_is)
          ∙ both.0 (nil_from_length a.changed.items (sym len
          ∙ eqb-true (vec_len a.changed) 0 (sym c.is_empty.ensures ∙ t))) i,
      λ all. c.is_empty.ensures ∙ eq-eqb (vec_len a.changed) 0
          (len ∙ ap length (both.1 (λ i. ap (λ (s : ChangedState). times_of s i) c.self.view_is ∙ all i))),
    )
