-- Changed series by their numbers.
use Rattle.std.proofs.Common.{◌≡◌, ℕ, Bool, true, false, List, [], ◌∷◌, ◌++◌, All, slice_get, refl, sym, ap, ◌∙◌, subst, true≢false, Option, Some, None, is_some, unwrap_or, ⊎_elim}
use Rattle.std.specs.Prelude.{Contains}
use Rattle.std.proofs.lemmas.List.{append-nil}
use Rattle.std.proofs.lemmas.List.Elements.{All-push, Contains-append_left, Contains-push}
use Rattle.rr_changes.specs.declared.changed_series.ChangedSeries.{ChangedSeries}
use Rattle.rr_changes.specs.declared.time_range.ChangeTimes.{ChangeTimes}
use Rattle.rr_changes.specs.ChangeTimes.{is_changed}
use Rattle.rr_changes.specs.Tracking.{AreChangedSeries, AreListed, IsSeriesAt, is_listed, numbered_series, series_of, times_at}
use Rattle.rr_changes.proofs.TrackingLemmas.{listed_cases}

-- the series of these numbers
pub record AreSoFar (keys : List (List ℕ)) (times : List ChangeTimes) (numbers : List ℕ) (series : List ChangedSeries)
    : Type 0 where
  pub part : All (λ own. (i : ℕ) × IsSeriesAt keys times i own) series
  pub whole : (i : ℕ) (own : ChangedSeries) → is_listed numbers i ≡ true → IsSeriesAt keys times i own → Contains series own

-- a series is what stands at its number
is_the_one : (keys : List (List ℕ)) (times : List ChangeTimes) (i : ℕ) (own : ChangedSeries) (key : List ℕ)
    → slice_get keys i ≡ Some key → IsSeriesAt keys times i own
    → record { number = i; key = key; times = times_at times i } ≡ own
is_the_one keys times i own key at is =
    let same : key ≡ own.key = ap (λ o. unwrap_or o key) (sym at ∙ is.key) in
    λ j. record { number = sym is.number j; key = same j; times = is.here j }

-- one number more
pub one_so_far : (keys : List (List ℕ)) (times : List ChangeTimes) (numbers : List ℕ) (i : ℕ)
    (series : List ChangedSeries) → is_changed (times_at times i) ≡ true → AreSoFar keys times numbers series
    → AreSoFar keys times (numbers ++ i ∷ []) (series ++ numbered_series keys i (times_at times i))
one_so_far keys times numbers i series moves so = by (slice_get keys i) refl
  where
    by : (o : Option (List ℕ)) → slice_get keys i ≡ o
        → AreSoFar keys times (numbers ++ i ∷ []) (series ++ series_of i (times_at times i) o)
    by None at = record {
      part = subst (All (λ own. (i : ℕ) × IsSeriesAt keys times i own)) (sym (append-nil series)) so.part;
      whole = λ k own among is. subst (λ l. Contains l own) (sym (append-nil series)) (⊎_elim
          (λ was. so.whole k own was is)
          (λ same. absurd (true≢false (sym (ap is_some (sym at ∙ ap (slice_get keys) same ∙ is.key)))))
          (listed_cases numbers i k among));
    }
    by (Some key) at =
        let new : ChangedSeries = record { number = i; key = key; times = times_at times i } in
        record {
          part = All-push (λ own. (i : ℕ) × IsSeriesAt keys times i own) series new so.part
              (i, record { number = refl; key = at; here = refl; moved = moves });
          whole = λ k own among is. ⊎_elim
              (λ was. Contains-append_left series (new ∷ []) own (so.whole k own was is))
              (λ same. subst (Contains (series ++ new ∷ []))
              (is_the_one keys times i own key at (subst (λ j. IsSeriesAt keys times j own) (sym same) is))
              (Contains-push series new))
              (listed_cases numbers i k among);
        }

-- all that have changed
pub all_so_far : (keys : List (List ℕ)) (times : List ChangeTimes) (changed : List ℕ) (series : List ChangedSeries)
    → AreListed times changed → AreSoFar keys times changed series → AreChangedSeries keys times series
all_so_far keys times changed series are so = record {
  part = so.part;
  whole = λ i own is. so.whole i own (listed i (is_listed changed i) refl own is) is;
}
  where
    listed : (i : ℕ) (b : Bool) → is_listed changed i ≡ b → (own : ChangedSeries) → IsSeriesAt keys times i own
        → is_listed changed i ≡ true
    listed i true t own is = t
    listed i false t own is = absurd (true≢false (sym is.moved ∙ ap is_changed (sym is.here ∙ are.others i t)))
