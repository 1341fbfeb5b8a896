-- ChangeTimes with a time more, and which series changed.
use Rattle.std.proofs.Common.{◌≡◌, ◌≢◌, ℕ, zero, suc, ◌+◌, ◌<◌, ℤ, Bool, true, false, not, ◌&&◌, ◌||◌, List, [], ◌∷◌, ◌++◌, fold, length, drop, set, slice_get, get_or, refl, sym, ap, ◌∙◌, subst, arith, true≢false, Some, is_some, ⊎_elim, ◌⊎◌, inl, inr, add-one}
use Rattle.std.specs.Prelude.{int_le, int_lt, nat_eq, ◌==◌, Contains, if◌then◌else◌}
use Rattle.std.specs.Cmp.Lexicographic.{pointwise, bytes_decides}
use Rattle.std.specs.Int.{int_min, int_max}
use Rattle.std.specs.List.{list_any}
use Rattle.std.proofs.lemmas.Bool.{and_from, eqb-true, eq-eqb, or_left, or_right, false_from_ne_true}
use Rattle.std.proofs.lemmas.Int.{ints}
use Rattle.std.proofs.Math.ListN.{length-set}
use Rattle.std.proofs.Math.Seq.{drop-cons}
use Rattle.std.proofs.lemmas.List.Elements.{Contains-append_cases, Contains-push_cases}
use mathlib.Core.List.{IsPrefix}
use Rattle.rr_join.proofs.Booleans.{either_case}
use Rattle.rr_cells.specs.declared.op.Op.{Op}
use Rattle.rr_cells.specs.Operations.{op_key, step}
use Rattle.rr_cells.specs.ReplicaState.{ReplicaState}
use Rattle.rr_changes.specs.declared.changed_series.ChangedSeries.{ChangedSeries}
use Rattle.rr_changes.specs.declared.time_range.TimeRange.{TimeRange}
use Rattle.rr_changes.specs.declared.time_range.ChangeTimes.{ChangeTimes}
use Rattle.rr_changes.specs.declared.time_range.TheConstants.{UNCHANGED}
use Rattle.rr_changes.specs.Updates.{op_time}
use Rattle.rr_changes.specs.ChangeTimes.{is_changed, is_empty, is_in_range, is_in_times, is_nearer_recent, widened, with_time}
use Rattle.rr_changes.specs.Tracking.{AreListed, AreTracked, ChangedState, IsTracked, is_listed, times_at, times_of}
use Rattle.rr_changes.specs.Changes.{AreCovered, is_covered, is_op_in}
use Rattle.rr_changes.specs.ChangeLaws.{TrackedOperationsAreCovered, TrackedTimesAreIn, OneMoreIsTracked, TimesStayIn, UnchangingNeedsNoTracking}

-- ---- a time more

widened_has : (p : TimeRange) (time : ℤ) → is_in_range (widened p time) time ≡ true
widened_has p time = here p.first p.last time
  where
    here : (a b t : ℤ) → (int_le (int_min a t) t && int_le t (int_max b t)) ≡ true
    here a b t = grind (arith, ints)

widened_still : (p : TimeRange) (time other : ℤ) → is_in_range p other ≡ true → is_in_range (widened p time) other ≡ true
widened_still p time other e = wider p.first p.last time other e
  where
    wider : (a b t u : ℤ) → (int_le a u && int_le u b) ≡ true
        → (int_le (int_min a t) u && int_le u (int_max b t)) ≡ true
    wider a b t u e = grind (arith, ints)

pub tracked_times_are_in : TrackedTimesAreIn
tracked_times_are_in near ps time = elim (is_nearer_recent near ps time) as (λ b. is_in_times
    (if b then record { recent = widened ps.recent time; late = ps.late }
    else record { recent = ps.recent; late = widened ps.late time }) time ≡ true) [
      | true ↦ or_left (is_in_range (widened ps.recent time) time) (is_in_range ps.late time) (widened_has ps.recent time)
      | false ↦ or_right (is_in_range ps.recent time) (is_in_range (widened ps.late time) time) (widened_has ps.late time)
    ]

pub times_stay_in : TimesStayIn
times_stay_in near ps time other e = elim (is_nearer_recent near ps time) as (λ b. is_in_times
    (if b then record { recent = widened ps.recent time; late = ps.late }
    else record { recent = ps.recent; late = widened ps.late time }) other ≡ true) [
      | true ↦ either_case (is_in_range ps.recent other) (is_in_range ps.late other) e
          (λ h. or_left (is_in_range (widened ps.recent time) other) (is_in_range ps.late other)
          (widened_still ps.recent time other h))
          (λ h. or_right (is_in_range (widened ps.recent time) other) (is_in_range ps.late other) h)
      | false ↦ either_case (is_in_range ps.recent other) (is_in_range ps.late other) e
          (λ h. or_left (is_in_range ps.recent other) (is_in_range (widened ps.late time) other) h)
          (λ h. or_right (is_in_range ps.recent other) (is_in_range (widened ps.late time) other)
          (widened_still ps.late time other h))
    ]

-- a range that has a time isn't empty
has_time : (p : TimeRange) (time : ℤ) → is_in_range p time ≡ true → not (is_empty p) ≡ true
has_time p time e = some p.first p.last time e
  where
    some : (a b t : ℤ) → (int_le a t && int_le t b) ≡ true → not (int_lt b a) ≡ true
    some a b t e = grind (arith, ints)

pub changed_there : (ps : ChangeTimes) (time : ℤ) → is_in_times ps time ≡ true → is_changed ps ≡ true
changed_there ps time e = either_case (is_in_range ps.recent time) (is_in_range ps.late time) e
    (λ h. or_left (not (is_empty ps.recent)) (not (is_empty ps.late)) (has_time ps.recent time h))
    (λ h. or_right (not (is_empty ps.recent)) (not (is_empty ps.late)) (has_time ps.late time h))

pub with_time_changed : (near : ℕ) (ps : ChangeTimes) (time : ℤ) → is_changed (with_time near ps time) ≡ true
with_time_changed near ps time = changed_there (with_time near ps time) time (tracked_times_are_in near ps time)

-- ---- ranges by number

pub times_there : (times : List ChangeTimes) (i : ℕ) (d : ChangeTimes) → i < length times → get_or times i d ≡ times_at times i
times_there [] i d lt = absurd (omega arith)
times_there (q ∷ times) zero d lt = refl
times_there (q ∷ times) (suc i) d lt = times_there times i d (omega arith)

pub times_set_here : (times : List ChangeTimes) (i : ℕ) (p : ChangeTimes) → i < length times → times_at (set times i p) i ≡ p
times_set_here [] i p lt = absurd (omega arith)
times_set_here (q ∷ times) zero p lt = refl
times_set_here (q ∷ times) (suc i) p lt = times_set_here times i p (omega arith)

pub times_set_other : (times : List ChangeTimes) (i j : ℕ) (p : ChangeTimes) → j ≢ i → times_at (set times i p) j ≡ times_at times j
times_set_other [] i j p ne = refl
times_set_other (q ∷ times) zero zero p ne = absurd (ne refl)
times_set_other (q ∷ times) zero (suc j) p ne = refl
times_set_other (q ∷ times) (suc i) zero p ne = refl
times_set_other (q ∷ times) (suc i) (suc j) p ne = times_set_other times i j p (λ e. ne (ap suc e))

-- ---- the list of changed series

pub listed_cases : (changed : List ℕ) (i j : ℕ) → is_listed (changed ++ i ∷ []) j ≡ true
    → (is_listed changed j ≡ true) ⊎ (i ≡ j)
listed_cases [] i j e = inr (either_case (i == j) false e (λ h. eqb-true i j h) (λ h. absurd (true≢false (sym h))))
listed_cases (k ∷ changed) i j e = either_case (k == j) (is_listed (changed ++ i ∷ []) j) e
    (λ h. inl (or_left (k == j) (is_listed changed j) h))
    (λ h. ⊎_elim (λ was. inl (or_right (k == j) (is_listed changed j) was)) (λ last. inr last)
    (listed_cases changed i j h))

listed_still : (changed : List ℕ) (i j : ℕ) → is_listed changed j ≡ true → is_listed (changed ++ i ∷ []) j ≡ true
listed_still [] i j e = absurd (true≢false (sym e))
listed_still (k ∷ changed) i j e = either_case (k == j) (is_listed changed j) e
    (λ h. or_left (k == j) (is_listed (changed ++ i ∷ []) j) h)
    (λ h. or_right (k == j) (is_listed (changed ++ i ∷ []) j) (listed_still changed i j h))

listed_last : (changed : List ℕ) (i : ℕ) → is_listed (changed ++ i ∷ []) i ≡ true
listed_last [] i = or_left (i == i) false (eq-eqb i i refl)
listed_last (k ∷ changed) i = or_right (k == i) (is_listed (changed ++ i ∷ []) i) (listed_last changed i)

pub listed_here : (changed : List ℕ) (k d : ℕ) → k < length changed → is_listed changed (get_or changed k d) ≡ true
listed_here [] k d lt = absurd (omega arith)
listed_here (j ∷ changed) zero d lt = or_left (j == j) (is_listed changed j) (eq-eqb j j refl)
listed_here (j ∷ changed) (suc k) d lt =
    or_right (j == get_or changed k d) (is_listed changed (get_or changed k d)) (listed_here changed k d (omega arith))

-- where none is listed, none has changed, and the other way round
pub none_listed : (times : List ChangeTimes) (changed : List ℕ) → AreListed times changed
    → (changed ≡ [] → (i : ℕ) → times_at times i ≡ UNCHANGED) × (((i : ℕ) → times_at times i ≡ UNCHANGED)
    → changed ≡ [])
none_listed times [] are = ((λ none i. are.others i refl), (λ all. refl))
none_listed times (j ∷ changed) are = (
  (λ none. absurd cc),
  (λ all. absurd (true≢false (sym (are.moved j (listed_here (j ∷ changed) zero 0 (omega arith)))
      ∙ ap is_changed (all j)))),
)

-- a change of a series, which is then listed
pub listed_too : (times : List ChangeTimes) (changed : List ℕ) (i : ℕ) (p : ChangeTimes) → AreListed times changed
    → i < length times
    → is_changed p ≡ true
    → AreListed (set times i p) (if is_changed (times_at times i) then changed else changed ++ i ∷ [])
listed_too times changed i p are lt moves = by_case (is_changed (times_at times i)) refl
  where
    long : length (set times i p) ≡ length times
    long = length-set times i p

    moved_too : (j : ℕ) → (is_listed changed j ≡ true) ⊎ (i ≡ j) → is_changed (times_at (set times i p) j) ≡ true
    moved_too j either = elim (j == i) as (λ b. (j == i) ≡ b → is_changed (times_at (set times i p) j) ≡ true) [
      | true ↦ λ t. subst (λ k. is_changed (times_at (set times i p) k) ≡ true) (sym (eqb-true j i t))
          (ap is_changed (times_set_here times i p lt) ∙ moves)
      | false ↦ λ t.
          let other : j ≢ i = λ same. true≢false (sym (eq-eqb j i same) ∙ t) in
          ap is_changed (times_set_other times i j p other)
          ∙ ⊎_elim (λ was. are.moved j was) (λ same. absurd (other (sym same))) either
    ] refl

    by_case : (b : Bool) → is_changed (times_at times i) ≡ b
        → AreListed (set times i p) (if b then changed else changed ++ i ∷ [])
    by_case true t = record {
      others = λ j none.
          let here : is_listed changed i ≡ true = is_there (is_listed changed i) refl in
          let other : j ≢ i = λ same. true≢false (sym here ∙ subst (λ k. is_listed changed k ≡ false) same none) in
          times_set_other times i j p other ∙ are.others j none;
      within = λ j there. let few = are.within j there in omega (arith, long);
      moved = λ j there. moved_too j (inl there);
    }
      where
        is_there : (c : Bool) → is_listed changed i ≡ c → c ≡ true
        is_there true e = refl
        is_there false e = absurd (true≢false (sym t ∙ ap is_changed (are.others i e)))
    by_case false t = record {
      others = λ j none.
          let other : j ≢ i = λ same. true≢false (sym (listed_last changed i)
          ∙ subst (λ k. is_listed (changed ++ i ∷ []) k ≡ false) same none) in
          times_set_other times i j p other ∙ are.others j (false_from_ne_true (is_listed changed j)
          (λ there. true≢false (sym (listed_still changed i j there) ∙ none)));
      within = λ j there. ⊎_elim (λ was. let few = are.within j was in omega (arith, long))
          (λ same. omega (arith, long)) (listed_cases changed i j there);
      moved = λ j there. moved_too j (listed_cases changed i j there);
    }

-- the series from a place of the list on are the one there, and the others
pub left_at : (changed : List ℕ) (k d i : ℕ) → k < length changed
    → is_listed (drop k changed) i ≡ ((get_or changed k d == i) || is_listed (drop (k + 1) changed) i)
left_at changed k d i lt = ap (λ l. is_listed l i) (drop-cons changed k d lt) ∙ ap (λ n. (get_or changed k d == i)
    || is_listed (drop n changed) i) (sym (add-one k))

-- a series of the list that is forgotten
pub forgotten : (times : List ChangeTimes) (changed : List ℕ) (k d : ℕ) → k < length changed
    → get_or changed k d < length times
    → ((i : ℕ) → is_listed (drop k changed) i ≡ false → times_at times i ≡ UNCHANGED)
    → (i : ℕ) → is_listed (drop (k + 1) changed) i ≡ false
    → times_at (set times (get_or changed k d) UNCHANGED) i ≡ UNCHANGED
forgotten times changed k d lt within left i none =
    let x = get_or changed k d in
    elim (i == x) as (λ b. (i == x) ≡ b → times_at (set times x UNCHANGED) i ≡ UNCHANGED) [
      | true ↦ λ t. subst (λ j. times_at (set times x UNCHANGED) j ≡ UNCHANGED) (sym (eqb-true i x t))
          (times_set_here times x UNCHANGED within)
      | false ↦ λ t.
          let other : i ≢ x = λ same. true≢false (sym (eq-eqb i x same) ∙ t) in
          times_set_other times x i UNCHANGED other
          ∙ left i (left_at changed k d i lt ∙ neither (x == i) (is_listed (drop (k + 1) changed) i)
          (false_from_ne_true (x == i) (λ same. other (sym (eqb-true x i same)))) none)
    ] refl
  where
    neither : (a b : Bool) → a ≡ false → b ≡ false → (a || b) ≡ false
    neither true b h k = h
    neither false b h k = k

pub all_within : (times : List ChangeTimes) (changed : List ℕ) (k d : ℕ) → AreListed times changed → k < length changed
    → get_or changed k d < length times
all_within times changed k d are lt = are.within (get_or changed k d) (listed_here changed k d lt)

-- ---- operations that are tracked

module _ {A : Type 0} where
  prefix_has : (xs ys : List A) (i : ℕ) (x : A) → IsPrefix xs ys → slice_get xs i ≡ Some x → slice_get ys i ≡ Some x
  prefix_has [] ys i x p at = absurd (true≢false (sym (ap is_some at)))
  prefix_has (z ∷ xs) [] i x p at = absurd (cc (p.1))
  prefix_has (z ∷ xs) (y ∷ ys) zero x p at =
      let same : z ≡ y = cc (p.1) in
      ap (λ (w : A). Some w) (sym same) ∙ at
  prefix_has (z ∷ xs) (y ∷ ys) (suc i) x p at = prefix_has xs ys i x (p.0, cc (p.1)) at

-- with keys that grow they are tracked still
pub still_tracked : (keys more : List (List ℕ)) (c d : ChangedState) → IsPrefix keys more
    → ((j : ℕ) → times_of d j ≡ times_of c j) → (ops : List Op) (h : ReplicaState)
    → AreTracked keys c h ops → AreTracked more d h ops
still_tracked keys more c d grow same [] h all = tt
still_tracked keys more c d grow same (o ∷ ops) h all = (
  ⊎_elim (λ is. inl (record {
    number = is.number;
    key = prefix_has keys more is.number (op_key o) grow is.key;
    time = ap (λ (ps : ChangeTimes). is_in_times ps (op_time o)) (same is.number) ∙ is.time;
  })) (λ none. inr none) all.0,
  still_tracked keys more c d grow same ops (step h o) all.1,
)

-- with keys that grow and ranges that widen they are tracked still, and one more is or changes nothing
more_tracked : (keys more : List (List ℕ)) (c d : ChangedState) (op : Op) → IsPrefix keys more
    → ((j : ℕ) (time : ℤ) → is_in_times (times_of c j) time ≡ true → is_in_times (times_of d j) time ≡ true)
    → (ops : List Op) (h : ReplicaState)
    → IsTracked more d op ⊎ ((step (fold step h ops) op).cells ≡ (fold step h ops).cells)
    → AreTracked keys c h ops → AreTracked more d h (ops ++ op ∷ [])
more_tracked keys more c d op grow wider [] h last all = (last, tt)
more_tracked keys more c d op grow wider (o ∷ ops) h last all = (
  ⊎_elim (λ is. inl (still is)) (λ same. inr same) all.0,
  more_tracked keys more c d op grow wider ops (step h o) last all.1,
)
  where
    still : IsTracked keys c o → IsTracked more d o
    still is = record {
      number = is.number;
      key = prefix_has keys more is.number (op_key o) grow is.key;
      time = wider is.number (op_time o) is.time;
    }

pub one_more_is_tracked : OneMoreIsTracked
one_more_is_tracked keys more c d h ops op i grow at here others all =
    more_tracked keys more c d op grow wider ops h (inl new) all
  where
    wider : (j : ℕ) (time : ℤ) → is_in_times (times_of c j) time ≡ true → is_in_times (times_of d j) time ≡ true
    wider j time e = elim (j == i) as (λ b. (j == i) ≡ b → is_in_times (times_of d j) time ≡ true) [
      | true ↦ λ t.
          let same : j ≡ i = eqb-true j i t in
          subst (λ k. is_in_times (times_of d k) time ≡ true) (sym same)
          (ap (λ (ps : ChangeTimes). is_in_times ps time) here
          ∙ times_stay_in c.near (times_of c i) (op_time op) time
          (subst (λ k. is_in_times (times_of c k) time ≡ true) same e))
      | false ↦ λ t. ap (λ (ps : ChangeTimes). is_in_times ps time)
          (others j (λ same. true≢false (sym (eq-eqb j i same) ∙ t))) ∙ e
    ] refl

    new : IsTracked more d op
    new = record {
      number = i;
      key = at;
      time = ap (λ (ps : ChangeTimes). is_in_times ps (op_time op)) here
          ∙ tracked_times_are_in c.near (times_of c i) (op_time op);
    }

pub unchanging_needs_no_tracking : UnchangingNeedsNoTracking
unchanging_needs_no_tracking keys more c d h ops op grow same none all =
    more_tracked keys more c d op grow (λ j time e. ap (λ (ps : ChangeTimes). is_in_times ps time) (same j) ∙ e) ops h
    (inr none) all

-- ---- operations that are covered

found : (test : ChangedSeries → Bool) (series : List ChangedSeries) (own : ChangedSeries) → Contains series own
    → test own ≡ true → list_any test series ≡ true
found test [] own among e = absurd (let within = among.1 in omega arith)
found test (x ∷ series) own among e = ⊎_elim
    (λ first. or_left (test x) (list_any test series)
    (⊎_elim (λ none. absurd (let within = none.1 in omega arith))
    (λ same. subst (λ (y : ChangedSeries). test y ≡ true) (sym same) e) (Contains-push_cases [] x own first)))
    (λ later. or_right (test x) (list_any test series) (found test series own later e))
    (Contains-append_cases (x ∷ []) series own among)

pub tracked_operations_are_covered : TrackedOperationsAreCovered
tracked_operations_are_covered keys c series h ops are all = go ops h all
  where
    one : (op : Op) → IsTracked keys c op → is_covered series op ≡ true
    one op is =
        let own : ChangedSeries = record { number = is.number; key = op_key op; times = times_of c is.number } in
        found (λ x. is_op_in x op) series own
        (are.whole is.number own (record {
          number = refl;
          key = is.key;
          here = refl;
          moved = changed_there (times_of c is.number) (op_time op) is.time;
        }))
        (and_from (pointwise nat_eq (op_key op) (op_key op)) (is_in_times (times_of c is.number) (op_time op))
        ((bytes_decides (op_key op) (op_key op)).1 refl) is.time)

    go : (os : List Op) (h : ReplicaState) → AreTracked keys c h os → AreCovered series h os
    go [] h all = tt
    go (op ∷ os) h all = (⊎_elim (λ is. inl (one op is)) (λ same. inr same) all.0, go os (step h op) all.1)
