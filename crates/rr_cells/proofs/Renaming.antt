-- A map whose keys are renamed in their order.
use Rattle.std.proofs.Common.{◌≡◌, Bool, true, false, cond, ◌&&◌, ◌||◌, T, List, [], ◌∷◌, map, refl, sym, ap, ◌∙◌, subst, Ordering, None, Some, true≢false}
use Rattle.std.specs.List.{filter}
use Rattle.std.specs.Ordering.{eq_by_cmp, is_eq, is_lt}
use Rattle.std.specs.Cmp.{IsTotalOrder}
use Rattle.std.specs.FinMap.{FinMap, IsAntisymmetric, get, keys, entries, entries_sorted, retain_keys, from_entries, get-from_entries, from_sorted, entries-from_sorted, get-from_sorted, get-entries, find, is_sorted, same_map, same_entries_map}
use Rattle.std.specs.FinMap.Entries.{below_all}
use Rattle.std.proofs.lemmas.Bool.{or_right}
use Rattle.rr_join.proofs.Booleans.{either_case}
use Rattle.rr_join.proofs.Keys.{entries-retain}
use Rattle.rr_join.proofs.Members.{is_in, same_from_tie, tie_itself}
use Rattle.rr_cells.specs.Raising.{renamed}

module _ {K X : Type 0} {R : K → K → Ordering} (o : IsTotalOrder R) (same : IsAntisymmetric R) (f : K → K)
    (keeps : (a b : K) → R (f a) (f b) ≡ R a b) where
  abbrev pub moved : List (K × X) → List (K × X)
  moved es = map (λ e. (f e.0, e.1)) es

  below-moved : (x : K) (es : List (K × X)) → below_all R (f x) (moved es) ≡ below_all R x es
  below-moved x [] = refl
  below-moved x (e ∷ es) = λ i. is_lt (keeps x e.0 i) && below-moved x es i

  pub is_sorted-moved : (es : List (K × X)) → is_sorted R (moved es) ≡ is_sorted R es
  is_sorted-moved [] = refl
  is_sorted-moved (e ∷ es) = λ i. below-moved e.0 es i && is_sorted-moved es i

  moved_sorted : (m : FinMap R X) → T (is_sorted R (moved (entries m)))
  moved_sorted m = subst T (sym (is_sorted-moved (entries m))) (entries_sorted m)

  pub entries-renamed : (m : FinMap R X) → entries (renamed f m) ≡ moved (entries m)
  unfolding renamed
  entries-renamed m =
      ap entries (same_map o same (from_entries (moved (entries m))) (from_sorted (moved (entries m))) (λ q.
      get-from_entries o (moved (entries m)) q ∙ sym (get-from_sorted R (moved (entries m)) q (moved_sorted m))))
      ∙ entries-from_sorted R (moved (entries m)) (moved_sorted m)

  keys-moved : (es : List (K × X)) → map {B = K} (λ e. e.0) (moved es) ≡ map f (map (λ e. e.0) es)
  keys-moved [] = refl
  keys-moved (e ∷ es) = ap (λ ks. f e.0 ∷ ks) (keys-moved es)

  pub keys-renamed : (m : FinMap R X) → keys (renamed f m) ≡ map f (keys m)
  keys-renamed m = ap (map (λ e. e.0)) (entries-renamed m) ∙ keys-moved (entries m)

  find-moved : (q : K) (es : List (K × X)) → find R (f q) (moved es) ≡ find R q es
  find-moved q [] = refl
  find-moved q (e ∷ es) = λ i. cond (is_eq (keeps q e.0 i)) (Some e.1) (find-moved q es i)

  -- at a renamed key it has what was there
  pub get-renamed : (m : FinMap R X) (q : K) → get (renamed f m) (f q) ≡ get m q
  get-renamed m q = get-entries (renamed f m) (f q) ∙ ap (find R (f q)) (entries-renamed m) ∙ find-moved q (entries m)
      ∙ sym (get-entries m q)

  find-other : (q : K) (es : List (K × X)) → ((x : K) → eq_by_cmp R q (f x) ≡ false) → find R q (moved es) ≡ None
  find-other q [] none = refl
  find-other q (e ∷ es) none = λ i. cond (none e.0 i) (Some e.1) (find-other q es none i)

  -- at any other it has nothing
  pub get-other : (m : FinMap R X) (q : K) → ((x : K) → eq_by_cmp R q (f x) ≡ false) → get (renamed f m) q ≡ None
  get-other m q none = get-entries (renamed f m) q ∙ ap (find R q) (entries-renamed m) ∙ find-other q (entries m) none

  filter-moved : (test : K → Bool) (es : List (K × X))
      → filter (λ e. test e.0) (moved es) ≡ moved (filter (λ e. test (f e.0)) es)
  filter-moved test [] = refl
  filter-moved test (e ∷ es) = elim (test (f e.0)) as
      (λ b. cond b ((f e.0, e.1) ∷ filter (λ x. test x.0) (moved es)) (filter (λ x. test x.0) (moved es))
      ≡ moved (cond b (e ∷ filter (λ x. test (f x.0)) es) (filter (λ x. test (f x.0)) es))) [
        | true ↦ ap (λ l. (f e.0, e.1) ∷ l) (filter-moved test es)
        | false ↦ filter-moved test es
      ]

  -- the renamed keys that pass a test are those whose new names pass it
  pub retain-renamed : (m : FinMap R X) (test : K → Bool)
      → retain_keys (renamed f m) test ≡ renamed f (retain_keys m (λ x. test (f x)))
  retain-renamed m test =
      same_entries_map (retain_keys (renamed f m) test) (renamed f (retain_keys m (λ x. test (f x)))) (
      entries-retain o same (renamed f m) test
      ∙ ap (filter (λ e. test e.0)) (entries-renamed m)
      ∙ filter-moved test (entries m)
      ∙ ap moved (sym (entries-retain o same m (λ x. test (f x))))
      ∙ sym (entries-renamed (retain_keys m (λ x. test (f x))))
      )

-- a renamed key is one that was there, renamed
pub record Was {K : Type 0} (R : K → K → Ordering) (f : K → K) (ks : List K) (q : K) : Type 0 where
  pub before : K
  pub known : is_in R ks before ≡ true
  pub renamed_to : q ≡ f before

module _ {K : Type 0} {R : K → K → Ordering} (o : IsTotalOrder R) (same : IsAntisymmetric R) (f : K → K) where
  pub was : (ks : List K) (q : K) → is_in R (map f ks) q ≡ true → Was R f ks q
  was [] q e = absurd (true≢false (sym e))
  was (k ∷ ks) q e =
      either_case (eq_by_cmp R q (f k)) (is_in R (map f ks) q) e
      (λ h. record {
        before = k;
        known = ap (λ b. b || is_in R ks k) (tie_itself o same k);
        renamed_to =
            same_from_tie o same q (f k) h;
      })
      (λ h. let w = was ks q h in record {
        before = w.before;
        known =
            or_right (eq_by_cmp R w.before k) (is_in R ks w.before) w.known;
        renamed_to = w.renamed_to;
      })
