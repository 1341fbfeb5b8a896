-- Lists of names, by what they hold.
use Rattle.std.proofs.Common.{◌≡◌, Bool, true, ◌&&◌, ◌||◌, List, [], ◌∷◌, ◌++◌, refl, sym, ap, ◌∙◌, subst, Ordering, Less, Equal, Greater, true≢false}
use Rattle.std.specs.List.{filter, list_any, list_all}
use Rattle.std.specs.Ordering.{eq_by_cmp, is_eq}
use Rattle.std.specs.Cmp.{IsTotalOrder, tied_itself}
use Rattle.std.specs.FinMap.{IsAntisymmetric}
use Rattle.std.proofs.lemmas.Bool.{and_from, or_left, or_right}
use Rattle.std.proofs.lemmas.List.Folds.{list_any-append}
use Rattle.std.proofs.lemmas.Map.Views.{any-filter_same}
use Rattle.rr_join.proofs.Booleans.{same_test, and_first, and_second, either_case}

-- whether the name is one of the list
abbrev pub is_in : {N : Type 0} → (N → N → Ordering) → List N → N → Bool
is_in R ns q = list_any (eq_by_cmp R q) ns

pub Equal_from_is_eq : (r : Ordering) → is_eq r ≡ true → r ≡ Equal
Equal_from_is_eq Less e = absurd (true≢false (sym e))
Equal_from_is_eq Equal e = refl
Equal_from_is_eq Greater e = absurd (true≢false (sym e))

-- an element of a list that passes a test
pub record Found {N : Type 0} (R : N → N → Ordering) (test : N → Bool) (ns : List N) : Type 0 where
  pub item : N
  pub known : is_in R ns item ≡ true
  pub passes : test item ≡ true

module _ {N : Type 0} {R : N → N → Ordering} (o : IsTotalOrder R) (same : IsAntisymmetric R) where
  pub same_from_tie : (x y : N) → eq_by_cmp R x y ≡ true → x ≡ y
  same_from_tie x y e = same x y (Equal_from_is_eq (R x y) e)

  pub tie_itself : (x : N) → eq_by_cmp R x x ≡ true
  tie_itself x = ap is_eq (tied_itself o x)

  pub tie_from_same : (x y : N) → x ≡ y → eq_by_cmp R x y ≡ true
  tie_from_same x y e = subst (λ z. eq_by_cmp R x z ≡ true) e (tie_itself x)

  pub head_in : (x : N) (xs : List N) → is_in R (x ∷ xs) x ≡ true
  head_in x xs = or_left (eq_by_cmp R x x) (is_in R xs x) (tie_itself x)

  pub is_in-append : (ns ms : List N) (x : N) → is_in R (ns ++ ms) x ≡ (is_in R ns x || is_in R ms x)
  is_in-append ns ms x = list_any-append (eq_by_cmp R x) ns ms

  pub is_in-filter : (test : N → Bool) (ns : List N) (x : N) → is_in R (filter test ns) x ≡ (test x && is_in R ns x)
  is_in-filter test ns x = any-filter_same (eq_by_cmp R x) test (test x) (λ n e. ap test (sym (same_from_tie x n e))) ns

  -- ---- what all of a list pass

  pub all_at : (test : N → Bool) (ns : List N) (x : N) → list_all test ns ≡ true → is_in R ns x ≡ true → test x ≡ true
  all_at test [] x all is = absurd (true≢false (sym is))
  all_at test (n ∷ ns) x all is =
      either_case (eq_by_cmp R x n) (is_in R ns x) is
      (λ e. subst (λ y. test y ≡ true) (sym (same_from_tie x n e)) (and_first (test n) (list_all test ns) all))
      (λ e. all_at test ns x (and_second (test n) (list_all test ns) all) e)

  pub all_from : (test : N → Bool) (ns : List N) → ((x : N) → is_in R ns x ≡ true → test x ≡ true)
      → list_all test ns ≡ true
  all_from test [] f = refl
  all_from test (n ∷ ns) f =
      and_from (test n) (list_all test ns) (f n (head_in n ns))
      (all_from test ns (λ x e. f x (or_right (eq_by_cmp R x n) (is_in R ns x) e)))

  pub all_by_members : (test : N → Bool) (ns ms : List N) → ((x : N) → is_in R ns x ≡ is_in R ms x)
      → list_all test ns ≡ list_all test ms
  all_by_members test ns ms is =
      same_test (list_all test ns) (list_all test ms)
      (λ a. all_from test ms (λ x e. all_at test ns x a (is x ∙ e)))
      (λ a. all_from test ns (λ x e. all_at test ms x a (sym (is x) ∙ e)))

  -- ---- what one of a list passes

  pub found_of : (test : N → Bool) (ns : List N) → list_any test ns ≡ true → Found R test ns
  found_of test [] e = absurd (true≢false (sym e))
  found_of test (n ∷ ns) e =
      either_case (test n) (list_any test ns) e
      (λ h. record { item = n; known = head_in n ns; passes = h })
      (λ h. let f = found_of test ns h in record {
        item = f.item;
        known =
            or_right (eq_by_cmp R f.item n) (is_in R ns f.item) f.known;
        passes = f.passes;
      })

  pub any_from : (test : N → Bool) (ns : List N) (x : N) → is_in R ns x ≡ true → test x ≡ true → list_any test ns ≡ true
  any_from test [] x is h = absurd (true≢false (sym is))
  any_from test (n ∷ ns) x is h =
      either_case (eq_by_cmp R x n) (is_in R ns x) is
      (λ e. or_left (test n) (list_any test ns) (subst (λ y. test y ≡ true) (same_from_tie x n e) h))
      (λ e. or_right (test n) (list_any test ns) (any_from test ns x e h))

  pub any_by_members : (test : N → Bool) (ns ms : List N) → ((x : N) → is_in R ns x ≡ is_in R ms x)
      → list_any test ns ≡ list_any test ms
  any_by_members test ns ms is =
      same_test (list_any test ns) (list_any test ms)
      (λ a. let f = found_of test ns a in any_from test ms f.item (sym (is f.item) ∙ f.known) f.passes)
      (λ a. let f = found_of test ms a in any_from test ns f.item (is f.item ∙ f.known) f.passes)
