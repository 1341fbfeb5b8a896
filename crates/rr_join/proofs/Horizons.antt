-- Which names are live beside others, and that trimming leaves this as it was.
use Rattle.std.proofs.Common.{◌≡◌, Bool, true, false, cond, not, ◌&&◌, List, [], ◌∷◌, ◌++◌, refl, sym, ap, ◌∙◌, subst, Ordering, true≢false, Option, None, is_some, ◌⊎◌, inl, inr, ⊎_elim}
use Rattle.std.specs.List.{list_all}
use Rattle.std.specs.Ordering.{eq_by_cmp}
use Rattle.std.specs.Cmp.{IsTotalOrder}
use Rattle.std.specs.FinMap.{FinMap, IsAntisymmetric, get, keys}
use Rattle.std.proofs.lemmas.Bool.{and_from, or_right, not-true, false_from_ne_true}
use Rattle.std.proofs.lemmas.List.Folds.{list_all-append}
use Rattle.rr_join.specs.Maps.{trimmed, IsHorizon}
use Rattle.rr_join.proofs.Booleans.{same_test}
use Rattle.rr_join.proofs.Members.{is_in, head_in, all_at, all_from, all_by_members}
use Rattle.rr_join.proofs.Lookups.{is_in-keys, get-trimmed}

-- a name of ns, or n itself, that none of ns puts past the horizon, and that is n or puts n past it
record Top {N : Type 0} (R : N → N → Ordering) (is_past : N → N → Bool) (ns : List N) (n : N) : Type 0 where
  top : N
  known : (top ≡ n) ⊎ (is_in R ns top ≡ true)
  ahead : (top ≡ n) ⊎ (is_past top n ≡ true)
  last : list_all (λ m. not (is_past m top)) ns ≡ true

module _ {N : Type 0} {R : N → N → Ordering} (o : IsTotalOrder R) (same : IsAntisymmetric R)
    {is_live : List N → N → Bool} {is_past : N → N → Bool} (h : IsHorizon is_live is_past) where
  pub live_by_members : (ns ms : List N) (n : N) → ((x : N) → is_in R ns x ≡ is_in R ms x) → is_live ns n ≡ is_live ms n
  live_by_members ns ms n is = h.says ns n ∙ all_by_members o same (λ m. not (is_past m n)) ns ms is ∙ sym (h.says ms n)

  -- beside fewer names no fewer are live
  pub live_fewer : (ns ms : List N) (n : N) → ((x : N) → is_in R ms x ≡ true → is_in R ns x ≡ true)
      → is_live ns n ≡ true → is_live ms n ≡ true
  live_fewer ns ms n sub e = h.says ms n ∙ all_from o same (λ m. not (is_past m n)) ms
      (λ x is. all_at o same (λ m. not (is_past m n)) ns x (sym (h.says ns n) ∙ e) (sub x is))

  pub live-append : (ns ms : List N) (n : N) → is_live (ns ++ ms) n ≡ (is_live ns n && is_live ms n)
  live-append ns ms n = h.says (ns ++ ms) n ∙ list_all-append (λ m. not (is_past m n)) ns ms
      ∙ (λ i. sym (h.says ns n) i && sym (h.says ms n) i)

  top_of : (ns : List N) (n : N) → Top R is_past ns n
  top_of [] n = record { top = n; known = inl refl; ahead = inl refl; last = refl }
  top_of (x ∷ xs) n =
      let t = top_of xs n in
      elim (is_past x t.top) as (λ b. is_past x t.top ≡ b → Top R is_past (x ∷ xs) n) [
        | true ↦ λ e. record {
          top = x;
          known = inr (head_in o same x xs);
          ahead = inr (⊎_elim (λ q. subst (λ y. is_past x y ≡ true) q e) (λ q. h.further x t.top n e q) t.ahead);
          last = and_from (not (is_past x x)) (list_all (λ m. not (is_past m x)) xs) (ap not (h.itself x))
              (all_from o same (λ m. not (is_past m x)) xs
              (λ m is. ap not (not_past_too m x t.top e
              (all_at o same (λ y. not (is_past y t.top)) xs m t.last is))));
        }
        | false ↦ λ e. record {
          top = t.top;
          known = ⊎_elim (λ q. inl q) (λ q. inr (or_right (eq_by_cmp R t.top x) (is_in R xs t.top) q)) t.known;
          ahead = t.ahead;
          last = and_from (not (is_past x t.top)) (list_all (λ m. not (is_past m t.top)) xs) (ap not e) t.last;
        }
      ] refl
    where
      not_past_too : (m x k : N) → is_past x k ≡ true → not (is_past m k) ≡ true → is_past m x ≡ false
      not_past_too m x k e f = elim (is_past m x) as (λ b. is_past m x ≡ b → b ≡ false) [
        | true ↦ λ g. sym (h.further m x k g e) ∙ not-true (is_past m k) f
        | false ↦ λ g. refl
      ] refl

  -- a name is live where no live one puts it past the horizon
  pub live_by_live : (ns : List N) (n : N) → ((m : N) → is_in R ns m ≡ true → is_live ns m ≡ true → is_past m n ≡ false)
      → is_live ns n ≡ true
  live_by_live ns n f =
      let t = top_of ns n in
      let alive : is_live ns t.top ≡ true = h.says ns t.top ∙ t.last in
      ⊎_elim (λ e. subst (λ y. is_live ns y ≡ true) e alive)
      (λ past. ⊎_elim
      (λ e. absurd (true≢false (sym past ∙ ap (λ y. is_past y n) e ∙ h.itself n)))
      (λ is. absurd (true≢false (sym past ∙ f t.top is alive)))
      t.known)
      t.ahead

  -- a name is not live beside one that puts it past the horizon
  pub not_live_past : (ns : List N) (m n : N) → is_in R ns m ≡ true → is_past m n ≡ true → is_live ns n ≡ false
  not_live_past ns m n is past =
      false_from_ne_true (is_live ns n) (λ e. true≢false
      (sym past ∙ not-true (is_past m n) (all_at o same (λ x. not (is_past x n)) ns m (sym (h.says ns n) ∙ e) is)))

  module _ {V : Type 0} where
    kept_is_some : (b : Bool) (v : Option V) → is_some (cond b v None) ≡ true → is_some v ≡ true
    kept_is_some true v e = e
    kept_is_some false v e = absurd (true≢false (sym e))

    is_in-keys_trimmed : (m : FinMap R V) (k : N) → is_in R (keys (trimmed is_live m)) k
        ≡ is_some (cond (is_live (keys m) k) (get m k) None)
    is_in-keys_trimmed m k = is_in-keys o same (trimmed is_live m) k ∙ ap is_some (get-trimmed o same is_live m k)

    stays : (m : FinMap R V) (k : N) → is_in R (keys m) k ≡ true → list_all (λ x. not (is_past x k)) (keys m) ≡ true
        → is_in R (keys (trimmed is_live m)) k ≡ true
    stays m k is all = is_in-keys_trimmed m k ∙ ap (λ b. is_some (cond b (get m k) None)) (h.says (keys m) k ∙ all)
        ∙ sym (is_in-keys o same m k) ∙ is

    past_in_trimmed : (m : FinMap R V) (k q : N) → is_in R (keys m) k ≡ true → is_past k q ≡ true
        → list_all (λ x. not (is_past x q)) (keys (trimmed is_live m)) ≡ true → true ≡ false
    past_in_trimmed m k q is past all =
        let t = top_of (keys m) k in
        let here = stays m t.top (⊎_elim (λ e. subst (λ y. is_in R (keys m) y ≡ true) (sym e) is) (λ e. e) t.known)
        t.last in
        let ahead : is_past t.top q ≡ true = ⊎_elim (λ e. subst (λ y. is_past y q ≡ true) (sym e) past)
        (λ e. h.further t.top k q e past) t.ahead in
        sym ahead ∙ not-true (is_past t.top q) (all_at o same (λ x. not (is_past x q)) (keys (trimmed is_live m)) t.top
        all here)

    -- beside a trimmed map's names the same names are live as beside all
    pub live-trimmed : (m : FinMap R V) (q : N) → is_live (keys (trimmed is_live m)) q ≡ is_live (keys m) q
    live-trimmed m q = same_test (is_live (keys (trimmed is_live m)) q) (is_live (keys m) q)
        (λ a. h.says (keys m) q ∙ all_from o same (λ x. not (is_past x q)) (keys m) (λ k is.
        elim (is_past k q) as (λ b. is_past k q ≡ b → not b ≡ true) [
          | true ↦ λ past. sym (past_in_trimmed m k q is past (sym (h.says (keys (trimmed is_live m)) q) ∙ a))
          | false ↦ λ past. refl
        ] refl))
        (λ a. h.says (keys (trimmed is_live m)) q ∙ all_from o same (λ x. not (is_past x q)) (keys (trimmed is_live m))
        (λ k is.
        all_at o same (λ x. not (is_past x q)) (keys m) k (sym (h.says (keys m) q) ∙ a)
        (is_in-keys o same m k ∙ kept_is_some (is_live (keys m) k) (get m k) (sym (is_in-keys_trimmed m k) ∙ is))))
