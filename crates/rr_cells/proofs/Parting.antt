-- The entries of a part are those from an offset on.
use Rattle.std.proofs.Common.{◌≡◌, ℕ, zero, suc, Bool, true, false, cond, ◌||◌, List, [], ◌∷◌, map, take, drop, refl, sym, ap, ◌∙◌, true≢false, Ordering}
use Rattle.std.specs.List.{filter, list_any}
use Rattle.std.specs.Ordering.{eq_by_cmp}
use Rattle.std.specs.Cmp.{IsTotalOrder, eq_by_cmp_equiv}
use Rattle.std.specs.FinMap.{IsAntisymmetric, entries}
use Rattle.rr_join.proofs.Distinct.{IsDistinct, keys_distinct}
use Rattle.rr_join.proofs.Distinct.IsDistinct.{more}
use Rattle.rr_join.proofs.Keys.{entries-retain}
use Rattle.rr_join.proofs.Members.{is_in, tie_itself}
use Rattle.rr_cells.specs.CellNames.{cell_name_cmp}
use Rattle.rr_cells.specs.Knowledge.{names}
use Rattle.rr_cells.proofs.Orders.{cell_name_cmp_total, cell_name_cmp-IsAntisymmetric}
use Rattle.rr_cells.specs.State.{cells_of_knowledge}
use Rattle.rr_cells.specs.Laws.{PartsAreCutFromEntries}
use Rattle.rr_cells.proofs.Differing.{state_keys}
use Rattle.rr_cells.proofs.WholeCells.{state_where}

neither_left : (a b : Bool) → (a || b) ≡ false → a ≡ false
neither_left true b e = e
neither_left false b e = refl

neither_right : (a b : Bool) → (a || b) ≡ false → b ≡ false
neither_right true b e = absurd (true≢false e)
neither_right false b e = e

both_false : (a b : Bool) → a ≡ false → b ≡ false → (a || b) ≡ false
both_false true b p q = p
both_false false b p q = q

module _ {K : Type 0} (R : K → K → Ordering) where
  not_in_take : (n : ℕ) (k : K) (ks : List K) → is_in R ks k ≡ false → is_in R (take n ks) k ≡ false
  not_in_take zero k [] h = refl
  not_in_take zero k (x ∷ ks) h = refl
  not_in_take (suc n) k [] h = refl
  not_in_take (suc n) k (x ∷ ks) h = both_false (eq_by_cmp R k x) (is_in R (take n ks) k)
      (neither_left (eq_by_cmp R k x) (is_in R ks k) h)
      (not_in_take n k ks (neither_right (eq_by_cmp R k x) (is_in R ks k) h))

  not_in_drop : (n : ℕ) (k : K) (ks : List K) → is_in R ks k ≡ false → is_in R (drop n ks) k ≡ false
  not_in_drop zero k [] h = h
  not_in_drop zero k (x ∷ ks) h = h
  not_in_drop (suc n) k [] h = refl
  not_in_drop (suc n) k (x ∷ ks) h = not_in_drop n k ks (neither_right (eq_by_cmp R k x) (is_in R ks k) h)

module _ {K X : Type 0} (R : K → K → Ordering) (o : IsTotalOrder R) (same : IsAntisymmetric R) where
  abbrev firsts : List (K × X) → List K
  firsts es = map (λ e. e.0) es

  filter_none : (es : List (K × X)) → filter (λ _. false) es ≡ []
  filter_none [] = refl
  filter_none (e ∷ es) = filter_none es

  -- a key that is not there may be tested for too
  without_head : (k : K) (p : K → Bool) (es : List (K × X)) → is_in R (firsts es) k ≡ false
      → ((x y : K) → eq_by_cmp R x y ≡ eq_by_cmp R y x)
      → filter (λ e. eq_by_cmp R e.0 k || p e.0) es ≡ filter (λ e. p e.0) es
  without_head k p [] h swap = refl
  without_head k p (e ∷ es) h swap =
      let rest = without_head k p es (neither_right (eq_by_cmp R k e.0) (is_in R (firsts es) k) h) swap in
      let apart = swap e.0 k ∙ neither_left (eq_by_cmp R k e.0) (is_in R (firsts es) k) h in
      λ i. cond (apart i || p e.0) (e ∷ rest i) (rest i)

  first_ones : (n : ℕ) (es : List (K × X)) → IsDistinct R (firsts es) → ((x y : K) → eq_by_cmp R x y ≡ eq_by_cmp R y x)
      → filter (λ e. is_in R (take n (firsts es)) e.0) es ≡ take n es
  first_ones zero [] d swap = refl
  first_ones zero (e ∷ es) d swap = filter_none es
  first_ones (suc n) [] d swap = refl
  first_ones (suc n) (e ∷ es) (more apart d) swap =
      ap (λ b. cond b (e ∷ filter (λ f. eq_by_cmp R f.0 e.0 || is_in R (take n (firsts es)) f.0) es)
      (filter (λ f. eq_by_cmp R f.0 e.0 || is_in R (take n (firsts es)) f.0) es))
      (ap (λ b. b || is_in R (take n (firsts es)) e.0) (tie_itself o same e.0))
      ∙ ap (λ fs. e ∷ fs) (without_head e.0 (is_in R (take n (firsts es))) es apart swap ∙ first_ones n es d swap)

  from_place : (from n : ℕ) (es : List (K × X)) → IsDistinct R (firsts es)
      → ((x y : K) → eq_by_cmp R x y ≡ eq_by_cmp R y x)
      → filter (λ e. is_in R (take n (drop from (firsts es))) e.0) es ≡ take n (drop from es)
  from_place zero n [] d swap = first_ones n [] d swap
  from_place zero n (e ∷ es) d swap = first_ones n (e ∷ es) d swap
  from_place (suc from) zero [] d swap = refl
  from_place (suc from) (suc n) [] d swap = refl
  from_place (suc from) n (e ∷ es) (more apart d) swap =
      ap (λ b. cond b (e ∷ filter (λ f. is_in R (take n (drop from (firsts es))) f.0) es)
      (filter (λ f. is_in R (take n (drop from (firsts es))) f.0) es))
      (not_in_take R n e.0 (drop from (firsts es)) (not_in_drop R from e.0 (firsts es) apart))
      ∙ from_place from n es d swap

pub parts_are_cut : PartsAreCutFromEntries
parts_are_cut s k from count is =
    ap entries (state_where s is k (λ n. list_any (eq_by_cmp cell_name_cmp n) (take count (drop from (names s k)))))
    ∙ entries-retain cell_name_cmp_total cell_name_cmp-IsAntisymmetric (cells_of_knowledge s k)
    (λ n. list_any (eq_by_cmp cell_name_cmp n) (take count (drop from (names s k))))
    ∙ ap (λ ks. filter (λ e. list_any (eq_by_cmp cell_name_cmp e.0) (take count (drop from ks)))
    (entries (cells_of_knowledge s k))) (sym (state_keys s k))
    ∙ from_place cell_name_cmp cell_name_cmp_total cell_name_cmp-IsAntisymmetric from count
    (entries (cells_of_knowledge s k)) (keys_distinct (cells_of_knowledge s k))
    (eq_by_cmp_equiv cell_name_cmp_total).symm
