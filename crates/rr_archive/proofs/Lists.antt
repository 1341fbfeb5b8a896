-- What a list reads after an element is set.
use Rattle.std.proofs.Common.{◌≡◌, ℕ, zero, suc, ◌<◌, true, false, cond, List, [], ◌∷◌, length, set, refl, sym, ap, ◌∙◌, Some, arith, eqb}
use Rattle.std.specs.Prelude.{slice_get}
use Rattle.std.proofs.lemmas.Bool.Decides.{nat_tests}

pub get_set : {X : Type 0} (xs : List X) (i j : ℕ) (x : X) → i < length xs
    → slice_get (set xs i x) j ≡ cond (eqb i j) (Some x) (slice_get xs j)
get_set [] i j x h = absurd (omega arith)
get_set (y ∷ xs) zero zero x h = refl
get_set (y ∷ xs) zero (suc j) x h = ap (λ b. cond b (Some x) (slice_get xs j)) (sym (apart j))
  where
    apart : (j : ℕ) → eqb 0 (suc j) ≡ false
    apart j = grind (arith, nat_tests)
get_set (y ∷ xs) (suc i) zero x h = ap (λ b. cond b (Some x) (Some y)) (sym (apart i))
  where
    apart : (i : ℕ) → eqb (suc i) 0 ≡ false
    apart i = grind (arith, nat_tests)
get_set (y ∷ xs) (suc i) (suc j) x h = get_set xs i j x (omega arith)
    ∙ ap (λ b. cond b (Some x) (slice_get xs j)) (before i j)
  where
    before : (i j : ℕ) → eqb i j ≡ eqb (suc i) (suc j)
    before i j = grind (arith, nat_tests)

itself : (n : ℕ) → eqb n n ≡ true
itself n = grind (arith, nat_tests)

pub get_set_same : {X : Type 0} (xs : List X) (i : ℕ) (x : X) → i < length xs → slice_get (set xs i x) i ≡ Some x
get_set_same xs i x h = get_set xs i i x h ∙ ap (λ b. cond b (Some x) (slice_get xs i)) (itself i)
