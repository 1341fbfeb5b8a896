-- Moments that are looked up.
use Rattle.std.proofs.Common.{◌≡◌, ◌∙◌, ℕ, zero, suc, ◌-◌, ℤ, pos, min, get_or, List, [], ◌∷◌, length, refl, sym, ap, arith}
use Rattle.rr_fakes.specs.Clock.{moment_at}

-- the moment at a place is looked up there, or at the end
pub moment_at-lookup : (moments : List ℤ) (n : ℕ)
    → moment_at moments n ≡ get_or moments (min n (length moments - 1)) (pos 0)
moment_at-lookup [] n = refl
moment_at-lookup (moment ∷ []) n = let first : min n 0 ≡ 0 = omega arith in rw first refl
moment_at-lookup (moment ∷ next ∷ later) zero = let first : min 0 (length (moment ∷ next ∷ later) - 1) ≡ 0 =
    omega arith in rw first refl
moment_at-lookup (moment ∷ next ∷ later) (suc n) =
    let more : min (suc n) (length (moment ∷ next ∷ later) - 1) ≡ suc (min n (length (next ∷ later) - 1)) =
    omega arith in
    moment_at-lookup (next ∷ later) n ∙ sym (ap (λ (k : ℕ). get_or (moment ∷ next ∷ later) k (pos 0)) more)
