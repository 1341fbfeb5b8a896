-- Samples, put one after the other.
use Rattle.std.proofs.Common.{◌≡◌, ℤ, ℕ, List, [], ◌∷◌, ◌++◌, refl}
use Rattle.rr_desk.specs.Points.{with_put, with_samples}
use Rattle.rr_desk.specs.KeeperState.{KeeperState}

-- with one sample more
pub with_samples-more : (k : KeeperState) (time : ℤ) (samples : List (List ℕ × ℤ)) (sample : List ℕ × ℤ)
    → with_samples k time (samples ++ sample ∷ []) ≡ with_put (with_samples k time samples) sample.0 time sample.1
with_samples-more k time [] sample = refl
with_samples-more k time (other ∷ samples) sample =
    with_samples-more (with_put k other.0 time other.1) time samples sample
