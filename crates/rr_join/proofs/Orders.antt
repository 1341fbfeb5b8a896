-- Two orders, one after the other.
use Rattle.std.proofs.Common.{◌≡◌, refl, sym, ap, Ordering, Less, Equal, Greater, true≢false}
use Rattle.std.specs.Ordering.{ordering_then, is_eq}

-- where the two tie together, each ties
pub first_Equal : (a b : Ordering) → ordering_then a b ≡ Equal → a ≡ Equal
first_Equal Less b e = e
first_Equal Equal b e = refl
first_Equal Greater b e = e

pub then_Equal : (a b : Ordering) → ordering_then a b ≡ Equal → b ≡ Equal
then_Equal Less b e = absurd (true≢false (sym (ap is_eq e)))
then_Equal Equal b e = e
then_Equal Greater b e = absurd (true≢false (sym (ap is_eq e)))
