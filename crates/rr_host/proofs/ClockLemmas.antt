-- What clocks gave.
use Rattle.std.proofs.Common.{◌≡◌, ℤ, List, [], ◌++◌, Option, None, Some, sym, ap, ◌∙◌, append_assoc}
use Rattle.std.proofs.lemmas.List.{append-nil}
use Rattle.rr_host.specs.Clock.{HasGiven}

pub HasGiven-nil : (a : Option (List ℤ)) → HasGiven a a []
HasGiven-nil None = tt
HasGiven-nil (Some given) = sym (append-nil given)

pub HasGiven-trans : (a b c : Option (List ℤ)) (first later : List ℤ) → HasGiven a b first → HasGiven b c later
    → HasGiven a c (first ++ later)
HasGiven-trans None None None first later p q = tt
HasGiven-trans None None (Some z) first later p q = absurd q
HasGiven-trans None (Some y) c first later p q = absurd p
HasGiven-trans (Some x) None None first later p q = tt
HasGiven-trans (Some x) None (Some z) first later p q = absurd q
HasGiven-trans (Some x) (Some y) None first later p q = tt
HasGiven-trans (Some x) (Some y) (Some z) first later p q = q ∙ ap (λ (l : List ℤ). l ++ later) p
    ∙ append_assoc x first later
