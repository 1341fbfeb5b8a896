-- Lists of calls that grow.
use Rattle.std.proofs.Common.{List, [], ◌++◌, Option, None, Some, ap, sym, ◌∙◌, append_assoc}
use Rattle.std.proofs.lemmas.List.{append-nil}
use Rattle.rr_host.specs.Calls.{Grows}

pub grows_on : {A : Type 0} (a b c : Option (List A)) (xs ys : List A) → Grows a b xs → Grows b c ys
    → Grows a c (xs ++ ys)
grows_on {A = A} None None None xs ys p q = tt
grows_on {A = A} None None (Some c) xs ys p q = absurd q
grows_on {A = A} None (Some b) c xs ys p q = absurd p
grows_on {A = A} (Some a) None None xs ys p q = tt
grows_on {A = A} (Some a) None (Some c) xs ys p q = absurd q
grows_on {A = A} (Some a) (Some b) None xs ys p q = tt
grows_on {A = A} (Some a) (Some b) (Some c) xs ys p q = q ∙ ap (λ (zs : List A). zs ++ ys) p ∙ append_assoc a xs ys

pub grows_not : {A : Type 0} (a : Option (List A)) → Grows a a []
grows_not None = tt
grows_not (Some a) = sym (append-nil a)
