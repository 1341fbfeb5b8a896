-- Beginnings of lists.
use Rattle.std.proofs.Common.{◌≡◌, ◌≤◌, List, [], ◌∷◌, ◌++◌, length, refl, sym, ap, ◌∙◌, append_assoc, arith}
use mathlib.Core.List.{IsPrefix}

module _ {A : Type 0} where
  pub prefix_refl : (xs : List A) → IsPrefix xs xs
  prefix_refl [] = ([], refl)
  prefix_refl (x ∷ xs) = let p = prefix_refl xs in (p.0, ap (λ (l : List A). x ∷ l) p.1)

  pub prefix_append : (xs ys : List A) → IsPrefix xs (xs ++ ys)
  prefix_append xs ys = (ys, refl)

  pub prefix_trans : (xs ys zs : List A) → IsPrefix xs ys → IsPrefix ys zs → IsPrefix xs zs
  prefix_trans xs ys zs p q = (p.0 ++ q.0, sym (append_assoc xs p.0 q.0) ∙ (ap (λ (l : List A). l ++ q.0) p.1 ∙ q.1))

  pub prefix_nil : (xs : List A) → IsPrefix [] xs
  prefix_nil xs = (xs, refl)

  pub prefix_of_nil : (xs ys : List A) → IsPrefix xs [] → IsPrefix xs ys
  prefix_of_nil [] ys p = prefix_nil ys
  prefix_of_nil (x ∷ xs) ys p = let e : (x ∷ xs) ++ p.0 ≡ [] = p.1 in cc

  -- of two beginnings of one list the one that isn't longer begins the other
  pub prefix_short : (xs ys zs : List A) → IsPrefix xs zs → IsPrefix ys zs → length xs ≤ length ys → IsPrefix xs ys
  prefix_short [] ys zs p q le = prefix_nil ys
  prefix_short (x ∷ xs) [] zs p q le = absurd (omega arith)
  prefix_short (x ∷ xs) (y ∷ ys) [] p q le = absurd (cc (p.1))
  prefix_short (x ∷ xs) (y ∷ ys) (z ∷ zs) p q le =
      let same : x ≡ y = cc (p.1, q.1) in
      let r = prefix_short xs ys zs (p.0, cc (p.1)) (q.0, cc (q.1)) (omega arith) in
      (r.0, cc (same, r.1))

  -- two lists that begin each other are one
  prefix_both : (xs ys : List A) → IsPrefix xs ys → IsPrefix ys xs → xs ≡ ys
  prefix_both [] [] p q = refl
  prefix_both [] (y ∷ ys) p q = absurd (cc (q.1))
  prefix_both (x ∷ xs) [] p q = absurd (cc (p.1))
  prefix_both (x ∷ xs) (y ∷ ys) p q = let r = prefix_both xs ys (p.0, cc (p.1)) (q.0, cc (q.1)) in cc (sym q.1, r)

  -- a beginning that isn't shorter is the whole
  pub prefix_all : (xs ys : List A) → IsPrefix xs ys → length ys ≤ length xs → xs ≡ ys
  prefix_all xs ys p le = prefix_both xs ys p (prefix_short ys xs ys (prefix_refl ys) p le)
