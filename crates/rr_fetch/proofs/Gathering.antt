-- What is added up over a list in any order, and over the parts of it that bear each name.
use Rattle.std.proofs.Common.{◌≡◌, Bool, true, false, cond, ◌||◌, List, [], ◌∷◌, ◌++◌, map, refl, sym, ap, ◌∙◌, subst, Ordering, true≢false, Option, Some, None, is_some}
use Rattle.std.specs.List.{filter}
use Rattle.std.specs.Option.{option_map, unwrap_or}
use Rattle.std.specs.Ordering.{eq_by_cmp, is_lt, ord_max}
use Rattle.std.specs.Cmp.{IsTotalOrder}
use Rattle.std.specs.FinMap.{IsAntisymmetric}
use Rattle.std.proofs.lemmas.Bool.{or_right}
use Rattle.rr_join.specs.Maps.{greatest, greater}
use Rattle.rr_join.proofs.Members.{is_in, same_from_tie, head_in}
use Rattle.rr_join.proofs.Distinct.{IsDistinct}
use Rattle.rr_join.proofs.Distinct.IsDistinct.{more}

-- the parts of all elements, added up by op from the last on
abbrev pub gather : {A M : Type 0} → (A → A → A) → A → (M → A) → List M → A
gather op none part [] = none
gather op none part (x ∷ xs) = op (part x) (gather op none part xs)

-- with one more element at the end
pub gather-more : {A M : Type 0} (op : A → A → A) (none : A) (part : M → A) → ((x : A) → op x none ≡ op none x)
    → ((x y z : A) → op (op x y) z ≡ op x (op y z)) → (xs : List M) (y : M)
    → gather op none part (xs ++ y ∷ []) ≡ op (gather op none part xs) (part y)
gather-more op none part either assoc [] y = either (part y)
gather-more op none part either assoc (x ∷ xs) y = ap (op (part x)) (gather-more op none part either assoc xs y)
    ∙ sym (assoc (part x) (gather op none part xs) (part y))

module _ {A M : Type 0} (op : A → A → A) (none : A) (unit : (x : A) → op none x ≡ x)
    (assoc : (x y z : A) → op (op x y) z ≡ op x (op y z)) (comm : (x y : A) → op x y ≡ op y x) (part : M → A) where
  abbrev over : List M → A
  over xs = gather op none part xs

  swap : (x y z : A) → op x (op y z) ≡ op y (op x z)
  swap x y z = sym (assoc x y z) ∙ ap (λ w. op w z) (comm x y) ∙ assoc y x z

  -- of two tests that no element passes together
  gather_apart : (p q : M → Bool) → ((x : M) → p x ≡ true → q x ≡ false) → (xs : List M)
      → over (filter (λ x. p x || q x) xs) ≡ op (over (filter p xs)) (over (filter q xs))
  gather_apart p q apart [] = sym (unit none)
  gather_apart p q apart (x ∷ xs) =
      let rest = gather_apart p q apart xs in
      elim (p x) as (λ b. p x ≡ b → over (cond (b || q x) (x ∷ filter (λ x. p x || q x) xs)
      (filter (λ x. p x || q x) xs)) ≡ op (over (cond b (x ∷ filter p xs) (filter p xs)))
      (over (cond (q x) (x ∷ filter q xs) (filter q xs)))) [
        | true ↦ λ b.
            ap (op (part x)) rest ∙ sym (assoc (part x) (over (filter p xs)) (over (filter q xs)))
            ∙ ap (λ c. op (op (part x) (over (filter p xs))) (over (cond c (x ∷ filter q xs) (filter q xs))))
            (sym (apart x b))
        | false ↦ λ b. elim (q x) as (λ c. over (cond c (x ∷ filter (λ x. p x || q x) xs) (filter (λ x. p x || q x) xs))
            ≡ op (over (filter p xs)) (over (cond c (x ∷ filter q xs) (filter q xs)))) [
              | true ↦ ap (op (part x)) rest ∙ swap (part x) (over (filter p xs)) (over (filter q xs))
              | false ↦ rest
            ]
      ] refl

  gather_nothing : (xs : List M) → over (filter (λ _. false) xs) ≡ none
  gather_nothing [] = refl
  gather_nothing (x ∷ xs) = gather_nothing xs

  module _ {N : Type 0} {R : N → N → Ordering} (o : IsTotalOrder R) (same : IsAntisymmetric R) (name : M → N) where
    -- name by name it is what all of these names' elements are
    pub gather_by_name : (ns : List N) → IsDistinct R ns → (xs : List M)
        → gather op none (λ n. over (filter (λ x. eq_by_cmp R (name x) n) xs)) ns
        ≡ over (filter (λ x. is_in R ns (name x)) xs)
    gather_by_name [] d xs = sym (gather_nothing xs)
    gather_by_name (n ∷ ns) (more apart d) xs =
        ap (op (over (filter (λ x. eq_by_cmp R (name x) n) xs))) (gather_by_name ns d xs)
        ∙ sym (gather_apart (λ x. eq_by_cmp R (name x) n) (λ x. is_in R ns (name x))
        (λ x t. ap (is_in R ns) (same_from_tie o same (name x) n t) ∙ apart) xs)

-- ---- with values that agree at the members

module _ {N : Type 0} {R : N → N → Ordering} (o : IsTotalOrder R) (same : IsAntisymmetric R) where
  pub gather_agree : {A : Type 0} (op : A → A → A) (none : A) (f g : N → A) (ns : List N)
      → ((n : N) → is_in R ns n ≡ true → f n ≡ g n) → gather op none f ns ≡ gather op none g ns
  gather_agree op none f g [] agree = refl
  gather_agree op none f g (n ∷ ns) agree = λ i. op (agree n (head_in o same n ns) i)
      (gather_agree op none f g ns (λ k h. agree k (or_right (eq_by_cmp R k n) (is_in R ns k) h)) i)

  pub filter_agree_at : (p q : N → Bool) (ns : List N) → ((n : N) → is_in R ns n ≡ true → p n ≡ q n)
      → filter p ns ≡ filter q ns
  filter_agree_at p q [] agree = refl
  filter_agree_at p q (n ∷ ns) agree =
      let rest = filter_agree_at p q ns (λ k h. agree k (or_right (eq_by_cmp R k n) (is_in R ns k) h)) in
      λ i. cond (agree n (head_in o same n ns) i) (n ∷ rest i) (rest i)

-- ---- the greatest

pub gather-greatest : {V N : Type 0} (S : V → V → Ordering) (f : N → V) (ns : List N)
    → greatest S (map f ns) ≡ gather (greater S) None (λ n. Some (f n)) ns
gather-greatest S f [] = refl
gather-greatest S f (n ∷ ns) = ap (greater S (Some (f n))) (gather-greatest S f ns)

-- the greatest of the images is the image of the greatest by them
pub greatest-map : {V N : Type 0} (S : V → V → Ordering) (f : N → V) (ns : List N)
    → greatest S (map f ns) ≡ option_map f (greatest (λ a b. S (f a) (f b)) ns)
greatest-map S f [] = refl
greatest-map S f (n ∷ ns) = ap (greater S (Some (f n))) (greatest-map S f ns)
    ∙ greater-map S f n (greatest (λ a b. S (f a) (f b)) ns)
  where
    pick : {V N : Type 0} (f : N → V) (b : Bool) (x y : N) → cond b (f x) (f y) ≡ f (cond b x y)
    pick f true x y = refl
    pick f false x y = refl

    greater-map : {V N : Type 0} (S : V → V → Ordering) (f : N → V) (n : N) (g : Option N)
        → greater S (Some (f n)) (option_map f g) ≡ option_map f (greater (λ a b. S (f a) (f b)) (Some n) g)
    greater-map S f n None = refl
    greater-map S f n (Some k) = ap (λ v. Some v) (pick f (is_lt (S (f k) (f n))) n k)

module _ {N : Type 0} {R : N → N → Ordering} (o : IsTotalOrder R) (same : IsAntisymmetric R) where
  -- two orders that agree at the members have one greatest, and it is one of them
  pub greatest_agree : (S T : N → N → Ordering) (ns : List N)
      → ((a b : N) → is_in R ns a ≡ true → is_in R ns b ≡ true → S a b ≡ T a b)
      → (greatest S ns ≡ greatest T ns) × ((n : N) → greatest T ns ≡ Some n → is_in R ns n ≡ true)
  greatest_agree S T [] agree = (refl, λ n e. absurd (true≢false (sym (ap is_some e))))
  greatest_agree S T (x ∷ xs) agree =
      let r = greatest_agree S T xs (λ a b h k. agree a b (or_right (eq_by_cmp R a x) (is_in R xs a) h)
      (or_right (eq_by_cmp R b x) (is_in R xs b) k)) in
      let first : is_in R (x ∷ xs) x ≡ true = head_in o same x xs in
      elim (greatest T xs) as (λ g. greatest T xs ≡ g
      → (greater S (Some x) (greatest S xs) ≡ greater T (Some x) g)
      × ((n : N) → greater T (Some x) g ≡ Some n → is_in R (x ∷ xs) n ≡ true)) [
        | None ↦ λ g. (
          ap (greater S (Some x)) (r.0 ∙ g),
          λ n e. subst (λ y. is_in R (x ∷ xs) y ≡ true) (some_is x n e) first,
        )
        | Some k ↦ λ g.
            let there : is_in R (x ∷ xs) k ≡ true = or_right (eq_by_cmp R k x) (is_in R xs k) (r.1 k g) in (
              ap (greater S (Some x)) (r.0 ∙ g) ∙ ap (λ t. Some (cond (is_lt t) x k)) (agree k x there first),
              λ n e. subst (λ y. is_in R (x ∷ xs) y ≡ true) (some_is (ord_max T x k) n e)
                  (one_of (is_lt (T k x)) (x ∷ xs) x k first there),
            )
      ] refl
    where
      some_is : {V : Type 0} (x y : V) → Some x ≡ Some y → x ≡ y
      some_is x y e = ap (λ v. unwrap_or v x) e

      one_of : (b : Bool) (ns : List N) (x k : N) → is_in R ns x ≡ true → is_in R ns k ≡ true
          → is_in R ns (cond b x k) ≡ true
      one_of true ns x k p q = p
      one_of false ns x k p q = q
