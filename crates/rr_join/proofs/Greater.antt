-- The greater of two values and the greatest of a list, in any order.
use Rattle.std.proofs.Common.{◌≡◌, true, false, cond, List, ◌∷◌, refl, sym, ap, ◌∙◌, Ordering, Less, Equal, Greater, true≢false, Option, Some, None}
use Rattle.std.specs.Ordering.{is_lt, ord_max, ordering_reverse, flip_args}
use Rattle.std.specs.Option.{unwrap_or}
use Rattle.std.specs.Cmp.{IsTotalOrder, tied_itself}
use Rattle.std.specs.FinMap.{IsAntisymmetric}
use Rattle.rr_join.specs.Maps.{greater, greatest}

Less_from_is_lt : (r : Ordering) → is_lt r ≡ true → r ≡ Less
Less_from_is_lt Less e = refl
Less_from_is_lt Equal e = absurd (true≢false (sym e))
Less_from_is_lt Greater e = absurd (true≢false (sym e))

pub flip_args-IsAntisymmetric : {V : Type 0} {S : V → V → Ordering} → IsAntisymmetric S → IsAntisymmetric (flip_args S)
flip_args-IsAntisymmetric alike x y e = sym (alike y x e)

pub greater-None : {V : Type 0} (S : V → V → Ordering) (x : Option V) → greater S x None ≡ x
greater-None S None = refl
greater-None S (Some a) = refl

pub greatest_some : {V : Type 0} (S : V → V → Ordering) (y : V) (ys : List V) (d : V)
    → greatest S (y ∷ ys) ≡ Some (unwrap_or (greatest S (y ∷ ys)) d)
greatest_some S y ys d = elim (greatest S ys) as (λ g. greater S (Some y) g ≡ Some (unwrap_or (greater S (Some y) g) d))
    [ None ↦ refl | Some v ↦ refl ]

-- of any total order, also one by which unequal values tie
module _ {V : Type 0} {S : V → V → Ordering} (s : IsTotalOrder S) where
  pub max_itself : (a : V) → ord_max S a a ≡ a
  max_itself a = ap (λ r. cond (is_lt r) a a) (tied_itself s a)

  not_less_further : (a b c : V) → is_lt (S b a) ≡ false → is_lt (S c b) ≡ false → is_lt (S c a) ≡ false
  not_less_further a b c p q =
      elim (S c a) as (λ r. S c a ≡ r → is_lt r ≡ false) [
        | Less ↦ λ e. elim (S c b) as (λ r. S c b ≡ r → is_lt r ≡ false → true ≡ false) [
          | Less ↦ λ f g. g
          | Equal ↦ λ f g. sym (ap is_lt (sym (s.congr c b a f) ∙ e)) ∙ p
          | Greater ↦ λ f g. sym (ap is_lt (s.trans b c a (s.antisymm b c ∙ ap ordering_reverse f) e)) ∙ p
        ] refl q
        | Equal ↦ λ e. refl
        | Greater ↦ λ e. refl
      ] refl

  pub max_assoc : (a b c : V) → ord_max S (ord_max S a b) c ≡ ord_max S a (ord_max S b c)
  max_assoc a b c =
      elim (is_lt (S b a)) as (λ p. is_lt (S b a) ≡ p → ord_max S (cond p a b) c ≡ ord_max S a (ord_max S b c)) [
        | true ↦ λ p. elim (is_lt (S c b)) as (λ q. is_lt (S c b) ≡ q → ord_max S a c ≡ ord_max S a (cond q b c)) [
          | true ↦ λ q. ap (λ r. cond (is_lt r) a c) (s.trans c b a (Less_from_is_lt _ q) (Less_from_is_lt _ p))
              ∙ sym (ap (λ t. cond t a b) p)
          | false ↦ λ q. refl
        ] refl
        | false ↦ λ p. elim (is_lt (S c b)) as (λ q. is_lt (S c b) ≡ q → cond q b c ≡ ord_max S a (cond q b c)) [
          | true ↦ λ q. sym (ap (λ t. cond t a b) p)
          | false ↦ λ q. sym (ap (λ t. cond t a c) (not_less_further a b c p q))
        ] refl
      ] refl

  pub greater_itself : (x : Option V) → greater S x x ≡ x
  greater_itself None = refl
  greater_itself (Some a) = ap (λ v. Some v) (max_itself a)

  pub greater_assoc : (x y z : Option V) → greater S (greater S x y) z ≡ greater S x (greater S y z)
  greater_assoc None y z = refl
  greater_assoc (Some a) None z = refl
  greater_assoc (Some a) (Some b) None = refl
  greater_assoc (Some a) (Some b) (Some c) = ap (λ v. Some v) (max_assoc a b c)

-- of one by which only equal values tie
module _ {V : Type 0} {S : V → V → Ordering} (s : IsTotalOrder S) (alike : IsAntisymmetric S) where
  pub max_comm : (a b : V) → ord_max S a b ≡ ord_max S b a
  max_comm a b =
      elim (S b a) as (λ r. S b a ≡ r → cond (is_lt r) a b ≡ cond (is_lt (S a b)) b a) [
        | Less ↦ λ e. ap (λ r. cond (is_lt r) b a) (sym (s.antisymm a b ∙ ap ordering_reverse e))
        | Equal ↦ λ e. alike b a e ∙ ap (λ r. cond (is_lt r) b a) (sym (s.antisymm a b ∙ ap ordering_reverse e))
        | Greater ↦ λ e. ap (λ r. cond (is_lt r) b a) (sym (s.antisymm a b ∙ ap ordering_reverse e))
      ] refl

  pub greater_comm : (x y : Option V) → greater S x y ≡ greater S y x
  greater_comm None None = refl
  greater_comm None (Some b) = refl
  greater_comm (Some a) None = refl
  greater_comm (Some a) (Some b) = ap (λ v. Some v) (max_comm a b)

  pub greater_swap : (x y z : Option V) → greater S x (greater S y z) ≡ greater S y (greater S x z)
  greater_swap x y z = sym (greater_assoc s x y z) ∙ ap (λ g. greater S g z) (greater_comm x y) ∙ greater_assoc s y x z
