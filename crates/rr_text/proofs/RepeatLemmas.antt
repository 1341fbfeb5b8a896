-- Texts that occur twice in a list: when it grows, and when it is put into another order.
use Rattle.std.proofs.Common.{◌≡◌, ℕ, Bool, true, false, ◌||◌, List, [], ◌∷◌, ◌++◌, refl, sym, ◌∙◌, inl, inr}
use Rattle.std.proofs.lemmas.Bool.{cases_Bool, or_parts}
use Rattle.std.proofs.lemmas.Cmp.{nat_list_cmp_total, eq_by_cmp_equiv}
use Rattle.std.proofs.lemmas.List.Folds.{list_any-append}
use Rattle.std.proofs.lemmas.Map.Keys.{IsDistinct-IsPermutation}
use Rattle.std.specs.List.{AllByRecursion, IsDistinct}
use Rattle.std.specs.List.Sorted.{IsPermutation}
use Rattle.std.specs.Ordering.{is_eq, eq_by_cmp}
use Rattle.rr_text.specs.Bytes.{bytes_cmp, is_among, has_repeat}

-- texts are equal either way round
pub same_turned : (x y : List ℕ) → is_eq (bytes_cmp x y) ≡ true → is_eq (bytes_cmp y x) ≡ true
same_turned x y e = sym ((eq_by_cmp_equiv nat_list_cmp_total).symm x y) ∙ e

pub differ_turned : (x y : List ℕ) → is_eq (bytes_cmp x y) ≡ false → is_eq (bytes_cmp y x) ≡ false
differ_turned x y e = sym ((eq_by_cmp_equiv nat_list_cmp_total).symm x y) ∙ e

pub or_true : (a : Bool) → (a || true) ≡ true
or_true true = refl
or_true false = refl

is_among-append : (text : List ℕ) (texts others : List (List ℕ))
    → is_among text (texts ++ others) ≡ (is_among text texts || is_among text others)
is_among-append text texts others = list_any-append (λ other. is_eq (bytes_cmp other text)) texts others

-- a text that is among those before it makes a repeat
pub has_repeat-again : (texts more : List (List ℕ)) (text : List ℕ) → is_among text texts ≡ true
    → has_repeat (texts ++ text ∷ more) ≡ true
has_repeat-again [] more text h = absurd cc
has_repeat-again (first ∷ texts) more text h =
    elim (cases_Bool (is_eq (bytes_cmp first text))) [
      | inl same ↦ rw (
        is_among-append first texts (text ∷ more),
        same_turned first text same,
        or_true (is_among first texts),
      ) refl
      | inr other ↦ rw (has_repeat-again texts more text (rw other at h))
          (or_true (is_among first (texts ++ text ∷ more)))
    ]

-- a new text makes none
pub has_repeat-new : (texts : List (List ℕ)) (text : List ℕ) → has_repeat texts ≡ false → is_among text texts ≡ false
    → has_repeat (texts ++ text ∷ []) ≡ false
has_repeat-new [] text h new = refl
has_repeat-new (first ∷ texts) text h new =
    let parts = or_parts (is_among first texts) (has_repeat texts) h in
    let apart = or_parts (is_eq (bytes_cmp first text)) (is_among text texts) new in
    rw (
      is_among-append first texts (text ∷ []),
      parts.0,
      differ_turned first text apart.0,
      has_repeat-new texts text parts.1 apart.1,
    ) refl

all_differ : (text : List ℕ) (texts : List (List ℕ)) → is_among text texts ≡ false
    → AllByRecursion (λ other. eq_by_cmp bytes_cmp text other ≡ false) texts
all_differ text [] h = tt
all_differ text (other ∷ texts) h =
    let parts = or_parts (is_eq (bytes_cmp other text)) (is_among text texts) h in
    (differ_turned other text parts.0, all_differ text texts parts.1)

none_among : (text : List ℕ) (texts : List (List ℕ))
    → AllByRecursion (λ other. eq_by_cmp bytes_cmp text other ≡ false) texts → is_among text texts ≡ false
none_among text [] h = refl
none_among text (other ∷ texts) h =
    let apart : is_eq (bytes_cmp other text) ≡ false = differ_turned text other h.0 in
    rw (apart, none_among text texts h.1) refl

pub IsDistinct-has_repeat : (texts : List (List ℕ)) → has_repeat texts ≡ false → IsDistinct (eq_by_cmp bytes_cmp) texts
unfolding IsDistinct
IsDistinct-has_repeat [] h = tt
IsDistinct-has_repeat (text ∷ texts) h =
    let parts = or_parts (is_among text texts) (has_repeat texts) h in
    (all_differ text texts parts.0, IsDistinct-has_repeat texts parts.1)

has_repeat-IsDistinct : (texts : List (List ℕ)) → IsDistinct (eq_by_cmp bytes_cmp) texts → has_repeat texts ≡ false
unfolding IsDistinct
has_repeat-IsDistinct [] h = refl
has_repeat-IsDistinct (text ∷ texts) h = rw (none_among text texts h.0, has_repeat-IsDistinct texts h.1) refl

-- texts in another order have a repeat where these have one
pub has_repeat-IsPermutation : (texts others : List (List ℕ)) → IsPermutation texts others → has_repeat texts ≡ false
    → has_repeat others ≡ false
has_repeat-IsPermutation texts others p h =
    has_repeat-IsDistinct others (IsDistinct-IsPermutation (eq_by_cmp bytes_cmp)
    (eq_by_cmp_equiv nat_list_cmp_total).symm texts others p (IsDistinct-has_repeat texts h))
