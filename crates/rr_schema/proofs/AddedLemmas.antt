-- Which archive a schema has more than another, and what is left without it.
use Rattle.std.proofs.Common.{◌≡◌, ℕ, ◌+◌, ◌-◌, ◌<◌, ◌≤◌, cond, List, ◌++◌, length, take, drop, get_or, sym, ap, ◌∙◌, subst, refl, arith, inl, inr, All}
use Rattle.std.specs.Prelude.{nat_lt}
use Rattle.std.proofs.lemmas.Bool.{cases_lt, lt-ltb, le-ltb}
use Rattle.std.proofs.lemmas.List.{get_or-map, length-map, length-append, length-take, length-drop, get_or-take, get_or-drop, get_or_append_left, get_or-append_right, take-append-drop}
use Rattle.std.proofs.lemmas.List.Elements.{All-append, All-take, All-drop}
use Rattle.std.proofs.Math.Seq.{drop-append_seam, take-append_seam}
use Rattle.rr_schema.specs.declared.archive.ArchiveSpec.{ArchiveSpec}
use Rattle.rr_schema.specs.Schema.{Layout, IsArchive, IsLayout}
use Rattle.rr_schema.specs.Added.{without, HasAdded, OneIsAdded, OneLessIsLayout}
use Rattle.rr_schema.proofs.Rising.{past, steps_at, Rise, next_above, steps_rise}

-- ---- the elements of a list without one

-- the number in the whole list of an element of the list without number i
kept : ℕ → ℕ → ℕ
kept i a = cond (nat_lt a i) a (a + 1)

kept_before : (i a : ℕ) → a < i → kept i a ≡ a
unfolding kept
kept_before i a h = ap (λ b. cond b a (a + 1)) (lt-ltb a i h)

kept_after : (i a : ℕ) → i ≤ a → kept i a ≡ a + 1
unfolding kept
kept_after i a h = ap (λ b. cond b a (a + 1)) (le-ltb a i h)

kept_rises : (i a : ℕ) → kept i a < kept i (a + 1)
kept_rises i a = elim (cases_lt (a + 1) i) [
  | inl p ↦ omega (arith, p, kept_before i a (omega arith), kept_before i (a + 1) p)
  | inr p ↦ elim (cases_lt a i) [
    | inl q ↦ omega (arith, q, kept_before i a q, kept_after i (a + 1) p)
    | inr q ↦ omega (arith, q, kept_after i a q, kept_after i (a + 1) p)
  ]
]

get_or-without : {A : Type 0} (i a : ℕ) (xs : List A) (d : A) → i < length xs
    → get_or (without i xs) a d ≡ get_or xs (kept i a) d
get_or-without i a xs d h =
    let prefix : length (take i xs) ≡ i = omega (arith, length-take i xs) in
    elim (cases_lt a i) [
      | inl p ↦ get_or_append_left (take i xs) (drop (i + 1) xs) d a (omega (arith, prefix, p)) ∙ get_or-take i xs a d p
          ∙ sym (ap (λ k. get_or xs k d) (kept_before i a p))
      | inr p ↦ get_or-append_right (take i xs) (drop (i + 1) xs) i a d prefix p ∙ get_or-drop (i + 1) xs (a - i) d
          ∙ ap (λ k. get_or xs k d) (let here : i + 1 + (a - i) ≡ a + 1 = omega (arith, p) in here
          ∙ sym (kept_after i a p))
    ]

pub length-without : {A : Type 0} (i : ℕ) (xs : List A) → i < length xs → length (without i xs) + 1 ≡ length xs
length-without i xs h = omega (
  arith,
  h,
  length-append (take i xs) (drop (i + 1) xs),
  length-take i xs,
  length-drop (i + 1) xs,
)

-- a list is another without an element where its prefix and its rest are
pub parts_are_without : {A : Type 0} (i : ℕ) (xs ys : List A) → take i ys ≡ take i xs → drop i ys ≡ drop (i + 1) xs
    → ys ≡ without i xs
parts_are_without i xs ys prefix rest = sym (take-append-drop i ys) ∙ (λ j. prefix j ++ rest j)

pub prefix_is_without : {A : Type 0} (i : ℕ) (xs ys : List A) → i < length xs → ys ≡ without i xs
    → take i ys ≡ take i xs
prefix_is_without i xs ys h e =
    let len : length (take i xs) ≡ i = omega (arith, length-take i xs) in
    ap (take i) e ∙ ap (λ k. take k (without i xs)) (sym len) ∙ take-append_seam (take i xs) (drop (i + 1) xs)

pub rest_is_without : {A : Type 0} (i : ℕ) (xs ys : List A) → i < length xs → ys ≡ without i xs
    → drop i ys ≡ drop (i + 1) xs
rest_is_without i xs ys h e =
    let len : length (take i xs) ≡ i = omega (arith, length-take i xs) in
    ap (drop i) e ∙ ap (λ k. drop k (without i xs)) (sym len) ∙ drop-append_seam (take i xs) (drop (i + 1) xs)

-- ---- one was added

steps_left : (i a : ℕ) (xs : List ArchiveSpec) → i < length xs → steps_at (without i xs) a ≡ steps_at xs (kept i a)
steps_left i a xs h = ap (λ (x : ArchiveSpec). x.steps) (get_or-without i a xs past h)

not_earlier : (i j : ℕ) (s t : Layout) → IsLayout s → HasAdded i s t → HasAdded j s t → i < j → ⊥
not_earlier i j s t is first second less =
    let by_first = ap (λ xs. steps_at xs i) first.others ∙ steps_left i i s.archives first.number
    ∙ ap (steps_at s.archives) (kept_after i i (omega arith)) in
    let by_second = ap (λ xs. steps_at xs i) second.others ∙ steps_left j i s.archives second.number
    ∙ ap (steps_at s.archives) (kept_before j i less) in
    let more = next_above s.archives is.rising i (omega (arith, less, second.number)) in
    omega (arith, by_first, by_second, more)

pub one_is_added : OneIsAdded
one_is_added i j s t is first second = elim (cases_lt i j) [
  | inl less ↦ absurd (not_earlier i j s t is first second less)
  | inr le ↦ elim (cases_lt j i) [
    | inl less ↦ absurd (not_earlier j i s t is second first less)
    | inr ge ↦ omega (arith, le, ge)
  ]
]

-- ---- what is left

-- a later archive has more steps
above : (xs : List ArchiveSpec) → Rise xs → (k m : ℕ) → k < m → m < length xs → steps_at xs k < steps_at xs m
above xs rising k m lt fits =
    let one = next_above xs rising k (omega arith) in
    let more = steps_rise xs rising (k + 1) m (omega arith) fits in
    omega (arith, one, more)

rising_left : (i : ℕ) (xs : List ArchiveSpec) → Rise xs → i < length xs → Rise (without i xs)
rising_left i xs rising h k lt =
    let len = length-without i xs h in
    let few : k + 1 < length (without i xs) = omega
    (arith, lt, length-map (without i xs) (λ (a : ArchiveSpec). a.steps)) in
    let here = get_or-map (λ a. a.steps) (without i xs) k past 0 (omega arith) in
    let next = get_or-map (λ a. a.steps) (without i xs) (k + 1) past 0 few in
    let more = above xs rising (kept i k) (kept i (k + 1)) (kept_rises i k) (below (k + 1) few len) in
    omega (arith, here, next, steps_left i k xs h, steps_left i (k + 1) xs h, more)
  where
    below : (a : ℕ) → a < length (without i xs) → length (without i xs) + 1 ≡ length xs → kept i a < length xs
    below a less len = elim (cases_lt a i) [
      | inl p ↦ omega (arith, p, h, kept_before i a p)
      | inr p ↦ omega (arith, p, less, len, kept_after i a p)
    ]

pub one_less_is_layout : OneLessIsLayout
one_less_is_layout i s t is added some =
    let len : length t.archives + 1 ≡ length s.archives = ap (λ xs. length xs + 1) added.others
    ∙ length-without i s.archives added.number in
    record {
      some_step = subst (λ n. 1 ≤ n) (sym added.step) is.some_step;
      short_step = subst (λ n. n ≤ 86400) (sym added.step) is.short_step;
      some_archive = some;
      few_archives = let few = is.few_archives in omega (arith, len, few);
      each = subst (All IsArchive) (sym added.others)
          (All-append IsArchive (take i s.archives) (drop (i + 1) s.archives) (All-take IsArchive i s.archives is.each)
          (All-drop IsArchive (i + 1) s.archives is.each));
      rising = subst Rise (sym added.others) (rising_left i s.archives is.rising added.number);
    }

pub left_is_layout : (i : ℕ) (s : Layout) → IsLayout s → i < length s.archives → 2 ≤ length s.archives
    → IsLayout (record { step = s.step; archives = without i s.archives })
left_is_layout i s is there others =
    one_less_is_layout i s (record { step = s.step; archives = without i s.archives }) is
    (record { step = refl; number = there; others = refl })
    (let len = length-without i s.archives there in omega (arith, len, others))
