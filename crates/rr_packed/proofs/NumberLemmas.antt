-- Blocks by their numbers: found in the list, set there and added to it.
use Rattle.std.proofs.Common.{◌≡◌, ℕ, zero, suc, ◌+◌, ◌-◌, ◌<◌, ◌≤◌, ℤ, true, false, cond, List, [], ◌∷◌, ◌++◌, drop, length, get_or, set, insert, refl, sym, ap, ◌∙◌, subst, ⊎_elim, Option, Some, None, Less, int_cmp, arith, true≢false}
use Rattle.std.specs.Prelude.{int_lt, slice_get, Bool}
use Rattle.std.specs.List.{AllByRecursion, prefix_len}
use Rattle.std.specs.List.Sorted.{IsStrictlySortedBy, IsPartitionedBy, IsPartitionPoint}
use Rattle.std.specs.Map.{keys_of}
use Rattle.std.specs.Option.{option_to_list}
use Rattle.std.specs.BTreeMap.{is_at}
use Rattle.std.specs.Int.{int_min}
use Rattle.std.specs.Cmp.{int_cmp_total, eq_by_cmp_equiv}
use Rattle.std.proofs.lemmas.Bool.{cases_lt}
use Rattle.std.proofs.lemmas.Int.{ints}
use Rattle.std.proofs.lemmas.List.{get_or_default, get_or_append_left, set-append_left, length-append}
use Rattle.std.proofs.Math.Seq.{get_or-append_seam, set-append_seam}
use Rattle.std.proofs.lemmas.List.Edits.{insert-append_left}
use Rattle.std.proofs.lemmas.Map.{lookup-insert, lookup-none, none_passes_from_lookup}
use Rattle.std.proofs.lemmas.Map.Entries.{none_below_head, lookup_from_place}
use Rattle.std.proofs.lemmas.Map.Keys.{IsDistinct-from_sorted}
use Rattle.rr_packed.specs.declared.held_block.HeldBlock.{HeldBlock}
use Rattle.rr_packed.specs.Slots.{begins_before}
use Rattle.rr_packed.specs.Blocks.{block_at, count_before, starts_before, IsBlockSet, IsPlaceOf, IsGapFor}

abbrev pub Ascend : List (ℤ × HeldBlock) → Type 0
Ascend bs = IsStrictlySortedBy int_cmp (keys_of bs)

abbrev IsBelow : ℤ → List (ℤ × HeldBlock) → Type 0
IsBelow n bs = AllByRecursion (λ k. int_cmp n k ≡ Less) (keys_of bs)

-- ---- what is before a number

less_at : (n : ℤ) (bs : List (ℤ × HeldBlock)) (i : ℕ) (d : ℤ × HeldBlock) → IsBelow n bs → i < length bs
    → int_cmp n (get_or bs i d).0 ≡ Less
less_at n [] i d h within = absurd (omega arith)
less_at n (b ∷ bs) zero d h within = h.0
less_at n (b ∷ bs) (suc i) d h within = less_at n bs i d h.1 (omega arith)

ascend_at : (bs : List (ℤ × HeldBlock)) (i j : ℕ) (d : ℤ × HeldBlock) → Ascend bs → i < j → j < length bs
    → int_cmp (get_or bs i d).0 (get_or bs j d).0 ≡ Less
unfolding IsStrictlySortedBy
ascend_at [] i j d up low within = absurd (omega arith)
ascend_at (b ∷ bs) i zero d up low within = absurd (omega arith)
ascend_at (b ∷ bs) zero (suc j) d up low within = less_at b.0 bs j d up.0 (omega arith)
ascend_at (b ∷ bs) (suc i) (suc j) d up low within = ascend_at bs i j d up.1 (omega arith) (omega arith)

lt_trans : (a b n : ℤ) → int_cmp a b ≡ Less → int_lt b n ≡ true → int_lt a n ≡ true
lt_trans a b n p q = grind (arith, ints)

-- as a search in two halves asks
pub parted : (n : ℤ) (bs : List (ℤ × HeldBlock)) → Ascend bs → IsPartitionedBy (λ b. int_lt b.0 n) bs
parted n bs up i j d most within before = ⊎_elim
    (λ (low : i < j). lt_trans _ _ n (ascend_at bs i j d up low within) before)
    (λ (high : j ≤ i). let same : j ≡ i = omega arith in ap (λ k. int_lt (get_or bs k d).0 n) (sym same) ∙ before)
    (cases_lt i j)

prefix_is : {X : Type 0} (p : X → Bool) (xs : List X) (i : ℕ) → i ≤ length xs
    → ((k : ℕ) (d : X) → k < i → p (get_or xs k d) ≡ true) → ((d : X) → i < length xs → p (get_or xs i d) ≡ false)
    → i ≡ prefix_len p xs
prefix_is p [] i most low high = omega arith
prefix_is p (x ∷ xs) zero most low high = sym (ap (λ b. cond b (1 + prefix_len p xs) 0) (high x (omega arith)))
prefix_is p (x ∷ xs) (suc i) most low high =
    let rest = prefix_is p xs i (omega arith) (λ k d below. low (suc k) d (omega arith))
    (λ d within. high d (omega arith)) in
    let more : suc i ≡ 1 + prefix_len p xs = omega arith in
    more ∙ sym (ap (λ b. cond b (1 + prefix_len p xs) 0) (low 0 x (omega arith)))

pub count_by_parts : (n : ℤ) (bs : List (ℤ × HeldBlock)) (i : ℕ) → i ≤ length bs
    → IsPartitionPoint (λ b. int_lt b.0 n ≡ true) (λ b. int_lt b.0 n ≡ false) bs i → i ≡ count_before n bs
count_by_parts n bs i most point = prefix_is (λ b. int_lt b.0 n) bs i most
    (λ k d below. point.0 k d (omega arith) below) (λ d within. point.1 i d (omega arith) within)

-- the last block is before the number
count_all : (n : ℤ) (bs : List (ℤ × HeldBlock)) (last : ℤ × HeldBlock) → Ascend bs → 0 < length bs
    → last ≡ get_or bs (length bs - 1) last → int_cmp last.0 n ≡ Less → length bs ≡ count_before n bs
count_all n bs last up some is less = prefix_is (λ b. int_lt b.0 n) bs (length bs) (omega arith)
    (λ k d below. parted n bs up k (length bs - 1) d (omega arith) (omega arith)
    (before _ n (ap (λ (b : ℤ × HeldBlock). int_cmp b.0 n)
    (get_or_default bs (length bs - 1) d last (omega arith) ∙ sym is) ∙ less)))
    (λ d within. absurd (omega arith))
  where
    before : (a n : ℤ) → int_cmp a n ≡ Less → int_lt a n ≡ true
    before a n e = grind (arith, ints)

-- the newest block is before the number, or it isn't: then only older ones are
pub count_past : (n : ℤ) (older : List (ℤ × HeldBlock)) (newest : Option (ℤ × HeldBlock))
    → Ascend (older ++ option_to_list newest) → starts_before n (option_to_list newest) ≡ true
    → length older + 1 ≡ count_before n (older ++ option_to_list newest)
count_past n older None up before = absurd (true≢false (sym before))
count_past n older (Some b) up before =
    let size = length-append older (b ∷ []) in
    let last : length (older ++ b ∷ []) - 1 ≡ length older = omega (arith, size) in
    sym size ∙ count_all n (older ++ b ∷ []) b up (omega (arith, size))
    (sym (ap (λ i. get_or (older ++ b ∷ []) i b) last ∙ get_or-append_seam older b [] b)) (less b.0 n before)
  where
    less : (a n : ℤ) → int_lt a n ≡ true → int_cmp a n ≡ Less
    less a n low = grind (arith, ints)

pub count_older : (n : ℤ) (older : List (ℤ × HeldBlock)) (newest : Option (ℤ × HeldBlock))
    → starts_before n (option_to_list newest) ≡ false
    → count_before n older ≡ count_before n (older ++ option_to_list newest)
count_older n [] None after = refl
count_older n [] (Some b) after = sym (ap (λ c. cond c (1 + 0) 0) after)
count_older n (x ∷ older) newest after =
    ap (λ k. cond (int_lt x.0 n) (1 + k) 0) (count_older n older newest after)

below_prefix : (n : ℤ) (xs ys : List (ℤ × HeldBlock)) → IsBelow n (xs ++ ys) → IsBelow n xs
below_prefix n [] ys h = tt
below_prefix n (x ∷ xs) ys h = (h.0, below_prefix n xs ys h.1)

pub ascend_prefix : (xs ys : List (ℤ × HeldBlock)) → Ascend (xs ++ ys) → Ascend xs
unfolding IsStrictlySortedBy
ascend_prefix [] ys up = tt
ascend_prefix (x ∷ xs) ys up = (below_prefix x.0 xs ys up.0, ascend_prefix xs ys up.1)

pub ascend_rest : (bs : List (ℤ × HeldBlock)) → Ascend bs → Ascend (drop 1 bs)
unfolding IsStrictlySortedBy
ascend_rest [] up = tt
ascend_rest (b ∷ bs) up = up.1

-- ---- no block before a number

-- nor before a smaller one
pub begins_later : (d e : ℤ) (ns : List ℤ) → begins_before d ns ≡ false → int_lt d e ≡ false
    → begins_before e ns ≡ false
begins_later d e [] kept less = refl
begins_later d e (n ∷ ns) kept less = grind (arith, ints)

-- nor once the first has left
pub begins_rest : (d : ℤ) (bs : List (ℤ × HeldBlock)) → Ascend bs → begins_before d (keys_of bs) ≡ false
    → begins_before d (keys_of (drop 1 bs)) ≡ false
unfolding IsStrictlySortedBy
begins_rest d [] up kept = refl
begins_rest d (a ∷ []) up kept = refl
begins_rest d (a ∷ b ∷ bs) up kept = later a.0 b.0 up.0.0 kept
  where
    later : (m n : ℤ) → int_cmp m n ≡ Less → int_lt m d ≡ false → int_lt n d ≡ false
    later m n less kept = grind (arith, ints)

pub begins_prefix : (d : ℤ) (xs ys : List (ℤ × HeldBlock)) → begins_before d (keys_of (xs ++ ys)) ≡ false
    → begins_before d (keys_of xs) ≡ false
begins_prefix d [] ys kept = refl
begins_prefix d (x ∷ xs) ys kept = kept

-- the smaller of two numbers is up to each
pub min_left : (d n : ℤ) → int_lt d (int_min d n) ≡ false
min_left d n = grind (arith, ints)

pub min_right : (d n : ℤ) → int_lt n (int_min d n) ≡ false
min_right d n = grind (arith, ints)

count_within : (n : ℤ) (bs : List (ℤ × HeldBlock)) → count_before n bs ≤ length bs
count_within n [] = omega arith
count_within n (b ∷ bs) = elim (int_lt b.0 n) as (λ c. cond c (1 + count_before n bs) 0 ≤ length (b ∷ bs)) [
  | true ↦ let rest = count_within n bs in omega arith
  | false ↦ omega arith
]

gap_within : (bs : List (ℤ × HeldBlock)) (n : ℤ) (at : ℕ) → IsGapFor n bs at → at ≤ length bs
gap_within bs n at gap = let most = count_within n bs in let is = gap.1 in omega arith

-- ---- what is found

no_bits : (n k : ℤ) → int_lt k n ≡ true → is_at (int_cmp n) k ≡ false
no_bits n k low = grind (arith, ints)

below_by : (n k : ℤ) → int_lt k n ≡ false → (k ≡ n → ⊥) → int_cmp n k ≡ Less
below_by n k high apart = grind (arith, ints)

one_on : (i : ℕ) → 1 + i ≡ suc i
one_on i = omega arith

-- where the number isn't at its place, there is no block of it
no_block : (n : ℤ) (bs : List (ℤ × HeldBlock)) → Ascend bs → (slice_get (keys_of bs) (count_before n bs) ≡ Some n → ⊥)
    → block_at bs n ≡ None
unfolding IsStrictlySortedBy
no_block n [] up apart = refl
no_block n (b ∷ bs) up apart = elim (int_lt b.0 n) as
    (λ c. int_lt b.0 n ≡ c → (slice_get (keys_of (b ∷ bs)) (cond c (1 + count_before n bs) 0) ≡ Some n → ⊥)
    → block_at (b ∷ bs) n ≡ None) [
      | true ↦ λ low apart. ap (λ c. cond c (Some b.1) (block_at bs n)) (no_bits n b.0 low)
          ∙ no_block n bs up.1 (λ e. apart (ap (slice_get (keys_of (b ∷ bs))) (one_on (count_before n bs)) ∙ e))
      | false ↦ λ high apart. lookup-none (is_at (int_cmp n)) (b ∷ bs)
          (none_below_head int_cmp_total n b bs up (below_by n b.0 high (λ e. apart (ap Some e))))
    ] refl apart

pub place_within : (bs : List (ℤ × HeldBlock)) (n : ℤ) (at : ℕ) → IsPlaceOf n bs at → at < length bs
place_within [] n at place = absurd cc
place_within (b ∷ bs) n zero place = omega arith
place_within (b ∷ bs) n (suc at) place = let rest = place_within bs n at place in omega arith

-- there is no block of a number whose place is past the last, or has another number
pub gap_at : (bs : List (ℤ × HeldBlock)) (n : ℤ) (at : ℕ) → Ascend bs → at ≡ count_before n bs → (IsPlaceOf n bs at → ⊥)
    → IsGapFor n bs at
gap_at bs n at up is apart = (no_block n bs up (subst (λ i. IsPlaceOf n bs i → ⊥) is apart), is)

pub number_there : (bs : List (ℤ × HeldBlock)) (n : ℤ) (at : ℕ) (b : ℤ × HeldBlock) → b ≡ get_or bs at b
    → IsPlaceOf n bs at
    → b.0 ≡ n
number_there [] n at b is place = absurd cc
number_there (x ∷ bs) n zero b is place = let number : x.0 ≡ n = cc in ap (λ (z : ℤ × HeldBlock). z.0) is ∙ number
number_there (x ∷ bs) n (suc at) b is place = number_there bs n at b is place

-- the number of a pair that was read
place_here : (bs : List (ℤ × HeldBlock)) (at : ℕ) (b : ℤ × HeldBlock) → at < length bs → b ≡ get_or bs at b
    → IsPlaceOf b.0 bs at
place_here [] at b h is = absurd (omega arith)
place_here (x ∷ bs) zero b h is = ap (λ (z : ℤ × HeldBlock). Some z.0) (sym is)
place_here (x ∷ bs) (suc at) b h is = place_here bs at b (omega arith) is

-- the pair there, however it was read
pair_at : (bs : List (ℤ × HeldBlock)) (n : ℤ) (at : ℕ) (b : ℤ × HeldBlock) → IsPlaceOf n bs at → b ≡ get_or bs at b
    → slice_get bs at ≡ Some (n, b.1)
pair_at [] n at b place is = absurd cc
pair_at (x ∷ bs) n zero b place is = let number : x.0 ≡ n = cc in ap (λ (z : ℤ × HeldBlock). Some (z.0, z.1)) (sym is)
    ∙ ap (λ k. Some (k, b.1)) (ap (λ (z : ℤ × HeldBlock). z.0) is ∙ number)
pair_at (x ∷ bs) n (suc at) b place is = pair_at bs n at b place is

pub block_there : (bs : List (ℤ × HeldBlock)) (n : ℤ) (at : ℕ) (b : ℤ × HeldBlock) → Ascend bs → IsPlaceOf n bs at
    → b ≡ get_or bs at b → block_at bs n ≡ Some b.1
block_there bs n at b up place is = lookup_from_place (eq_by_cmp_equiv int_cmp_total) bs at n b.1
    (IsDistinct-from_sorted int_cmp (keys_of bs) up) (pair_at bs n at b place is)

-- ---- a block that is set

less_there : (m n : ℤ) (bs : List (ℤ × HeldBlock)) (at : ℕ) → IsBelow m bs → IsPlaceOf n bs at → int_cmp m n ≡ Less
less_there m n [] at h place = absurd cc
less_there m n (b ∷ bs) zero h place = let number : b.0 ≡ n = cc in ap (int_cmp m) (sym number) ∙ h.0
less_there m n (b ∷ bs) (suc at) h place = less_there m n bs at h.1 place

block_set : (bs : List (ℤ × HeldBlock)) (n : ℤ) (at : ℕ) (b : HeldBlock) → Ascend bs → IsPlaceOf n bs at
    → IsBlockSet n b bs (set bs at (n, b))
unfolding IsStrictlySortedBy
block_set [] n at b up place q = absurd cc
block_set (x ∷ bs) n zero b up place q =
    let number : x.0 ≡ n = cc in
    let swap = (eq_by_cmp_equiv int_cmp_total).symm q n in
    ap (λ c. cond c (Some b) (block_at bs q)) swap
    ∙ elim (is_at (int_cmp n) q) as (λ c. is_at (int_cmp n) q ≡ c
    → cond c (Some b) (block_at bs q) ≡ cond c (Some b) (cond (is_at (int_cmp q) x.0) (Some x.1) (block_at bs q))) [
      | true ↦ λ _. refl
      | false ↦ λ f. ap (λ c. cond c (Some x.1) (block_at bs q)) (sym (ap (λ k. is_at (int_cmp q) k) number ∙ swap ∙ f))
    ] refl
block_set (x ∷ bs) n (suc at) b up place q =
    let less = less_there x.0 n bs at up.0 place in
    ap (λ o. cond (is_at (int_cmp q) x.0) (Some x.1) o) (block_set bs n at b up.1 place q)
    ∙ elim (is_at (int_cmp q) x.0) as (λ c. is_at (int_cmp q) x.0 ≡ c
    → cond c (Some x.1) (cond (is_at (int_cmp n) q) (Some b) (block_at bs q))
    ≡ cond (is_at (int_cmp n) q) (Some b) (cond c (Some x.1) (block_at bs q))) [
      | true ↦ λ t. ap (λ c. cond c (Some b) (Some x.1)) (sym (other q x.0 n t less))
      | false ↦ λ _. refl
    ] refl
  where
    other : (q k n : ℤ) → is_at (int_cmp q) k ≡ true → int_cmp k n ≡ Less → is_at (int_cmp n) q ≡ false
    other q k n t less = grind (arith, ints)

numbers_stay : (bs : List (ℤ × HeldBlock)) (n : ℤ) (at : ℕ) (b : HeldBlock) → IsPlaceOf n bs at
    → keys_of (set bs at (n, b)) ≡ keys_of bs
numbers_stay [] n at b place = absurd cc
numbers_stay (x ∷ bs) n zero b place = let number : x.0 ≡ n = cc in ap (λ k. k ∷ keys_of bs) (sym number)
numbers_stay (x ∷ bs) n (suc at) b place = ap (λ ks. x.0 ∷ ks) (numbers_stay bs n at b place)

-- as the pair there is written, whose number was read
block_put : (bs : List (ℤ × HeldBlock)) (n : ℤ) (at : ℕ) (was : ℤ × HeldBlock) (b : HeldBlock) → Ascend bs
    → IsPlaceOf n bs at
    → was ≡ get_or bs at was → IsBlockSet n b bs (set bs at (was.0, b))
block_put bs n at was b up place is = subst (λ k. IsBlockSet n b bs (set bs at (k, b)))
    (sym (number_there bs n at was is place)) (block_set bs n at b up place)

ascend_put : (bs : List (ℤ × HeldBlock)) (n : ℤ) (at : ℕ) (was : ℤ × HeldBlock) (b : HeldBlock) → Ascend bs
    → IsPlaceOf n bs at
    → was ≡ get_or bs at was → Ascend (set bs at (was.0, b))
ascend_put bs n at was b up place is = subst (IsStrictlySortedBy int_cmp)
    (sym (ap (λ k. keys_of (set bs at (k, b))) (number_there bs n at was is place) ∙ numbers_stay bs n at b place)) up

-- ---- among the older blocks, or as the newest

-- the block of a number was there, and was set
pub record IsPut (n : ℤ) (was b : HeldBlock) (old new : List (ℤ × HeldBlock)) : Type 0 where
  pub has : block_at old n ≡ Some was
  pub sets : IsBlockSet n b old new
  pub ascend : Ascend new
  pub numbers : keys_of new ≡ keys_of old

put_at : (bs new : List (ℤ × HeldBlock)) (n : ℤ) (at : ℕ) (was : ℤ × HeldBlock) (b : HeldBlock) → Ascend bs
    → IsPlaceOf n bs at → was ≡ get_or bs at was → set bs at (was.0, b) ≡ new → IsPut n was.1 b bs new
put_at bs new n at was b up place is same = record {
  has = block_there bs n at was up place is;
  sets = subst (IsBlockSet n b bs) same (block_put bs n at was b up place is);
  ascend = subst Ascend same (ascend_put bs n at was b up place is);
  numbers = ap keys_of (sym same) ∙ ap (λ k. keys_of (set bs at (k, b))) (number_there bs n at was is place)
      ∙ numbers_stay bs n at b place;
}

pub older_put : (older rest : List (ℤ × HeldBlock)) (n : ℤ) (at : ℕ) (was : ℤ × HeldBlock) (b : HeldBlock)
    → Ascend (older ++ rest) → IsPlaceOf n (older ++ rest) at → at < length older → was ≡ get_or older at was
    → IsPut n was.1 b (older ++ rest) (set older at (was.0, b) ++ rest)
older_put older rest n at was b up place within is =
    put_at (older ++ rest) (set older at (was.0, b) ++ rest) n at was b up place
    (is ∙ sym (get_or_append_left older rest was at within)) (set-append_left older rest at (was.0, b) within)

-- as it was read
pub older_here : (older rest : List (ℤ × HeldBlock)) (at : ℕ) (was : ℤ × HeldBlock) (b : HeldBlock)
    → Ascend (older ++ rest) → at < length older → was ≡ get_or older at was
    → IsPut was.0 was.1 b (older ++ rest) (set older at (was.0, b) ++ rest)
older_here older rest at was b up within is =
    let size = length-append older rest in
    older_put older rest was.0 at was b up (place_here (older ++ rest) at was (omega (arith, size, within))
    (is ∙ sym (get_or_append_left older rest was at within))) within is

pub newest_put : (older : List (ℤ × HeldBlock)) (newest : Option (ℤ × HeldBlock)) (n : ℤ) (at : ℕ)
    (was : ℤ × HeldBlock) (b : HeldBlock) → newest ≡ Some was → Ascend (older ++ option_to_list newest)
    → IsPlaceOf n (older ++ option_to_list newest) at → length older ≤ at
    → IsPut n was.1 b (older ++ option_to_list newest) (older ++ (was.0, b) ∷ [])
newest_put older newest n at was b some up place past = subst
    (λ o. Ascend (older ++ option_to_list o) → IsPlaceOf n (older ++ option_to_list o) at
    → IsPut n was.1 b (older ++ option_to_list o) (older ++ (was.0, b) ∷ [])) (sym some) put up place
  where
    put : Ascend (older ++ was ∷ []) → IsPlaceOf n (older ++ was ∷ []) at
        → IsPut n was.1 b (older ++ was ∷ []) (older ++ (was.0, b) ∷ [])
    put up place =
        let size = length-append older (was ∷ []) in
        let within = place_within (older ++ was ∷ []) n at place in
        let last : at ≡ length older = omega (arith, size, within, past) in
        put_at (older ++ was ∷ []) (older ++ (was.0, b) ∷ []) n at was b up place
        (sym (ap (λ i. get_or (older ++ was ∷ []) i was) last ∙ get_or-append_seam older was [] was))
        (ap (λ i. set (older ++ was ∷ []) i (was.0, b)) last ∙ set-append_seam older was [] (was.0, b))

-- if there is no newest block, each place is one of the older ones
pub none_past : (older : List (ℤ × HeldBlock)) (newest : Option (ℤ × HeldBlock)) (n : ℤ) (at : ℕ) → newest ≡ None
    → IsPlaceOf n (older ++ option_to_list newest) at → length older ≤ at → ⊥
none_past older newest n at none place past =
    let size = length-append older [] in
    let within = place_within (older ++ []) n at (subst (λ o. IsPlaceOf n (older ++ option_to_list o) at) none place) in
    omega (arith, size, within, past)

-- ---- a block that is added

all_inserted : (P : ℤ → Type 0) (bs : List (ℤ × HeldBlock)) (i : ℕ) (n : ℤ) (b : HeldBlock)
    → AllByRecursion P (keys_of bs)
    → P n → AllByRecursion P (keys_of (insert bs i (n, b)))
all_inserted P bs zero n b h p = (p, h)
all_inserted P [] (suc i) n b h p = (p, h)
all_inserted P (x ∷ bs) (suc i) n b h p = (h.0, all_inserted P bs i n b h.1 p)

below_all : (m n : ℤ) (bs : List (ℤ × HeldBlock)) → int_cmp m n ≡ Less → IsBelow n bs → IsBelow m bs
below_all m n [] less h = tt
below_all m n (b ∷ bs) less h = (both m n b.0 less h.0, below_all m n bs less h.1)
  where
    both : (a b c : ℤ) → int_cmp a b ≡ Less → int_cmp b c ≡ Less → int_cmp a c ≡ Less
    both a b c p q = grind (arith, ints)

ascend_with : (n : ℤ) (b : HeldBlock) (bs : List (ℤ × HeldBlock)) → Ascend bs → block_at bs n ≡ None
    → Ascend (insert bs (count_before n bs) (n, b))
unfolding IsStrictlySortedBy
ascend_with n b [] up none = (tt, tt)
ascend_with n b (x ∷ bs) up none = elim (int_lt x.0 n) as
    (λ c. int_lt x.0 n ≡ c → Ascend (insert (x ∷ bs) (cond c (1 + count_before n bs) 0) (n, b))) [
      | true ↦ λ low.
          let rest : block_at bs n ≡ None = sym (ap (λ c. cond c (Some x.1) (block_at bs n)) (no_bits n x.0 low))
          ∙ none in
          subst (λ i. Ascend (insert (x ∷ bs) i (n, b))) (sym (one_on (count_before n bs))) (
            all_inserted (λ k. int_cmp x.0 k ≡ Less) bs (count_before n bs) n b up.0 (less x.0 n low),
            ascend_with n b bs up.1 rest,
          )
      | false ↦ λ high.
          let first = below_by n x.0 high (λ e. absurd (not_there e)) in
          ((first, below_all n x.0 bs first up.0), up)
    ] refl
  where
    less : (k n : ℤ) → int_lt k n ≡ true → int_cmp k n ≡ Less
    less k n low = grind (arith, ints)

    itself : (n : ℤ) → is_at (int_cmp n) n ≡ true
    itself n = grind (arith, ints)

    not_there : x.0 ≡ n → ⊥
    not_there e =
        let found : block_at (x ∷ bs) n ≡ Some x.1 =
        ap (λ c. cond c (Some x.1) (block_at bs n)) (ap (is_at (int_cmp n)) e ∙ itself n) in
        absurd cc

inserted_there : (bs : List (ℤ × HeldBlock)) (n : ℤ) (at : ℕ) (b : HeldBlock) → at ≤ length bs
    → IsPlaceOf n (insert bs at (n, b)) at
inserted_there bs n zero b h = refl
inserted_there [] n (suc at) b h = absurd (omega arith)
inserted_there (x ∷ bs) n (suc at) b h = inserted_there bs n at b (omega arith)

-- no block is before a number to which one is added that isn't either
begins_with : (d n : ℤ) (at : ℕ) (b : HeldBlock) (bs : List (ℤ × HeldBlock)) → begins_before d (keys_of bs) ≡ false
    → int_lt n d ≡ false → begins_before d (keys_of (insert bs at (n, b))) ≡ false
begins_with d n zero b bs kept fits = fits
begins_with d n (suc at) b [] kept fits = fits
begins_with d n (suc at) b (x ∷ bs) kept fits = kept

-- a block was added, at a place
pub record IsAdded (n : ℤ) (at : ℕ) (b : HeldBlock) (old new : List (ℤ × HeldBlock)) : Type 0 where
  pub sets : IsBlockSet n b old new
  pub place : IsPlaceOf n new at
  pub ascend : Ascend new
  pub none_before : (d : ℤ) → begins_before d (keys_of old) ≡ false → int_lt n d ≡ false
      → begins_before d (keys_of new) ≡ false

added_at : (bs new : List (ℤ × HeldBlock)) (n : ℤ) (at : ℕ) (b : HeldBlock) → Ascend bs → IsGapFor n bs at
    → insert bs at (n, b) ≡ new → IsAdded n at b bs new
added_at bs new n at b up gap same = record {
  place = subst (λ l. IsPlaceOf n l at) same (inserted_there bs n at b (gap_within bs n at gap));
  sets = λ q. ap (λ l. block_at l q) (sym same) ∙ lookup-insert (eq_by_cmp_equiv int_cmp_total) n b q bs at
      (none_passes_from_lookup (is_at (int_cmp n)) bs gap.0);
  ascend = subst Ascend (ap (λ i. insert bs i (n, b)) (sym gap.1) ∙ same) (ascend_with n b bs up gap.0);
  none_before = λ d kept fits. subst (λ l. begins_before d (keys_of l) ≡ false) same
      (begins_with d n at b bs kept fits);
}

-- before the newest, and as the newest
pub older_added : (older : List (ℤ × HeldBlock)) (newest : Option (ℤ × HeldBlock)) (n : ℤ) (at : ℕ) (b : HeldBlock)
    → Ascend (older ++ option_to_list newest) → IsGapFor n (older ++ option_to_list newest) at
    → at < length (older ++ option_to_list newest)
    → IsAdded n at b (older ++ option_to_list newest) (insert older at (n, b) ++ option_to_list newest)
older_added older newest n at b up gap before =
    added_at (older ++ option_to_list newest) (insert older at (n, b) ++ option_to_list newest) n at b up gap
    (insert-append_left older (option_to_list newest) at (n, b) (within newest before))
  where
    within : (o : Option (ℤ × HeldBlock)) → at < length (older ++ option_to_list o) → at ≤ length older
    within None h = let size = length-append older [] in omega (arith, size, h)
    within (Some x) h = let size = length-append older (x ∷ []) in omega (arith, size, h)

insert_last : (bs : List (ℤ × HeldBlock)) (b : ℤ × HeldBlock) → insert bs (length bs) b ≡ bs ++ b ∷ []
insert_last [] b = refl
insert_last (x ∷ bs) b = ap (λ l. x ∷ l) (insert_last bs b)

pub newest_added : (bs : List (ℤ × HeldBlock)) (n : ℤ) (at : ℕ) (b : HeldBlock) → Ascend bs → IsGapFor n bs at
    → length bs ≤ at → IsAdded n at b bs (bs ++ (n, b) ∷ [])
newest_added bs n at b up gap past =
    let within = gap_within bs n at gap in
    let last : at ≡ length bs = omega (arith, within, past) in
    added_at bs (bs ++ (n, b) ∷ []) n at b up gap (ap (λ i. insert bs i (n, b)) last ∙ insert_last bs (n, b))
