-- Items that are found by counting bits: read, added, taken out and set.
use Rattle.std.proofs.Common.{◌≡◌, ℕ, zero, suc, ◌+◌, ◌<◌, ◌≤◌, true, false, cond, eqb, List, [], ◌∷◌, length, set, insert, remove, refl, sym, ap, ◌∙◌, Option, Some, None, is_some, true≢false, arith, ⊎_elim, ◌⊎◌}
use Rattle.std.specs.Prelude.{slice_get}
use Rattle.std.specs.Option.{option_and_then}
use Rattle.std.specs.Int.{bit_at}
use Rattle.std.proofs.lemmas.Bool.{cases_order, cases_lt, cases_eq, eq-eqb, ne_eqb}
use Rattle.std.proofs.lemmas.Nat.Bits.{bit_at-lt}
use Rattle.rr_archive.proofs.Lists.{get_set}
use Rattle.rr_packed.specs.Sparse.{rank, place_at, item_at}
use Rattle.rr_packed.proofs.RankLemmas.{HasOneMore, rank_below, rank_le, rank_lt, rank_past}

-- ---- lists, with an item more or less

get_insert_here : {X : Type 0} (xs : List X) (i : ℕ) (x : X) → i ≤ length xs → slice_get (insert xs i x) i ≡ Some x
get_insert_here [] zero x h = refl
get_insert_here [] (suc i) x h = absurd (omega arith)
get_insert_here (y ∷ ys) zero x h = refl
get_insert_here (y ∷ ys) (suc i) x h = get_insert_here ys i x (omega arith)

get_insert_below : {X : Type 0} (xs : List X) (i k : ℕ) (x : X) → k < i → i ≤ length xs
    → slice_get (insert xs i x) k ≡ slice_get xs k
get_insert_below xs zero k x low h = absurd (omega arith)
get_insert_below [] (suc i) k x low h = absurd (omega arith)
get_insert_below (y ∷ ys) (suc i) zero x low h = refl
get_insert_below (y ∷ ys) (suc i) (suc k) x low h = get_insert_below ys i k x (omega arith) (omega arith)

get_insert_above : {X : Type 0} (xs : List X) (i k : ℕ) (x : X) → i ≤ k → i ≤ length xs
    → slice_get (insert xs i x) (suc k) ≡ slice_get xs k
get_insert_above [] zero k x low h = refl
get_insert_above [] (suc i) k x low h = absurd (omega arith)
get_insert_above (y ∷ ys) zero k x low h = refl
get_insert_above (y ∷ ys) (suc i) zero x low h = absurd (omega arith)
get_insert_above (y ∷ ys) (suc i) (suc k) x low h = get_insert_above ys i k x (omega arith) (omega arith)

get_remove_below : {X : Type 0} (xs : List X) (i k : ℕ) → k < i → i < length xs
    → slice_get (remove xs i) k ≡ slice_get xs k
get_remove_below xs zero k low h = absurd (omega arith)
get_remove_below [] (suc i) k low h = absurd (omega arith)
get_remove_below (y ∷ ys) (suc i) zero low h = refl
get_remove_below (y ∷ ys) (suc i) (suc k) low h = get_remove_below ys i k (omega arith) (omega arith)

get_remove_above : {X : Type 0} (xs : List X) (i k : ℕ) → i ≤ k → i < length xs
    → slice_get (remove xs i) k ≡ slice_get xs (suc k)
get_remove_above [] i k low h = absurd (omega arith)
get_remove_above (y ∷ []) zero k low h = refl
get_remove_above (y ∷ z ∷ zs) zero k low h = refl
get_remove_above (y ∷ ys) (suc i) zero low h = absurd (omega arith)
get_remove_above (y ∷ ys) (suc i) (suc k) low h = get_remove_above ys i k (omega arith) (omega arith)

pub get_there : {X : Type 0} (xs : List X) (i : ℕ) → i < length xs → is_some (slice_get xs i) ≡ true
get_there [] i h = absurd (omega arith)
get_there (x ∷ xs) zero h = refl
get_there (x ∷ xs) (suc i) h = get_there xs i (omega arith)

pub none_from : {X : Type 0} (o : Option X) → is_some o ≡ false → o ≡ None
none_from None e = refl
none_from (Some x) e = absurd (true≢false e)

pub empty_of : {X : Type 0} (xs : List X) → length xs ≡ 0 → xs ≡ []
empty_of [] e = refl
empty_of (x ∷ xs) e = absurd (omega arith)

-- ---- what is read

abbrev read : {X : Type 0} → ℕ → List X → ℕ → Option X
read bit items at = option_and_then (slice_get items) (cond (eqb bit 1) (Some at) None)

item_is : {X : Type 0} (mask : ℕ) (xs : List X) (n : ℕ) → item_at mask xs n ≡ read (bit_at mask n) xs (rank mask n)
unfolding item_at
item_is mask xs n = refl

read_set : {X : Type 0} (xs : List X) (at : ℕ) → read 1 xs at ≡ slice_get xs at
read_set xs at = refl

-- what is read alike where the bit is set
read_alike : {X : Type 0} (bit : ℕ) (xs ys : List X) (i j : ℕ) → bit < 2 → (bit ≡ 1 → slice_get xs i ≡ slice_get ys j)
    → read bit xs i ≡ read bit ys j
read_alike zero xs ys i j small same = refl
read_alike (suc zero) xs ys i j small same = same refl
read_alike (suc (suc b)) xs ys i j small same = absurd (omega arith)

pub item_none : {X : Type 0} (mask : ℕ) (xs : List X) (n : ℕ) → place_at mask n ≡ None → item_at mask xs n ≡ None
unfolding item_at
item_none mask xs n none = ap (option_and_then (slice_get xs)) none

pub item_empty : {X : Type 0} (mask n : ℕ) → item_at {T = X} mask [] n ≡ None
unfolding item_at
item_empty {X} mask n = elim (eqb (bit_at mask n) 1) as
    (λ b. option_and_then {U = X} (slice_get []) (cond b (Some (rank mask n)) None) ≡ None)
    [ true ↦ refl | false ↦ refl ]

pub item_found : {X : Type 0} (mask : ℕ) (xs : List X) (n at : ℕ) → Some at ≡ place_at mask n
    → item_at mask xs n ≡ slice_get xs at
unfolding item_at
item_found mask xs n at is = sym (ap (option_and_then (slice_get xs)) is)

-- the place of a number tells its bit and its rank
pub place_tells : (mask n at : ℕ) → Some at ≡ place_at mask n → (bit_at mask n ≡ 1) × (at ≡ rank mask n)
place_tells mask n at is = by_bit (bit_at mask n) (bit_at-lt mask n) is
  where
    by_bit : (b : ℕ) → b < 2 → Some at ≡ cond (eqb b 1) (Some (rank mask n)) None → (b ≡ 1) × (at ≡ rank mask n)
    by_bit zero small e = absurd cc
    by_bit (suc zero) small e = (refl, cc)
    by_bit (suc (suc b)) small e = absurd (omega arith)

pub place_none : (mask n : ℕ) → bit_at mask n ≡ 0 → place_at mask n ≡ None
place_none mask n e = ap (λ b. cond (eqb b 1) (Some (rank mask n)) None) e

pub place_set : (mask n : ℕ) → bit_at mask n ≡ 1 → place_at mask n ≡ Some (rank mask n)
place_set mask n e = ap (λ b. cond (eqb b 1) (Some (rank mask n)) None) e

pub none_tells : (mask n : ℕ) → place_at mask n ≡ None → bit_at mask n ≡ 0
none_tells mask n is = by_bit (bit_at mask n) (bit_at-lt mask n) is
  where
    by_bit : (b : ℕ) → b < 2 → cond (eqb b 1) (Some (rank mask n)) None ≡ None → b ≡ 0
    by_bit zero small e = refl
    by_bit (suc zero) small e = absurd cc
    by_bit (suc (suc b)) small e = absurd (omega arith)

abbrev at_number : {X : Type 0} → ℕ → ℕ → Option X → Option X → Option X
at_number n k x y = cond (eqb n k) x y

here : {X : Type 0} (n k : ℕ) (x y : Option X) → n ≡ k → x ≡ at_number n k x y
here n k x y e = ap (λ b. cond b x y) (sym (eq-eqb n k e))

elsewhere : {X : Type 0} (n k : ℕ) (x y : Option X) → (n ≡ k → ⊥) → y ≡ at_number n k x y
elsewhere n k x y e = ap (λ b. cond b x y) (sym (ne_eqb n k e))

-- of a number that has no item none is taken out
pub item_absent : {X : Type 0} (mask : ℕ) (xs : List X) (k : ℕ) → place_at mask k ≡ None → (n : ℕ)
    → item_at mask xs n ≡ cond (eqb n k) None (item_at mask xs n)
item_absent mask xs k none n = ⊎_elim
    (λ (e : n ≡ k). ap (item_at mask xs) e ∙ item_none mask xs k none ∙ here n k None (item_at mask xs n) e)
    (λ apart. elsewhere n k None (item_at mask xs n) apart)
    (cases_eq n k)

pub item_insert : {X : Type 0} (old new : ℕ) (xs : List X) (k : ℕ) (x : X) → HasOneMore old new k
    → rank old k ≤ length xs → (n : ℕ) → item_at new (insert xs (rank old k) x) n
    ≡ cond (eqb n k) (Some x) (item_at old xs n)
item_insert old new xs k x m fits n =
    let ys = insert xs (rank old k) x in
    item_is new ys n
    ∙ ⊎_elim
    (λ (e : n ≡ k).
    (λ i. read (bit_at new (e i)) ys (rank new (e i)))
    ∙ (λ i. read (m.now i) ys (rank_below old new k m k (omega arith) i))
    ∙ get_insert_here xs (rank old k) x fits
    ∙ here n k (Some x) (item_at old xs n) e)
    (λ apart. ⊎_elim
    (λ (low : n < k).
    (λ i. read (m.others n (λ e. absurd (omega arith)) i) ys (rank_below old new k m n (omega arith) i))
    ∙ read_alike (bit_at old n) ys xs (rank old n) (rank old n) (bit_at-lt old n)
    (λ has. get_insert_below xs (rank old k) (rank old n) x (rank_lt old n k low has) fits)
    ∙ sym (item_is old xs n)
    ∙ elsewhere n k (Some x) (item_at old xs n) (λ e. absurd (omega arith)))
    (λ (high : k < n).
    (λ i. read (m.others n (λ e. absurd (omega arith)) i) ys ((rank_past old new k m n high ∙ one_more (rank old n)) i))
    ∙ read_alike (bit_at old n) ys xs (suc (rank old n)) (rank old n) (bit_at-lt old n)
    (λ has. get_insert_above xs (rank old k) (rank old n) x (rank_le old k n (omega arith)) fits)
    ∙ sym (item_is old xs n)
    ∙ elsewhere n k (Some x) (item_at old xs n) (λ e. absurd (omega arith)))
    apart)
    (cases_order n k)
  where
    one_more : (a : ℕ) → a + 1 ≡ suc a
    one_more a = omega arith

-- the bit of k is taken out of the new mask, which is the first of the two here
pub item_remove : {X : Type 0} (left old : ℕ) (xs : List X) (k : ℕ) → HasOneMore left old k → rank old k < length xs
    → (n : ℕ) → item_at left (remove xs (rank old k)) n ≡ cond (eqb n k) None (item_at old xs n)
item_remove left old xs k m fits n =
    let ys = remove xs (rank old k) in
    item_is left ys n
    ∙ ⊎_elim
    (λ (e : n ≡ k).
    (λ i. read (bit_at left (e i)) ys (rank left (e i)))
    ∙ (λ i. read (m.was i) ys (rank left k))
    ∙ here n k None (item_at old xs n) e)
    (λ apart. ⊎_elim
    (λ (low : n < k).
    (λ i. read (sym (m.others n (λ e. absurd (omega arith))) i) ys (sym (rank_below left old k m n (omega arith)) i))
    ∙ read_alike (bit_at old n) ys xs (rank old n) (rank old n) (bit_at-lt old n)
    (λ has. get_remove_below xs (rank old k) (rank old n) (rank_lt old n k low has) fits)
    ∙ sym (item_is old xs n)
    ∙ elsewhere n k None (item_at old xs n) (λ e. absurd (omega arith)))
    (λ (high : k < n).
    (λ i. read (sym (m.others n (λ e. absurd (omega arith))) i) ys (rank left n))
    ∙ read_alike (bit_at old n) ys xs (rank left n) (rank old n) (bit_at-lt old n) (λ has.
    get_remove_above xs (rank old k) (rank left n) (before n high) fits
    ∙ ap (slice_get xs) (sym (rank_past left old k m n high ∙ one_more (rank left n))))
    ∙ sym (item_is old xs n)
    ∙ elsewhere n k None (item_at old xs n) (λ e. absurd (omega arith)))
    apart)
    (cases_order n k)
  where
    one_more : (a : ℕ) → a + 1 ≡ suc a
    one_more a = omega arith

    before : (n : ℕ) → k < n → rank old k ≤ rank left n
    before n high =
        let a = rank_lt old k n high m.now in
        let b = rank_past left old k m n high in
        omega arith

pub item_set : {X : Type 0} (mask : ℕ) (xs : List X) (k : ℕ) (x : X) → bit_at mask k ≡ 1 → rank mask k < length xs
    → (n : ℕ) → item_at mask (set xs (rank mask k) x) n ≡ cond (eqb n k) (Some x) (item_at mask xs n)
item_set mask xs k x has fits n =
    let ys = set xs (rank mask k) x in
    item_is mask ys n
    ∙ ⊎_elim
    (λ (e : n ≡ k).
    (λ i. read (bit_at mask (e i)) ys (rank mask (e i)))
    ∙ (λ i. read (has i) ys (rank mask k))
    ∙ get_set xs (rank mask k) (rank mask k) x fits
    ∙ sym (here (rank mask k) (rank mask k) (Some x) (slice_get xs (rank mask k)) refl)
    ∙ here n k (Some x) (item_at mask xs n) e)
    (λ apart.
    read_alike (bit_at mask n) ys xs (rank mask n) (rank mask n) (bit_at-lt mask n) (λ has_n.
    get_set xs (rank mask k) (rank mask n) x fits
    ∙ sym (elsewhere (rank mask k) (rank mask n) (Some x) (slice_get xs (rank mask n)) (distinct has_n apart)))
    ∙ sym (item_is mask xs n)
    ∙ elsewhere n k (Some x) (item_at mask xs n) (⊎_elim (λ (l : n < k). λ e. absurd (omega arith))
    (λ (g : k < n). λ e. absurd (omega arith)) apart))
    (cases_order n k)
  where
    distinct : bit_at mask n ≡ 1 → (n < k) ⊎ (k < n) → rank mask k ≡ rank mask n → ⊥
    distinct has_n apart e = ⊎_elim
        (λ (l : n < k). let a = rank_lt mask n k l has_n in absurd (omega arith))
        (λ (g : k < n). let a = rank_lt mask k n g has in absurd (omega arith))
        apart

-- how many items a number has is its bit
abbrev pub one_of : {X : Type 0} → Option X → ℕ
one_of None = 0
one_of (Some x) = 1

pub item_bit : {X : Type 0} (mask : ℕ) (xs : List X) (n : ℕ) → (bit_at mask n ≡ 1 → rank mask n < length xs)
    → one_of (item_at mask xs n) ≡ bit_at mask n
item_bit {X} mask xs n within = ⊎_elim
    (λ (clear : bit_at mask n < 1).
    let none : bit_at mask n ≡ 0 = omega arith in
    ap one_of (item_none mask xs n (place_none mask n none)) ∙ sym none)
    (λ (set : 1 ≤ bit_at mask n).
    let small = bit_at-lt mask n in
    let has : bit_at mask n ≡ 1 = omega arith in
    ap one_of (item_found mask xs n (rank mask n) (sym (place_set mask n has)))
    ∙ one_there (slice_get xs (rank mask n)) (get_there xs (rank mask n) (within has)) ∙ sym has)
    (cases_lt (bit_at mask n) 1)
  where
    one_there : (o : Option X) → is_some o ≡ true → one_of o ≡ 1
    one_there None e = absurd (true≢false (sym e))
    one_there (Some x) e = refl
