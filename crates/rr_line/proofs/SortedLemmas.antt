-- Keys in order: one occurs twice where they do not rise.
use Rattle.std.proofs.Common.{◌≡◌, ℕ, suc, ◌+◌, ◌<◌, ◌≤◌, Bool, true, false, not, List, [], ◌∷◌, ◌++◌, length, map, set, take, get_or, refl, sym, ap, subst, ◌∙◌, inl, inr, arith}
use Rattle.std.proofs.lemmas.Bool.{cases_Bool, and_parts, false≢true}
use Rattle.std.proofs.lemmas.Cmp.{nat_list_cmp_total}
use Rattle.std.proofs.lemmas.List.{map_more, map-append}
use Rattle.std.proofs.Math.Seq.{take-suc-set}
use Rattle.std.proofs.lemmas.List.Sorted.{IsPermutation-map, IsPermutation-sym}
use Rattle.std.specs.Borrow.{Bor}
use Rattle.std.specs.List.Sorted.{IsPermutation, IsSortedBy}
use Rattle.std.specs.Ordering.{is_lt, is_eq, ordering_reverse}
use Rattle.std.specs.declared.cmp.Ordering.{Ordering}
use Rattle.std.specs.declared.cmp.Ordering.TheVariants.{Less, Equal, Greater}
use Rattle.rr_text.proofs.RepeatLemmas.{or_true, has_repeat-IsPermutation}
use Rattle.rr_text.specs.Bytes.{bytes_cmp, has_repeat, is_among}
use Rattle.rr_text.specs.declared.limits.TheConstants.{MAX_FIELDS}
use Rattle.rr_line.specs.Gathering.{is_below, rise}

less : (o : Ordering) → is_lt o ≡ true → o ≡ Less
less Less e = refl
less Equal e = absurd cc
less Greater e = absurd cc

less_differs : (o : Ordering) → is_lt o ≡ true → is_eq (ordering_reverse o) ≡ false
less_differs Less e = refl
less_differs Equal e = absurd cc
less_differs Greater e = absurd cc

-- neither below the other
level : (o : Ordering) → is_lt o ≡ false → is_lt (ordering_reverse o) ≡ false → is_eq o ≡ true
level Less a b = absurd cc
level Equal a b = refl
level Greater a b = absurd cc

-- a name is below all that rise from one above it
below_next : (name other : List ℕ) (names : List (List ℕ)) → is_lt (bytes_cmp name other) ≡ true
    → is_below other names ≡ true → is_below name names ≡ true
below_next name other [] low high = refl
below_next name other (next ∷ names) low high = ap is_lt
    (nat_list_cmp_total.trans name other next (less _ low) (less _ high))

differs : (name : List ℕ) (names : List (List ℕ)) → is_below name names ≡ true → rise names ≡ true
    → is_among name names ≡ false
differs name [] low up = refl
differs name (other ∷ names) low up =
    let parts = and_parts (is_below other names) (rise names) up in
    let apart : is_eq (bytes_cmp other name) ≡ false = ap is_eq (nat_list_cmp_total.antisymm other name)
    ∙ less_differs (bytes_cmp name other) low in
    rw (apart, differs name names (below_next name other names low parts.0) parts.1) refl

once_risen : (names : List (List ℕ)) → rise names ≡ true → has_repeat names ≡ false
once_risen [] up = refl
once_risen (name ∷ names) up =
    let parts = and_parts (is_below name names) (rise names) up in
    rw (differs name names parts.0 parts.1, once_risen names parts.1) refl

-- keys as slices, and their bytes
abbrev Key : Type 0
Key = Bor (List ℕ)

abbrev names_of : List Key → List (List ℕ)
names_of keys = map (λ key. key.now) keys

abbrev keys_lt : Key → Key → Bool
keys_lt x y = is_lt (bytes_cmp x.now y.now)

sorted_tail : (x : Key) (xs : List Key) → IsSortedBy keys_lt (x ∷ xs) → IsSortedBy keys_lt xs
sorted_tail x xs h k d low high =
    let n : suc k + 1 ≡ suc (k + 1) = omega arith in
    subst (λ (j : ℕ). keys_lt (get_or (x ∷ xs) j d) (get_or xs k d) ≡ false) n (h (suc k) d (omega arith) (omega arith))

twice_unless_risen : (keys : List Key) → IsSortedBy keys_lt keys → rise (names_of keys) ≡ false
    → has_repeat (names_of keys) ≡ true
twice_unless_risen [] h down = absurd cc
twice_unless_risen (x ∷ []) h down = absurd cc
twice_unless_risen (x ∷ y ∷ keys) h down =
    elim (cases_Bool (is_lt (bytes_cmp x.now y.now))) [
      | inl low ↦
          let later = twice_unless_risen (y ∷ keys) (sorted_tail x (y ∷ keys) h) (rw low at down) in
          rw later (or_true (is_among x.now (names_of (y ∷ keys))))
      | inr high ↦
          let turned = nat_list_cmp_total.antisymm x.now y.now in
          let same = level (bytes_cmp y.now x.now) (h 0 x (omega arith) (omega arith)) (ap is_lt (sym turned) ∙ high) in
          rw same refl
    ]

-- keys in another order have a repeat where these have one
moved : (keys others : List Key) → IsPermutation keys others → has_repeat (names_of keys) ≡ false
    → has_repeat (names_of others) ≡ false
moved keys others p h = has_repeat-IsPermutation (names_of keys) (names_of others)
    (IsPermutation-map (λ (key : Key). key.now) keys others p) h

-- a key occurs twice exactly where sorted keys do not rise
pub repeats_by_sort : (keys sorted : List Key) (risen : Bool) → IsPermutation keys sorted → IsSortedBy keys_lt sorted
    → risen ≡ rise (names_of sorted) → not risen ≡ has_repeat (names_of keys)
repeats_by_sort keys sorted true p h e = sym (moved sorted keys (IsPermutation-sym keys sorted p)
    (once_risen (names_of sorted) (sym e)))
repeats_by_sort keys sorted false p h e =
    elim (cases_Bool (has_repeat (names_of keys))) [
      | inl twice ↦ sym twice
      | inr once ↦ absurd (false≢true (sym (moved keys sorted p once) ∙ twice_unless_risen sorted h (sym e)))
    ]

-- one key more in prefix
pub one_key_more : {X : Type 0} (key_of : X → List ℕ) (keys : List Key) (entries : List X) (count i : ℕ) (item : X)
    (key : Key) → length keys ≡ MAX_FIELDS → length entries ≤ MAX_FIELDS → count ≡ i → i < length entries
    → item ≡ get_or entries i item → key.now ≡ key_of item
    → map (λ (key : Key). key.now) (take count keys) ≡ map key_of (take i entries)
    → map (λ (key : Key). key.now) (take (count + 1) (set keys count key)) ≡ map key_of (take (i + 1) entries)
one_key_more key_of keys entries count i item key long few counted lt is key_is prefix =
    let view : Key → List ℕ = λ key. key.now in
    let room : count < length keys = omega (arith, long, few, counted, lt) in
    let n : count + 1 ≡ suc count = omega arith in
    ap (λ (k : ℕ). map view (take k (set keys count key))) n
    ∙ ap (map view) (take-suc-set keys count key room)
    ∙ map-append view (take count keys) (key ∷ [])
    ∙ ap (λ (names : List (List ℕ)). names ++ key.now ∷ []) prefix
    ∙ ap (λ (name : List ℕ). map key_of (take i entries) ++ name ∷ []) (key_is ∙ ap key_of is)
    ∙ sym (map_more key_of entries i item lt)
