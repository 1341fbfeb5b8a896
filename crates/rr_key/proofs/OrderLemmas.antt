-- Tags in the order of their keys.
use Rattle.std.proofs.Common.{◌≡◌, ℕ, suc, ◌+◌, Bool, true, false, cond, ◌||◌, List, [], ◌∷◌, length, map, get_or, Option, None, Some, refl, sym, ap, ◌∙◌, arith, inl, inr, subst}
use Rattle.std.specs.Borrow.{Bor}
use Rattle.std.specs.List.Sorted.{IsPermutation, IsSortedBy}
use Rattle.std.specs.Map.{keys_of, lookup}
use Rattle.std.specs.Ordering.{is_lt, is_eq, eq_by_cmp, ordering_then, ordering_reverse}
use Rattle.std.specs.declared.cmp.Ordering.{Ordering}
use Rattle.std.specs.declared.cmp.Ordering.TheVariants.{Less, Equal, Greater}
use Rattle.std.specs.FinMap.{FinMap, entries, from_entries, entries_sorted, get-entries, get-from_entries, nat_cmp-IsAntisymmetric, slice_cmp-IsAntisymmetric, IsAntisymmetric, find}
use Rattle.std.specs.FinMap.Entries.{same_entries, below_all}
use Rattle.std.proofs.lemmas.Bool.{cases_Bool, false≢true}
use Rattle.std.proofs.lemmas.Cmp.{nat_list_cmp_total, eq_by_cmp_equiv}
use Rattle.std.proofs.lemmas.List.{length-map}
use Rattle.std.proofs.lemmas.List.Sorted.{IsPermutation-map, IsPermutation-sym, Contains-permutation, list_any-IsPermutation}
use Rattle.std.proofs.lemmas.Map.Views.{Contains-from_lookup, lookup-from_Contains}
use Rattle.rr_text.specs.Bytes.{bytes_cmp, is_among, has_repeat}
use Rattle.rr_text.proofs.RepeatLemmas.{IsDistinct-has_repeat, differ_turned}
use Rattle.rr_text.proofs.RepeatLemmas as repeats
use Rattle.rr_key.specs.Making.{any_tag, tags_of}
use Rattle.rr_key.specs.Name.{is_empty}
use Rattle.rr_key.specs.Reading.{rises}
use Rattle.rr_key.proofs.EscapeLemmas.{both_true}
use Rattle.rr_key.proofs.KeyTextLemmas.{below_all_rises, is_sorted-rises, true_test}
use Rattle.rr_key.proofs.NameLemmas.{or_false}

abbrev pub Tag : Type 0
Tag = List ℕ × List ℕ

-- a tag as it is handed in
abbrev pub Slices : Type 0
Slices = Bor (List ℕ) × Bor (List ℕ)

pub tags_move : (tags others : List Slices) → IsPermutation tags others → IsPermutation (tags_of tags) (tags_of others)
tags_move tags others p = IsPermutation-map (λ (tag : Slices). (tag.0.now, tag.1.now)) tags others p

pub length-tags_of : (tags : List Slices) → length (tags_of tags) ≡ length tags
length-tags_of tags = length-map tags (λ (tag : Slices). (tag.0.now, tag.1.now))

-- the keys of tags that are slices
pub keys_of_slices : (tags : List Slices) → keys_of (tags_of tags) ≡ map (λ (tag : Slices). tag.0.now) tags
keys_of_slices [] = refl
keys_of_slices (tag ∷ tags) = ap (λ (keys : List (List ℕ)). tag.0.now ∷ keys) (keys_of_slices tags)

pub same_key : IsAntisymmetric bytes_cmp
same_key = slice_cmp-IsAntisymmetric nat_cmp-IsAntisymmetric

-- no key of tags in another order occurs twice
pub has_repeat-IsPermutation : (tags others : List Tag) → IsPermutation tags others → has_repeat (keys_of tags) ≡ false
    → has_repeat (keys_of others) ≡ false
has_repeat-IsPermutation tags others p h =
    repeats.has_repeat-IsPermutation (keys_of tags) (keys_of others)
    (IsPermutation-map (λ (tag : Tag). tag.0) tags others p) h

-- a look-up in tags that differ finds what is among them
find_lookup : (tags : List Tag) (q : List ℕ) → find bytes_cmp q tags ≡ lookup (eq_by_cmp bytes_cmp q) tags
find_lookup [] q = refl
find_lookup (tag ∷ tags) q = ap (cond (eq_by_cmp bytes_cmp q tag.0) (Some tag.1)) (find_lookup tags q)

equal : (o : Ordering) → is_eq o ≡ true → o ≡ Equal
equal Less e = absurd cc
equal Equal e = refl
equal Greater e = absurd cc

found_in_both : (tags others : List Tag) → IsPermutation tags others → has_repeat (keys_of others) ≡ false
    → (q v : List ℕ) → lookup (eq_by_cmp bytes_cmp q) tags ≡ Some v → lookup (eq_by_cmp bytes_cmp q) others ≡ Some v
found_in_both tags others p h q v e =
    lookup-from_Contains (eq_by_cmp_equiv nat_list_cmp_total) q v others (IsDistinct-has_repeat (keys_of others) h)
    (Contains-permutation tags others (q, v) p (Contains-from_lookup (λ x y is. same_key x y (equal _ is)) q v tags
    e))

same_lookups : (o w : Option (List ℕ)) → ((v : List ℕ) → o ≡ Some v → w ≡ Some v)
    → ((v : List ℕ) → w ≡ Some v → o ≡ Some v) → o ≡ w
same_lookups None None f g = refl
same_lookups (Some v) w f g = sym (f v refl)
same_lookups None (Some v) f g = g v refl

pub find-IsPermutation : (tags others : List Tag) → IsPermutation tags others → has_repeat (keys_of tags) ≡ false
    → (q : List ℕ) → find bytes_cmp q tags ≡ find bytes_cmp q others
find-IsPermutation tags others p h q =
    find_lookup tags q ∙ same_lookups _ _ (found_in_both tags others p (has_repeat-IsPermutation tags others p h) q)
    (found_in_both others tags (IsPermutation-sym tags others p) h q) ∙ sym (find_lookup others q)

-- tags with rising keys are the entries of the map of them in any order
pub entries_rise : (tags others : List Tag) → IsPermutation tags others → has_repeat (keys_of tags) ≡ false
    → rises [] others ≡ true → others ≡ entries (from_entries {R = bytes_cmp} tags)
entries_rise tags others p h up =
    let m : FinMap bytes_cmp (List ℕ) = from_entries tags in
    same_entries bytes_cmp nat_list_cmp_total same_key others (entries m) (true_test _ (is_sorted-rises [] others up))
    (entries_sorted m) (λ q.
    sym (find-IsPermutation tags others p h q) ∙ sym (get-from_entries nat_list_cmp_total tags q) ∙ get-entries m q)

-- rising keys differ
less_differs : (o : Ordering) → is_lt o ≡ true → is_eq o ≡ false
less_differs Less e = refl
less_differs Equal e = absurd cc
less_differs Greater e = refl

differs_below : (key : List ℕ) (tags : List Tag) → below_all bytes_cmp key tags ≡ true
    → is_among key (keys_of tags) ≡ false
differs_below key [] h = refl
differs_below key (tag ∷ tags) h =
    let parts = both_true (is_lt (bytes_cmp key tag.0)) (below_all bytes_cmp key tags) h in
    rw (differ_turned key tag.0 (less_differs _ parts.0), differs_below key tags parts.1) refl

has_repeat-rises : (before : List ℕ) (tags : List Tag) → rises before tags ≡ true → has_repeat (keys_of tags) ≡ false
has_repeat-rises before [] h = refl
has_repeat-rises before (tag ∷ tags) h =
    let parts = both_true (is_lt (bytes_cmp before tag.0)) (rises tag.0 tags) h in
    rw (differs_below tag.0 tags (below_all_rises tag.0 tags parts.1), has_repeat-rises tag.0 tags parts.1) refl

-- slices in the order of keys and values
abbrev slices_lt : Slices → Slices → Bool
slices_lt x y = is_lt (ordering_then (bytes_cmp x.0.now y.0.now) (bytes_cmp x.1.now y.1.now))

sorted_tail : (x : Slices) (xs : List Slices) → IsSortedBy slices_lt (x ∷ xs) → IsSortedBy slices_lt xs
sorted_tail x xs h k d low high =
    let n : suc k + 1 ≡ suc (k + 1) = omega arith in
    subst (λ (j : ℕ). slices_lt (get_or (x ∷ xs) j d) (get_or xs k d) ≡ false) n
    (h (suc k) d (omega arith) (omega arith))

-- the next key is above a key that is not below it and differs
above : (o r : Ordering) → is_lt (ordering_then o r) ≡ false → is_eq o ≡ false → is_lt (ordering_reverse o) ≡ true
above Less r a b = absurd cc
above Equal r a b = absurd cc
above Greater r a b = refl

rises-sorted : (x : Slices) (xs : List Slices) → IsSortedBy slices_lt (x ∷ xs)
    → has_repeat (keys_of (tags_of (x ∷ xs))) ≡ false → rises x.0.now (tags_of xs) ≡ true
rises-sorted x [] h u = refl
rises-sorted x (y ∷ ys) h u =
    let parts = or_false (is_among x.0.now (keys_of (tags_of (y ∷ ys)))) (has_repeat (keys_of (tags_of (y ∷ ys)))) u in
    let apart = (or_false (is_eq (bytes_cmp y.0.now x.0.now)) (is_among x.0.now (keys_of (tags_of ys))) parts.0).0 in
    let turned = nat_list_cmp_total.antisymm x.0.now y.0.now in
    let up = ap is_lt turned ∙ above (bytes_cmp y.0.now x.0.now) (bytes_cmp y.1.now x.1.now)
    (h 0 x (omega arith) (omega arith)) apart in
    rw (up, rises-sorted y ys (sorted_tail x (y ∷ ys) h) parts.1) refl

no_bytes_below : (key : List ℕ) → is_empty key ≡ false → is_lt (bytes_cmp [] key) ≡ true
no_bytes_below [] h = absurd cc
no_bytes_below (b ∷ bs) h = refl

-- sorted tags whose keys differ rise
pub rises_by_sort : (tags : List Slices) → IsSortedBy slices_lt tags → any_tag is_empty (tags_of tags) ≡ false
    → has_repeat (keys_of (tags_of tags)) ≡ false → rises [] (tags_of tags) ≡ true
rises_by_sort [] h e u = refl
rises_by_sort (x ∷ xs) h e u =
    let names = or_false (is_empty x.0.now || is_empty x.1.now) (any_tag is_empty (tags_of xs)) e in
    let key = or_false (is_empty x.0.now) (is_empty x.1.now) names.0 in
    rw (no_bytes_below x.0.now key.0, rises-sorted x xs h u) refl

-- after a sort, no key occurs twice where keys rise, and one does where they do not
pub unique_if_rises : (tags others : List Tag) → IsPermutation tags others → rises [] others ≡ true
    → has_repeat (keys_of tags) ≡ false
unique_if_rises tags others p up = has_repeat-IsPermutation others tags (IsPermutation-sym tags others p)
    (has_repeat-rises [] others up)

pub repeats_unless_rises : (tags sorted : List Slices) → IsPermutation tags sorted → IsSortedBy slices_lt sorted
    → any_tag is_empty (tags_of tags) ≡ false → rises [] (tags_of sorted) ≡ false
    → has_repeat (keys_of (tags_of tags)) ≡ true
repeats_unless_rises tags sorted p h e down =
    let moved = tags_move tags sorted p in
    elim (cases_Bool (has_repeat (keys_of (tags_of tags)))) [
      | inl twice ↦ twice
      | inr once ↦
          let named = sym (list_any-IsPermutation (λ (tag : Tag). is_empty tag.0 || is_empty tag.1) (tags_of tags)
          (tags_of sorted) moved) ∙ e in
          let up = rises_by_sort sorted h named (has_repeat-IsPermutation (tags_of tags) (tags_of sorted) moved once) in
          absurd (false≢true (sym down ∙ up))
    ]

-- sorted tags that rise: no key occurs twice, and they are the entries of the map of the tags
pub rising_entries : (tags sorted : List Slices) → IsPermutation tags sorted → rises [] (tags_of sorted) ≡ true
    → (has_repeat (keys_of (tags_of tags)) ≡ false)
    × (tags_of sorted ≡ entries (from_entries {R = bytes_cmp} (tags_of tags)))
rising_entries tags sorted p up =
    let moved = tags_move tags sorted p in
    let once = unique_if_rises (tags_of tags) (tags_of sorted) moved up in
    (once, entries_rise (tags_of tags) (tags_of sorted) moved once up)
