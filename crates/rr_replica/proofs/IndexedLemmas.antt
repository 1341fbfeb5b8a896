-- Keys and their archives, each at its index.
use Rattle.std.proofs.Common.{◌≡◌, ℕ, zero, suc, ◌+◌, ◌<◌, Bool, true, false, cond, List, [], ◌∷◌, ◌++◌, length, set, take, slice_get, get_or, refl, sym, ap, ◌∙◌, subst, arith, true≢false, Option, Some, None, is_some, unwrap_or, ⊎_elim, Less, Equal, Greater}
use Rattle.std.specs.Prelude.{nat_eq}
use Rattle.std.specs.Global.{Vec}
use Rattle.std.specs.List.{AllByRecursion}
use Rattle.std.specs.List.Sorted.{IsStrictlySortedBy}
use Rattle.std.specs.Map.{keys_of}
use Rattle.std.specs.BTreeMap.{is_at, insert_entry}
use Rattle.std.specs.Ordering.{is_eq, match_ordering}
use Rattle.std.proofs.lemmas.List.{length-append}
use Rattle.std.specs.Cmp.Lexicographic.{pointwise, bytes_decides, nat_list_cmp_total}
use Rattle.std.proofs.lemmas.Option.{slice_get_within, slice_get-get_or}
use Rattle.std.proofs.lemmas.Bool.{cases_lt}
use Rattle.rr_join.proofs.Members.{same_from_tie, tie_itself}
use Rattle.rr_text.specs.Bytes.{bytes_cmp}
use Rattle.rr_schema.specs.Schema.{Layout}
use Rattle.rr_replica.specs.Archives.{AreSized}
use Rattle.rr_replica.specs.InMemory.{archives_of, AreAllSized}
use Rattle.rr_replica.specs.Indexed.{index_of, with_entry, entries_at, IsIndexed}
use Rattle.rr_replica.proofs.Counted.{get_append, get_first}
use Rattle.rr_replica.proofs.Each.{found_at, slice_get-set_same, slice_get-set_other, length-set}
use Rattle.rr_replica.proofs.Shown.{there}
use Rattle.rr_replica.proofs.SeriesLemmas.{bytes_cmp-IsAntisymmetric}

pub is_same : (a b : List ℕ) → is_at (bytes_cmp a) b ≡ true → a ≡ b
is_same a b t = same_from_tie nat_list_cmp_total bytes_cmp-IsAntisymmetric a b t

pub is_itself : (a : List ℕ) → is_at (bytes_cmp a) a ≡ true
is_itself a = tie_itself nat_list_cmp_total bytes_cmp-IsAntisymmetric a

-- what keys are equal to
pub same_text : (a b : List ℕ) → pointwise nat_eq a b ≡ true → a ≡ b
same_text a b t = (bytes_decides a b).0 t

-- ---- the key at an index

pub key_at : (keys : List (List ℕ)) (indices : List (List ℕ × ℕ))
    → AllByRecursion (λ e. slice_get keys e.1 ≡ Some e.0) indices → (key : List ℕ) (i : ℕ)
    → index_of indices key ≡ Some i → slice_get keys i ≡ Some key
key_at keys [] all key i at = absurd (true≢false (sym (ap is_some at)))
key_at keys (e ∷ es) all key i at = elim (is_at (bytes_cmp key) e.0) as
    (λ b. is_at (bytes_cmp key) e.0 ≡ b → cond b (Some e.1) (index_of es key) ≡ Some i → slice_get keys i ≡ Some key) [
      | true ↦ λ t h. ap (slice_get keys) (ap (λ o. unwrap_or o i) (sym h)) ∙ all.0
          ∙ ap (λ k. Some k) (sym (is_same key e.0 t))
      | false ↦ λ t h. key_at keys es all.1 key i h
    ] refl at

pub key_within : (keys : List (List ℕ)) (indices : List (List ℕ × ℕ))
    → AllByRecursion (λ e. slice_get keys e.1 ≡ Some e.0) indices → (key : List ℕ) (i : ℕ)
    → Some i ≡ index_of indices key → i < length keys
key_within keys indices all key i at = slice_get_within keys i key (key_at keys indices all key i (sym at))

pub key_found : (keys : List (List ℕ)) (indices : List (List ℕ × ℕ))
    → AllByRecursion (λ e. slice_get keys e.1 ≡ Some e.0) indices → (key was : List ℕ) (i : ℕ)
    → Some i ≡ index_of indices key → was ≡ get_or keys i was → was ≡ key
key_found keys indices all key was i at is = ap (λ o. unwrap_or o was)
    (ap (λ k. Some k) is ∙ sym (slice_get-get_or keys i was (key_within keys indices all key i at))
    ∙ key_at keys indices all key i (sym at))

-- the same, where the index is known to be within
pub key_numbered : (keys : List (List ℕ)) (indices : List (List ℕ × ℕ))
    → AllByRecursion (λ e. slice_get keys e.1 ≡ Some e.0) indices → (key : List ℕ) (i : ℕ)
    → Some i ≡ index_of indices key → get_or keys i [] ≡ key
key_numbered keys indices all key i at = ap (λ o. unwrap_or o key)
    (sym (slice_get-get_or keys i [] (key_within keys indices all key i at)) ∙ key_at keys indices all key i (sym at))

-- the key at an index, whatever stands for one that is past the last
pub same_number : (keys : List (List ℕ)) (i : ℕ) (key : List ℕ) → i < length keys → key ≡ get_or keys i key
    → key ≡ get_or keys i []
same_number keys i key within is = ap (λ o. unwrap_or o key)
    (ap (λ k. Some k) is ∙ (sym (slice_get-get_or keys i key within) ∙ slice_get-get_or keys i [] within))

-- ---- a key more

all_weaker : (keys : List (List ℕ)) (key : List ℕ) (es : List (List ℕ × ℕ))
    → AllByRecursion (λ e. slice_get keys e.1 ≡ Some e.0) es
    → AllByRecursion (λ e. slice_get (keys ++ key ∷ []) e.1 ≡ Some e.0) es
all_weaker keys key [] all = tt
all_weaker keys key (e ∷ es) all = (get_first keys (key ∷ []) e.1 e.0 all.0, all_weaker keys key es all.1)

all_with : (P : List ℕ × ℕ → Type 0) (es : List (List ℕ × ℕ)) (key : List ℕ) (n : ℕ) → AllByRecursion P es → P (key, n)
    → AllByRecursion P (insert_entry bytes_cmp es key n)
all_with P [] key n all here = (here, tt)
all_with P (e ∷ es) key n all here = elim (bytes_cmp key e.0) as
    (λ r. bytes_cmp key e.0 ≡ r → AllByRecursion P
    (match_ordering r ((key, n) ∷ e ∷ es) ((e.0, n) ∷ es) (e ∷ insert_entry bytes_cmp es key n))) [
      | Less ↦ λ t. (here, all)
      | Equal ↦ λ t. (subst (λ k. P (k, n)) (is_same key e.0 (ap is_eq t)) here, all.1)
      | Greater ↦ λ t. (all.0, all_with P es key n all.1 here)
    ] refl

pub at_end : {Y : Type 0} (xs : List Y) (n : ℕ) (y : Y) → n ≡ length xs → slice_get (xs ++ y ∷ []) n ≡ Some y
at_end xs n y e = ap (slice_get (xs ++ y ∷ [])) (e ∙ plus_none (length xs)) ∙ get_append xs (y ∷ []) 0
  where
    plus_none : (m : ℕ) → m ≡ m + 0
    plus_none m = omega arith

-- ---- entries

module _ {X : Type 0} where
  abbrev after : Option ℕ → List (Vec X) → Option (Vec X)
  after None archives = None
  after (Some i) archives = slice_get archives i

  -- the archives of a key are at its index
  pub archives_at : (keys : List (List ℕ)) (indices : List (List ℕ × ℕ)) (archives : List (Vec X))
      → AllByRecursion (λ e. slice_get keys e.1 ≡ Some e.0) indices → length archives ≡ length keys → (q : List ℕ)
      → archives_of (entries_at indices archives) q ≡ after (index_of indices q) archives
  archives_at keys [] archives all many q = refl
  archives_at keys (e ∷ es) archives all many q =
      let has = there archives e.1 (let within = slice_get_within keys e.1 e.0 all.0 in omega arith) in
      ap (λ o. archives_of (with_entry e.0 o (entries_at es archives)) q) has.1
      ∙ elim (is_at (bytes_cmp q) e.0) as (λ b. cond b (Some has.0) (archives_of (entries_at es archives) q)
      ≡ after (cond b (Some e.1) (index_of es q)) archives) [
        | true ↦ sym has.1
        | false ↦ archives_at keys es archives all.1 many q
      ]

  -- their keys are those that have an index
  pub keys_at : (keys : List (List ℕ)) (indices : List (List ℕ × ℕ)) (archives : List (Vec X))
      → AllByRecursion (λ e. slice_get keys e.1 ≡ Some e.0) indices → length archives ≡ length keys
      → keys_of (entries_at indices archives) ≡ keys_of indices
  keys_at keys [] archives all many = refl
  keys_at keys (e ∷ es) archives all many =
      let has = there archives e.1 (let within = slice_get_within keys e.1 e.0 all.0 in omega arith) in
      ap (λ o. keys_of (with_entry e.0 o (entries_at es archives))) has.1
      ∙ ap (λ ks. e.0 ∷ ks) (keys_at keys es archives all.1 many)

  module _ {keys : List (List ℕ)} {indices : List (List ℕ × ℕ)} {archives : List (Vec X)}
      (is : IsIndexed keys indices archives) where
    -- the key with a number has it as its index
    pub number_found : (i : ℕ) → i < length keys → Some i ≡ index_of indices (get_or keys i [])
    number_found i within = sym (is.found i (get_or keys i []) (slice_get-get_or keys i [] within))

    pub entries_ordered : IsStrictlySortedBy bytes_cmp (keys_of (entries_at indices archives))
    entries_ordered = subst (IsStrictlySortedBy bytes_cmp) (sym (keys_at keys indices archives is.there is.many))
        is.ordered

    pub archives_found : (key : List ℕ) (i : ℕ) → Some i ≡ index_of indices key
        → archives_of (entries_at indices archives) key ≡ slice_get archives i
    archives_found key i at = archives_at keys indices archives is.there is.many key
        ∙ ap (λ o. after o archives) (sym at)

    pub archives_nowhere : (key : List ℕ) → None ≡ index_of indices key
        → archives_of (entries_at indices archives) key ≡ None
    archives_nowhere key none = archives_at keys indices archives is.there is.many key
        ∙ ap (λ o. after o archives) (sym none)

    pub index_within : (key : List ℕ) (i : ℕ) → Some i ≡ index_of indices key → i < length archives
    index_within key i at = let within = slice_get_within keys i key (key_at keys indices is.there key i (sym at)) in
        let many = is.many in omega arith

    -- what is at the index of a key is its archives
    pub element_found : (key : List ℕ) (i : ℕ) (was : Vec X) → Some i ≡ index_of indices key
        → was ≡ get_or archives i was → Some was ≡ archives_of (entries_at indices archives) key
    element_found key i was at is = sym (archives_found key i at ∙ found_at archives i was (index_within key i at) is)

    -- ---- other archives at an index

    pub still_indexed : (i : ℕ) (now : Vec X) → IsIndexed keys indices (set archives i now)
    still_indexed i now = record {
      ordered = is.ordered;
      there = is.there;
      found = is.found;
      many =
          length-set archives i now ∙ is.many;
    }

    pub sets_at : (key : List ℕ) (i : ℕ) (now : Vec X) → Some i ≡ index_of indices key → (q : List ℕ)
        → archives_of (entries_at indices (set archives i now)) q
        ≡ cond (is_at (bytes_cmp key) q) (Some now) (archives_of (entries_at indices archives) q)
    sets_at key i now at q = archives_at keys indices (set archives i now) is.there
        (length-set archives i now ∙ is.many) q ∙ by_key (is_at (bytes_cmp key) q) refl
      where
        apart : is_at (bytes_cmp key) q ≡ false → (o : Option ℕ) → index_of indices q ≡ o
            → after o (set archives i now) ≡ after o archives
        apart t None e = refl
        apart t (Some j) e = slice_get-set_other archives i j now (λ same.
            let key_j = key_at keys indices is.there q j e in
            let key_i = key_at keys indices is.there key i (sym at) in
            let text : key ≡ q = ap (λ o. unwrap_or o key) (sym key_i ∙ ap (slice_get keys) (sym same) ∙ key_j) in
            true≢false (sym (is_itself key) ∙ ap (is_at (bytes_cmp key)) text ∙ t))

        by_key : (b : Bool) → is_at (bytes_cmp key) q ≡ b
            → after (index_of indices q) (set archives i now)
            ≡ cond b (Some now) (archives_of (entries_at indices archives) q)
        by_key true t = ap (λ k. after (index_of indices k) (set archives i now)) (sym (is_same key q t))
            ∙ ap (λ o. after o (set archives i now)) (sym at)
            ∙ slice_get-set_same archives i now (index_within key i at)
        by_key false t = apart t (index_of indices q) refl ∙ sym (archives_at keys indices archives is.there is.many q)

  -- ---- a key more

  module _ {keys : List (List ℕ)} {indices : List (List ℕ × ℕ)} {archives : List (Vec X)}
      (is : IsIndexed keys indices archives) (key : List ℕ) (none : index_of indices key ≡ None)
      (more : List (List ℕ × ℕ)) (n : ℕ) (last : n ≡ length keys)
      (entries : more ≡ insert_entry bytes_cmp indices key n)
      (updates : (q : List ℕ) → index_of more q ≡ cond (is_at (bytes_cmp key) q) (Some n) (index_of indices q))
      (ordered : IsStrictlySortedBy bytes_cmp (keys_of more)) (now : Vec X) where
    there_more : AllByRecursion (λ e. slice_get (keys ++ key ∷ []) e.1 ≡ Some e.0) more
    there_more = subst (AllByRecursion (λ e. slice_get (keys ++ key ∷ []) e.1 ≡ Some e.0)) (sym entries)
        (all_with (λ e. slice_get (keys ++ key ∷ []) e.1 ≡ Some e.0) indices key n
        (all_weaker keys key indices is.there) (at_end keys n key last))

    many_more : length (archives ++ now ∷ []) ≡ length (keys ++ key ∷ [])
    many_more = length-append archives (now ∷ []) ∙ ap (λ m. m + 1) is.many ∙ sym (length-append keys (key ∷ []))

    other : (q : List ℕ) (i : ℕ) → index_of indices q ≡ Some i → is_at (bytes_cmp key) q ≡ false
    other q i at = by_key (is_at (bytes_cmp key) q) refl
      where
        by_key : (b : Bool) → is_at (bytes_cmp key) q ≡ b → b ≡ false
        by_key true t = absurd (true≢false (ap is_some (sym at ∙ ap (index_of indices) (sym (is_same key q t)) ∙ none)))
        by_key false t = refl

    found_more : (i : ℕ) (q : List ℕ) → slice_get (keys ++ key ∷ []) i ≡ Some q → index_of more q ≡ Some i
    found_more i q at = ⊎_elim
        (λ before.
        let k = there keys i before in
        let text : k.0 ≡ q = ap (λ o. unwrap_or o q) (sym (get_first keys (key ∷ []) i k.0 k.1) ∙ at) in
        let was : index_of indices q ≡ Some i = is.found i q (k.1 ∙ ap (λ t. Some t) text) in
        updates q ∙ ap (λ b. cond b (Some n) (index_of indices q)) (other q i was) ∙ was)
        (λ past.
        let within = slice_get_within (keys ++ key ∷ []) i q at in
        let size = length-append keys (key ∷ []) in
        let i_is : i ≡ n = omega arith in
        let text : key ≡ q = ap (λ o. unwrap_or o q) (sym (at_end keys i key (omega arith)) ∙ at) in
        updates q ∙ ap (λ b. cond b (Some n) (index_of indices q))
        (sym (ap (is_at (bytes_cmp key)) text) ∙ is_itself key) ∙ ap (λ m. Some m) (sym i_is))
        (cases_lt i (length keys))

    pub indexed_more : IsIndexed (keys ++ key ∷ []) more (archives ++ now ∷ [])
    indexed_more = record { ordered = ordered; there = there_more; found = found_more; many = many_more }

    pub sets_more : (q : List ℕ) → archives_of (entries_at more (archives ++ now ∷ [])) q
        ≡ cond (is_at (bytes_cmp key) q) (Some now) (archives_of (entries_at indices archives) q)
    sets_more q =
        archives_at (keys ++ key ∷ []) more (archives ++ now ∷ []) there_more many_more q
        ∙ ap (λ o. after o (archives ++ now ∷ [])) (updates q)
        ∙ elim (is_at (bytes_cmp key) q) as (λ b. after (cond b (Some n) (index_of indices q)) (archives ++ now ∷ [])
        ≡ cond b (Some now) (archives_of (entries_at indices archives) q)) [
          | true ↦ at_end archives n now (let many = is.many in omega arith)
          | false ↦ earlier (index_of indices q) refl ∙ sym (archives_at keys indices archives is.there is.many q)
        ]
      where
        earlier : (o : Option ℕ) → index_of indices q ≡ o → after o (archives ++ now ∷ []) ≡ after o archives
        earlier None e = refl
        earlier (Some j) e = let a = there archives j (index_within is q j (sym e)) in
            get_first archives (now ∷ []) j a.0 a.1 ∙ sym a.1

-- what stands in the prefix of a list
pub slice_get-take : {Y : Type 0} (xs : List Y) (i j : ℕ) (y : Y) → slice_get (take i xs) j ≡ Some y
    → (slice_get xs j ≡ Some y) × (j < i)
slice_get-take [] zero j y e = absurd (true≢false (sym (ap is_some e)))
slice_get-take [] (suc i) j y e = absurd (true≢false (sym (ap is_some e)))
slice_get-take (x ∷ xs) zero j y e = absurd (true≢false (sym (ap is_some e)))
slice_get-take (x ∷ xs) (suc i) zero y e = (e, omega arith)
slice_get-take (x ∷ xs) (suc i) (suc j) y e = let h = slice_get-take xs i j y e in (h.0, let less = h.1 in omega arith)

-- archives of a size at a key keep all of a size
pub sized_with : {X : Type 0} (limit : X → ℕ) (s : Layout) (key : List ℕ) (old new : List (List ℕ × Vec X))
    (now : Vec X) → AreAllSized limit s old → ((q : List ℕ)
    → archives_of new q ≡ cond (is_at (bytes_cmp key) q) (Some now) (archives_of old q)) → AreSized limit s now.items
    → AreAllSized limit s new
sized_with limit s key old new now sized sets size q archives e =
    elim (is_at (bytes_cmp key) q) as (λ b. cond b (Some now) (archives_of old q) ≡ Some archives
    → AreSized limit s archives.items) [
      | true ↦ λ h. subst (λ v. AreSized limit s v.items) (ap (λ o. unwrap_or o now) h) size
      | false ↦ λ h. sized q archives h
    ] (sym (sets q) ∙ e)
