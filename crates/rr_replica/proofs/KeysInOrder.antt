-- The keys that are listed are the first that have a cell, in order.
use Rattle.std.proofs.Common.{◌≡◌, ◌⊎◌, inl, inr, ⊎_elim, ℕ, zero, suc, ◌≤◌, Bool, true, false, cond, List, [], ◌∷◌, length, map, T, refl, sym, ap, ◌∙◌, subst, Option, Some, None, Ordering, Less, Equal, Greater, arith, true≢false}
use Rattle.std.specs.Prelude.{Contains}
use Rattle.std.specs.Cmp.Lexicographic.{nat_list_cmp_total}
use Rattle.std.specs.FinMap.{entries, entries_sorted, is_sorted}
use Rattle.std.specs.FinMap.Entries.{below_all}
use Rattle.std.specs.List.{AllByRecursion}
use Rattle.std.specs.List.Sorted.{IsStrictlySortedBy}
use Rattle.std.specs.Ordering.{ordering_then, is_lt}
use Rattle.std.proofs.lemmas.List.Elements.{All-from_recursion}
use Rattle.rr_join.proofs.Booleans.{first_T, second_T, true_from_T}
use Rattle.rr_text.specs.Bytes.{bytes_cmp}
use Rattle.rr_cells.specs.CellNames.{CellName, cell_name_cmp}
use Rattle.rr_cells.specs.CellBounds.{NamedCell}
use Rattle.rr_replica.specs.Keys.{is_behind, first_behind, keys_from, keys_after}
use Rattle.rr_replica.specs.KeysLaw.{HasCell, AreFirstBehind, ListedAreTheFirst}
use Rattle.rr_replica.proofs.SeriesLemmas.{bytes_cmp-IsAntisymmetric}

is_less : (o : Ordering) → is_lt o ≡ true → o ≡ Less
is_less Less e = refl
is_less Equal e = absurd (true≢false (sym e))
is_less Greater e = absurd (true≢false (sym e))

-- a key is before another, or it is the same
abbrev IsUpTo : List ℕ → List ℕ → Type 0
IsUpTo a b = (bytes_cmp a b ≡ Less) ⊎ (a ≡ b)

-- names that ascend have keys that don't fall
key_up_to : (a b : CellName) → is_lt (cell_name_cmp a b) ≡ true → IsUpTo a.key b.key
key_up_to a b less = by (bytes_cmp a.key b.key) refl _ less
  where
    by : (o : Ordering) → bytes_cmp a.key b.key ≡ o → (rest : Ordering) → is_lt (ordering_then o rest) ≡ true
        → IsUpTo a.key b.key
    by Less e rest less = inl e
    by Equal e rest less = inr (bytes_cmp-IsAntisymmetric a.key b.key e)
    by Greater e rest less = absurd (true≢false (sym less))

-- what is behind a key that is behind another is behind that
behind_both : (after : Option (List ℕ)) (key other : List ℕ) → is_behind after key ≡ true
    → bytes_cmp key other ≡ Less → is_behind after other ≡ true
behind_both None key other behind less = refl
behind_both (Some a) key other behind less =
    ap is_lt (nat_list_cmp_total.trans a key other (is_less (bytes_cmp a key) behind) less)

-- ---- one key more

has_more : {X : Type 0} (x y : X) (xs : List X) → Contains xs x → Contains (y ∷ xs) x
has_more x y xs c = (suc c.0, (let less = c.1 in omega arith), c.2)

has_first : {X : Type 0} (x y : X) (xs : List X) → y ≡ x → Contains (y ∷ xs) x
has_first x y xs e = (0, omega arith, e)

has_cases : {X : Type 0} (x y : X) (xs : List X) → Contains (y ∷ xs) x → (y ≡ x) ⊎ Contains xs x
has_cases x y xs (zero, less, e) = inl e
has_cases x y xs (suc k, less, e) = inr (k, omega arith, e)

-- ---- the first cell of a key behind another

-- it has a key behind that, which is up to this one
record IsFirst (after : Option (List ℕ)) (es : List NamedCell) (key : List ℕ) (e : NamedCell) : Type 0 where
  is : first_behind after es ≡ Some e
  up_to : IsUpTo e.0.key key

up_to_below : (n : CellName) (es : List NamedCell) (key : List ℕ) → T (below_all cell_name_cmp n es) → HasCell es key
    → IsUpTo n.key key
up_to_below n [] key below has = absurd (let less = has.1 in omega arith)
up_to_below n (e ∷ es) key below has =
    let first = first_T (is_lt (cell_name_cmp n e.0)) (below_all cell_name_cmp n es) below in
    let rest = second_T (is_lt (cell_name_cmp n e.0)) (below_all cell_name_cmp n es) below in
    ⊎_elim (λ (same : e.0.key ≡ key). subst (IsUpTo n.key) same (key_up_to n e.0 (true_from_T _ first)))
    (λ (more : HasCell es key). up_to_below n es key rest more)
    (has_cases key e.0.key (map (λ e. e.0.key) es) has)

first_is : (after : Option (List ℕ)) (es : List NamedCell) (key : List ℕ) → T (is_sorted cell_name_cmp es)
    → HasCell es key
    → is_behind after key ≡ true → (e : NamedCell) × IsFirst after es key e
first_is after [] key sorted has behind = absurd (let less = has.1 in omega arith)
first_is after (e ∷ es) key sorted has behind =
    let below = first_T (below_all cell_name_cmp e.0 es) (is_sorted cell_name_cmp es) sorted in
    let rest = second_T (below_all cell_name_cmp e.0 es) (is_sorted cell_name_cmp es) sorted in
    ⊎_elim (λ (same : e.0.key ≡ key). (
      e,
      record {
        is = ap (λ b. cond b (Some e) (first_behind after es)) (ap (is_behind after) same ∙ behind);
        up_to = inr same;
      },
    ))
    (λ (more : HasCell es key). by (is_behind after e.0.key) refl below (first_is after es key rest more behind) more)
    (has_cases key e.0.key (map (λ e. e.0.key) es) has)
  where
    by : (b : Bool) → is_behind after e.0.key ≡ b → T (below_all cell_name_cmp e.0 es)
        → (f : NamedCell) × IsFirst after es key f → HasCell es key → (f : NamedCell) × IsFirst after (e ∷ es) key f
    by true t below later more = (
      e,
      record {
        is = ap (λ b. cond b (Some e) (first_behind after es)) t;
        up_to = up_to_below e.0 es key below more;
      },
    )
    by false t below later more = (
      later.0,
      record {
        is = ap (λ b. cond b (Some e) (first_behind after es)) t ∙ later.1.is;
        up_to = later.1.up_to;
      },
    )

-- what is found is there, and is behind
record IsThere (after : Option (List ℕ)) (es : List NamedCell) (e : NamedCell) : Type 0 where
  has : HasCell es e.0.key
  behind : is_behind after e.0.key ≡ true

found : (after : Option (List ℕ)) (es : List NamedCell) (e : NamedCell) → first_behind after es ≡ Some e
    → IsThere after es e
found after [] e is = absurd cc
found after (x ∷ es) e is = by (is_behind after x.0.key) refl is (λ later. found after es e later)
  where
    by : (b : Bool) → is_behind after x.0.key ≡ b → cond b (Some x) (first_behind after es) ≡ Some e
        → (first_behind after es ≡ Some e → IsThere after es e) → IsThere after (x ∷ es) e
    by true t is later =
        let same : x ≡ e = cc in
        record {
          has = has_first e.0.key x.0.key (map (λ e. e.0.key) es) (ap (λ (z : NamedCell). z.0.key) same);
          behind = ap (λ (z : NamedCell). is_behind after z.0.key) (sym same) ∙ t;
        }
    by false t is later =
        let rest = later is in
        record { has = has_more e.0.key x.0.key (map (λ e. e.0.key) es) rest.has; behind = rest.behind }

-- ---- the walk

module _ (es : List NamedCell) (sorted : T (is_sorted cell_name_cmp es)) where
  -- some keys are the first behind another
  record Walked (after : Option (List ℕ)) (count : ℕ) (keys : List (List ℕ)) : Type 0 where
    ascend : IsStrictlySortedBy bytes_cmp keys
    each : AllByRecursion (λ key. HasCell es key × (is_behind after key ≡ true)) keys
    few : length keys ≤ count
    all : (key : List ℕ) → HasCell es key → is_behind after key ≡ true
        → Contains keys key ⊎ ((length keys ≡ count)
        × AllByRecursion (λ before. is_lt (bytes_cmp before key) ≡ true) keys)

  below : (first : List ℕ) (keys : List (List ℕ))
      → AllByRecursion (λ key. HasCell es key × (is_behind (Some first) key ≡ true)) keys
      → AllByRecursion (λ key. bytes_cmp first key ≡ Less) keys
  below first [] all = tt
  below first (key ∷ keys) all = (is_less (bytes_cmp first key) all.0.1, below first keys all.1)

  behind_all : (after : Option (List ℕ)) (first : List ℕ) (keys : List (List ℕ)) → is_behind after first ≡ true
      → AllByRecursion (λ key. HasCell es key × (is_behind (Some first) key ≡ true)) keys
      → AllByRecursion (λ key. HasCell es key × (is_behind after key ≡ true)) keys
  behind_all after first [] behind all = tt
  behind_all after first (key ∷ keys) behind all = (
    (all.0.0, behind_both after first key behind (is_less (bytes_cmp first key) all.0.1)),
    behind_all after first keys behind all.1,
  )

  no_key : {n : ℕ} (after : Option (List ℕ)) → first_behind after es ≡ None → Walked after n []
  unfolding IsStrictlySortedBy
  no_key after none = record {
    ascend = tt;
    each = tt;
    few = omega arith;
    all =
        λ key has behind.
        let e = first_is after es key sorted has behind in
        let not : None ≡ Some e.0 = sym none ∙ e.1.is in
        absurd cc;
  }

  one_key : {n : ℕ} (after : Option (List ℕ)) (e : NamedCell) (keys : List (List ℕ))
      → first_behind after es ≡ Some e
      → Walked (Some e.0.key) n keys → Walked after (suc n) (e.0.key ∷ keys)
  unfolding IsStrictlySortedBy
  one_key {n} after e keys is rest =
      let there = found after es e is in
      record {
        ascend = (below e.0.key keys rest.each, rest.ascend);
        each = ((there.has, there.behind), behind_all after e.0.key keys there.behind rest.each);
        few = let few = rest.few in omega arith;
        all =
            λ key has behind.
            let f = first_is after es key sorted has behind in
            let some : Some f.0 ≡ Some e = sym f.1.is ∙ is in
            let same : f.0 ≡ e = cc in
            let up_to = subst (λ (x : NamedCell). IsUpTo x.0.key key) same f.1.up_to in
            ⊎_elim (λ (less : bytes_cmp e.0.key key ≡ Less). ⊎_elim
            (λ (c : Contains keys key). inl (has_more key e.0.key keys c))
            (λ (full : (length keys ≡ n) × AllByRecursion (λ before. is_lt (bytes_cmp before key) ≡ true) keys).
            inr (ap suc full.0, (ap is_lt less, full.1)))
            (rest.all key has (ap is_lt less)))
            (λ (one : e.0.key ≡ key). inl (has_first key e.0.key keys one))
            up_to;
      }

  walked : (n : ℕ) (after : Option (List ℕ)) → Walked after n (keys_from (first_behind after es) n es)
  unfolding keys_from IsStrictlySortedBy
  walked zero after = record {
    ascend = tt;
    each = tt;
    few = omega arith;
    all = λ key has behind. inr (refl, tt);
  }
  walked (suc n) after = by (first_behind after es) refl (λ key. walked n (Some key))
    where
      by : (o : Option NamedCell) → first_behind after es ≡ o
          → ((key : List ℕ) → Walked (Some key) n (keys_from (first_behind (Some key) es) n es))
          → Walked after (suc n) (keys_from o (suc n) es)
      by None is later = no_key after is
      by (Some e) is later = one_key after e (keys_from (first_behind (Some e.0.key) es) n es) is (later e.0.key)

  pub first_ones : (after : Option (List ℕ)) (n : ℕ) → AreFirstBehind after n es (keys_after after n es)
  first_ones after n =
      let keys = keys_after after n es in
      let w = walked n after in
      record {
        ascend = w.ascend;
        each = All-from_recursion (λ key. HasCell es key × (is_behind after key ≡ true)) keys w.each;
        few = w.few;
        all = λ key has behind. ⊎_elim (λ (c : Contains keys key). inl c)
            (λ (full : (length keys ≡ n) × AllByRecursion (λ before. is_lt (bytes_cmp before key) ≡ true) keys).
            inr (full.0, All-from_recursion (λ before. is_lt (bytes_cmp before key) ≡ true) keys full.1))
            (w.all key has behind);
      }

pub listed_are_the_first : ListedAreTheFirst
listed_are_the_first m after count = first_ones (entries m) (entries_sorted m) after count
