-- The first cell after a name, archive by archive and key by key.
use Rattle.std.proofs.Common.{◌≡◌, ℕ, ℤ, zero, suc, ◌+◌, ◌<◌, ◌≤◌, Bool, true, false, cond, not, ◌&&◌, List, [], ◌∷◌, ◌++◌, map, drop, length, slice_get, get_or, unwrap_or, refl, sym, ap, ◌∙◌, subst, arith, true≢false, Option, Some, None, Ordering, Less, Equal, Greater, nat_cmp}
use Rattle.std.specs.Global.{Vec}
use Rattle.std.specs.List.{AllByRecursion, filter, find}
use Rattle.std.specs.BTreeMap.Range.{entries_between}
use Rattle.std.specs.declared.ops.Bound.TheVariants.{Included, Unbounded}
use Rattle.std.specs.Cmp.{tied_itself}
use Rattle.std.specs.Prelude.{nat_eq}
use Rattle.std.specs.Cmp.Lexicographic.{pointwise, bytes_decides, nat_list_cmp_total}
use Rattle.std.specs.Option.{option_map, option_or}
use Rattle.std.specs.Ordering.{is_lt, is_le, ordering_then}
use Rattle.std.specs.FinMap.{entries}
use Rattle.std.proofs.lemmas.Bool.Decides.{nat_tests}
use Rattle.std.proofs.lemmas.List.Folds.{find-append}
use Rattle.std.proofs.lemmas.Option.{slice_get-get_or, slice_get_past}
use Rattle.rr_text.specs.declared.limits.TheConstants.{MAX_ARCHIVES}
use Rattle.rr_text.specs.Bytes.{bytes_cmp}
use Rattle.rr_contrib.specs.declared.contribution.Contribution.{Contribution}
use Rattle.rr_archive.specs.declared.entry.Entry.{Entry}
use Rattle.rr_archive.specs.CellSlots.{CellSlot, cell_slot, cell_slot_cmp}
use Rattle.rr_archive.specs.Cells.{ArchiveCells, cell_of, next_cell}
use Rattle.rr_cells.specs.CellNames.{CellName, cell_name_cmp}
use Rattle.rr_cells.specs.CellBounds.{NamedCell}
use Rattle.rr_cells.specs.Cells.{name_at}
use Rattle.rr_replica.specs.InMemory.{held_series}
use Rattle.rr_replica.specs.Series.{cells_from, all_cells}
use Rattle.rr_replica.proofs.Each.{slice_get-map}
use Rattle.rr_replica.proofs.SeriesLemmas.{bytes_cmp-IsAntisymmetric}
use Rattle.rr_replica.proofs.InOrder.{named_as, same_archive, later_archive, later_key}

-- whether a cell is after a name
abbrev pub is_past : CellName → NamedCell → Bool
is_past n e = is_lt (cell_name_cmp n e.0)

-- ---- a key that is not before the name's

pub same_key : (own key : List ℕ) → not (pointwise nat_eq key own) ≡ false → key ≡ own
same_key own key h = (bytes_decides key own).0 (passes (pointwise nat_eq key own) h)
  where
    passes : (b : Bool) → not b ≡ false → b ≡ true
    passes true h = refl
    passes false h = absurd (true≢false h)

pub next_key_is_later : (own key : List ℕ) → is_le (bytes_cmp own key) ≡ true → not (pointwise nat_eq key own) ≡ true
    → bytes_cmp own key ≡ Less
next_key_is_later own key h apart = by_order (bytes_cmp own key) refl h
  where
    by_order : (r : Ordering) → bytes_cmp own key ≡ r → is_le r ≡ true → r ≡ Less
    by_order Less e h = refl
    by_order Equal e h = absurd (true≢false (sym apart
        ∙ ap not ((bytes_decides key own).1 (sym (bytes_cmp-IsAntisymmetric own key e)))))
    by_order Greater e h = absurd (true≢false (sym h))

-- ---- cells that are all after a name, or all not

none_past : (n : CellName) (es : List NamedCell) → AllByRecursion (λ e. is_past n e ≡ false) es
    → find (is_past n) es ≡ None
none_past n [] all = refl
none_past n (e ∷ es) all = ap (λ b. cond b (Some e) (find (is_past n) es)) all.0 ∙ none_past n es all.1

pub first_past : (n : CellName) (es : List NamedCell) → AllByRecursion (λ e. is_past n e ≡ true) es
    → find (is_past n) es ≡ slice_get es 0
first_past n [] all = refl
first_past n (e ∷ es) all = ap (λ b. cond b (Some e) (find (is_past n) es)) all.0

all_append : (P : NamedCell → Type 0) (xs ys : List NamedCell) → AllByRecursion P xs → AllByRecursion P ys
    → AllByRecursion P (xs ++ ys)
all_append P [] ys p q = q
all_append P (x ∷ xs) ys p q = (p.0, all_append P xs ys p.1 q)

all_named : (P : NamedCell → Type 0) (key : List ℕ) (i : ℕ) (es : List (CellSlot × Contribution))
    → ((p : CellSlot) (c : Contribution) → P (name_at key i p, c)) → AllByRecursion P (named_as key i es)
all_named P key i [] f = tt
all_named P key i (e ∷ es) f = (f e.0 e.1, all_named P key i es f)

-- what holds of each cell of an archive with this number or a later one
all_from : (P : NamedCell → Type 0) (key : List ℕ) (first : ℕ) (rs : List ArchiveCells)
    → ((i : ℕ) (p : CellSlot) (c : Contribution) → first ≤ i → P (name_at key i p, c))
    → AllByRecursion P (cells_from key first rs)
all_from P key first [] f = tt
all_from P key first (r ∷ rs) f = all_append P (named_as key first (entries r)) (cells_from key (first + 1) rs)
    (all_named P key first (entries r) (λ p c. f first p c (omega arith)))
    (all_from P key (first + 1) rs (λ i p c h. f i p c (omega arith)))

-- ---- the first cell of a key's archives from one on

nothing_left : (n : ℕ) → ◌≡◌ {A = List ArchiveCells} (drop n []) []
nothing_left zero = refl
nothing_left (suc n) = refl

-- the first cell of the archives from one with a number on
abbrev pub first_of : {X : Type 0} → List ℕ → (X → ArchiveCells) → List X → ℕ → Option NamedCell
first_of key cells xs i = slice_get (cells_from key i (drop i (map cells xs))) 0

module _ (key : List ℕ) (i : ℕ) where
  head_found : (es : List (CellSlot × Contribution)) (rest : List NamedCell) (cell : ℤ × Entry)
      → Some cell ≡ option_map cell_of (slice_get es 0)
      → slice_get (named_as key i es ++ rest) 0 ≡ Some
      (name_at key i (cell_slot cell.0 cell.1.origin), cell.1.contribution)
  head_found [] rest cell e = absurd cc
  head_found (x ∷ es) rest cell e = ap (λ o. Some
      (name_at key i (cell_slot (unwrap_or o cell).0 (unwrap_or o cell).1.origin), (unwrap_or o cell).1.contribution))
      (sym e)

  head_none : (es : List (CellSlot × Contribution)) (rest : List NamedCell) → None ≡ option_map cell_of (slice_get es 0)
      → slice_get (named_as key i es ++ rest) 0 ≡ slice_get rest 0
  head_none [] rest e = refl
  head_none (x ∷ es) rest e = absurd cc

  module _ {X : Type 0} (cells : X → ArchiveCells) (xs : List X) where
    opened : (a : X) → i < length xs → a ≡ get_or xs i a → drop i (map cells xs) ≡ cells a ∷ drop (i + 1) (map cells xs)
    opened a h item = at xs i h ∙ ap (λ b. cells b ∷ drop (i + 1) (map cells xs)) (sym item)
      where
        one_more : (n : ℕ) → suc (n + 1) ≡ suc n + 1
        one_more n = omega arith

        at : (ys : List X) (n : ℕ) → n < length ys → drop n (map cells ys)
            ≡ cells (get_or ys n a) ∷ drop (n + 1) (map cells ys)
        at [] n h = absurd (omega arith)
        at (y ∷ ys) zero h = refl
        at (y ∷ ys) (suc n) h = at ys n (omega arith)
            ∙ ap (λ k. cells (get_or ys n a) ∷ drop k (map cells (y ∷ ys))) (one_more n)

    pub first_found : (a : X) (cell : ℤ × Entry) → i < length xs → a ≡ get_or xs i a
        → Some cell ≡ option_map cell_of (slice_get (entries (cells a)) 0)
        → first_of key cells xs i ≡ Some (name_at key i (cell_slot cell.0 cell.1.origin), cell.1.contribution)
    first_found a cell h item e = ap (λ rs. slice_get (cells_from key i rs) 0) (opened a h item)
        ∙ head_found (entries (cells a)) (cells_from key (i + 1) (drop (i + 1) (map cells xs))) cell e

    pub first_later : (a : X) → i < length xs → a ≡ get_or xs i a
        → None ≡ option_map cell_of (slice_get (entries (cells a)) 0)
        → first_of key cells xs (i + 1) ≡ first_of key cells xs i
    first_later a h item e = sym (ap (λ rs. slice_get (cells_from key i rs) 0) (opened a h item)
        ∙ head_none (entries (cells a)) (cells_from key (i + 1) (drop (i + 1) (map cells xs))) e)

    pub first_none : length xs ≤ i → first_of key cells xs i ≡ None
    first_none past = ap (λ rs. slice_get (cells_from key i rs) 0) (at xs i past)
      where
        at : (ys : List X) (n : ℕ) → length ys ≤ n → drop n (map cells ys) ≡ []
        at [] n h = nothing_left n
        at (y ∷ ys) zero h = absurd (omega arith)
        at (y ∷ ys) (suc n) h = at ys n (omega arith)

-- ---- the archives of the name's key

earlier_archive : (key : List ℕ) (a b : ℕ) (p q : CellSlot) → b < a
    → is_lt (cell_name_cmp (name_at key a p) (name_at key b q)) ≡ false
earlier_archive key a b p q less =
    (λ i. is_lt (ordering_then (tied_itself nat_list_cmp_total key i)
    (ordering_then (nat_cmp a b) (cell_slot_cmp p q))))
    ∙ ap (λ r. is_lt (ordering_then r (cell_slot_cmp p q))) (is_greater a b less)
  where
    is_greater : (m n : ℕ) → n < m → nat_cmp m n ≡ Greater
    is_greater m n h = grind (arith, nat_tests)

module _ (key : List ℕ) (a : ℕ) (p : CellSlot) where
  in_archive : (es : List (CellSlot × Contribution))
      → find (is_past (name_at key a p)) (named_as key a es)
      ≡ option_map (λ e. (name_at key a e.0, e.1)) (find (λ e. is_lt (cell_slot_cmp p e.0)) es)
  in_archive [] = refl
  in_archive (e ∷ es) =
      let rest = find (is_past (name_at key a p)) (named_as key a es) in
      ap (λ r. cond (is_lt r) (Some (name_at key a e.0, e.1)) rest) (same_archive key a p e.0)
      ∙ elim (is_lt (cell_slot_cmp p e.0)) as (λ b. cond b (Some (name_at key a e.0, e.1)) rest
      ≡ option_map (λ f. (name_at key a f.0, f.1)) (cond b (Some e) (find (λ f. is_lt (cell_slot_cmp p f.0)) es))) [
        | true ↦ refl
        | false ↦ in_archive es
      ]

  -- the first cell after the name in its archive, if that is there
  abbrev pub in_own : Option ArchiveCells → Option NamedCell
  in_own None = None
  in_own (Some r) = option_map (λ e. (name_at key a e.0, e.1)) (find (λ e. is_lt (cell_slot_cmp p e.0)) (entries r))

  -- it is in the name's archive, or it is the first cell of the archives after that
  from_first : (j i : ℕ) (rs : List ArchiveCells) → j + i ≡ a
      → find (is_past (name_at key a p)) (cells_from key j rs)
      ≡ option_or (in_own (slice_get rs i)) (slice_get (cells_from key (a + 1) (drop (i + 1) rs)) 0)
  from_first j i [] at = ap (λ rs. slice_get (cells_from key (a + 1) rs) 0) (sym (nothing_left (i + 1)))
  from_first j zero (r ∷ rs) at =
      let same : a ≡ j = omega arith in
      subst (λ x. find (is_past (name_at key a p)) (named_as key x (entries r) ++ cells_from key (x + 1) rs)
      ≡ option_or (in_own (Some r)) (slice_get (cells_from key (a + 1) rs) 0)) same
      (find-append (is_past (name_at key a p)) (named_as key a (entries r)) (cells_from key (a + 1) rs)
      ∙ (λ k. option_or (in_archive (entries r) k) (first_past (name_at key a p) (cells_from key (a + 1) rs)
      (all_from (λ e. is_past (name_at key a p) e ≡ true) key (a + 1) rs
      (λ b q c h. later_archive key a b p q (omega arith))) k)))
  from_first j (suc i) (r ∷ rs) at =
      find-append (is_past (name_at key a p)) (named_as key j (entries r)) (cells_from key (j + 1) rs)
      ∙ ap (λ o. option_or o (find (is_past (name_at key a p)) (cells_from key (j + 1) rs)))
      (none_past (name_at key a p) (named_as key j (entries r))
      (all_named (λ e. is_past (name_at key a p) e ≡ false) key j (entries r)
      (λ q c. earlier_archive key a j p q (omega arith))))
      ∙ from_first (j + 1) i rs (omega arith)
      ∙ ap (λ k. option_or (in_own (slice_get rs i)) (slice_get (cells_from key (a + 1) (drop k (r ∷ rs))) 0))
      (one_more i)
    where
      one_more : (k : ℕ) → suc (k + 1) ≡ suc k + 1
      one_more k = omega arith

  pub own_key : (rs : List ArchiveCells) → find (is_past (name_at key a p)) (cells_from key 0 rs)
      ≡ option_or (in_own (slice_get rs a)) (slice_get (cells_from key (a + 1) (drop (a + 1) rs)) 0)
  own_key rs = from_first 0 a rs (omega arith)

  module _ {X : Type 0} (cells : X → ArchiveCells) (xs : List X) where
    next_here : Option ArchiveCells → Option NamedCell
    next_here o = option_or (in_own o) (first_of key cells xs (a + 1))

    own_archive : (x : X) → a < length xs → x ≡ get_or xs a x → slice_get (map cells xs) a ≡ Some (cells x)
    own_archive x within item = slice_get-map cells xs a
        ∙ ap (option_map cells) (slice_get-get_or xs a x within ∙ ap (λ y. Some y) (sym item))

    -- a cell of the name's archive; the name's key is the same text
    pub own_found : (own : List ℕ) → key ≡ own → (x : X) (cell : ℤ × Entry) → a < length xs → x ≡ get_or xs a x
        → Some cell ≡ option_map cell_of (next_cell (cells x) p)
        → find (is_past (name_at own a p)) (cells_from key 0 (map cells xs))
        ≡ Some (name_at key a (cell_slot cell.0 cell.1.origin), cell.1.contribution)
    unfolding next_here
    own_found own same x cell within item e = subst
        (λ k. find (is_past (name_at k a p)) (cells_from key 0 (map cells xs))
        ≡ Some (name_at key a (cell_slot cell.0 cell.1.origin), cell.1.contribution)) same
        (own_key (map cells xs) ∙ ap next_here (own_archive x within item)
        ∙ ap (λ o. option_or o (first_of key cells xs (a + 1))) (named_cell (next_cell (cells x) p) e))
      where
        named_cell : (o : Option (CellSlot × Contribution)) → Some cell ≡ option_map cell_of o
            → option_map {U = NamedCell} (λ f. (name_at key a f.0, f.1)) o
            ≡ Some (name_at key a (cell_slot cell.0 cell.1.origin), cell.1.contribution)
        named_cell None e = absurd cc
        named_cell (Some f) e = ap (λ o. Some (
          name_at key a
              (cell_slot (unwrap_or o cell).0 (unwrap_or o cell).1.origin),
          (unwrap_or o cell).1.contribution,
        )) (sym e)

    -- none of its archive, and so the first of those after it
    pub own_none : (own : List ℕ) → key ≡ own → (x : X) → a < length xs → x ≡ get_or xs a x
        → None ≡ option_map cell_of (next_cell (cells x) p)
        → find (is_past (name_at own a p)) (cells_from key 0 (map cells xs)) ≡ first_of key cells xs (a + 1)
    unfolding next_here
    own_none own same x within item e = subst (λ k. find (is_past (name_at k a p)) (cells_from key 0 (map cells xs))
        ≡ first_of key cells xs (a + 1)) same
        (own_key (map cells xs) ∙ ap next_here (own_archive x within item)
        ∙ ap (λ o. option_or o (first_of key cells xs (a + 1))) (no_cell (next_cell (cells x) p) e))
      where
        no_cell : (o : Option (CellSlot × Contribution)) → None ≡ option_map cell_of o
            → option_map {U = NamedCell} (λ f. (name_at key a f.0, f.1)) o ≡ None
        no_cell None e = refl
        no_cell (Some f) e = absurd cc

    -- an archive past the schema's last
    pub own_past : (own : List ℕ) → key ≡ own → length xs ≤ a
        → find (is_past (name_at own a p)) (cells_from key 0 (map cells xs)) ≡ None
    unfolding next_here
    own_past own same past = subst (λ k. find (is_past (name_at k a p)) (cells_from key 0 (map cells xs)) ≡ None) same
        (own_key (map cells xs) ∙ ap next_here (slice_get-map cells xs a
        ∙ ap (option_map cells) (slice_get_past xs a past)) ∙ first_none key (a + 1) cells xs (omega arith))

  -- ---- other keys

  pub later_cells : (l : List ℕ) (rs : List ArchiveCells) → bytes_cmp key l ≡ Less
      → find (is_past (name_at key a p)) (cells_from l 0 rs) ≡ slice_get (cells_from l 0 rs) 0
  later_cells l rs less = first_past (name_at key a p) (cells_from l 0 rs)
      (all_from (λ e. is_past (name_at key a p) e ≡ true) l 0 rs (λ i q c h. later_key key l a i p q less))

  pub earlier_cells : (l : List ℕ) (rs : List ArchiveCells) → bytes_cmp key l ≡ Greater
      → find (is_past (name_at key a p)) (cells_from l 0 rs) ≡ None
  earlier_cells l rs greater = none_past (name_at key a p) (cells_from l 0 rs)
      (all_from (λ e. is_past (name_at key a p) e ≡ false) l 0 rs
      (λ i q c h. ap (λ r. is_lt (ordering_then r (ordering_then (nat_cmp a i) (cell_slot_cmp p q)))) greater))

  module _ {X : Type 0} (cells : X → ArchiveCells) where
    -- the first cell of these series after the name
    abbrev pub first_in : List (List ℕ × Vec X) → Option NamedCell
    first_in es = find (is_past (name_at key a p)) (all_cells (held_series cells es))

    pub first_in-cons : (e : List ℕ × Vec X) (es : List (List ℕ × Vec X))
        → first_in (e ∷ es) ≡ option_or (find (is_past (name_at key a p)) (cells_from e.0 0 (map cells e.1.items)))
        (first_in es)
    first_in-cons e es = find-append (is_past (name_at key a p)) (cells_from e.0 0 (map cells e.1.items))
        (all_cells (held_series cells es))

    -- none of them is before the key, and each has few archives
    pub IsFrom : List (List ℕ × Vec X) → Type 0
    IsFrom [] = Unit {0}
    IsFrom (e ∷ es) = (is_le (bytes_cmp key e.0) ≡ true) × (length e.1.items ≤ MAX_ARCHIVES) × IsFrom es

    -- what is left of the series from the key on has the first cell after the name
    pub record LeftFrom (all left : List (List ℕ × Vec X)) : Type 0 where
      pub from : IsFrom left
      pub first : first_in left ≡ first_in all

    find-filter : (keep : List ℕ × Vec X → Bool) (es : List (List ℕ × Vec X))
        → ((e : List ℕ × Vec X) → keep e ≡ false → bytes_cmp key e.0 ≡ Greater)
        → first_in (filter keep es) ≡ first_in es
    find-filter keep [] before = refl
    find-filter keep (e ∷ es) before =
        let rest = find-filter keep es before in
        elim (keep e) as (λ b. keep e ≡ b → first_in (cond b (e ∷ filter keep es) (filter keep es)) ≡ first_in (e ∷ es)) [
          | true ↦ λ t. first_in-cons e (filter keep es)
              ∙ ap (option_or (find (is_past (name_at key a p)) (cells_from e.0 0 (map cells e.1.items)))) rest
              ∙ sym (first_in-cons e es)
          | false ↦ λ t. rest ∙ ap (λ o. option_or o (first_in es))
              (sym (earlier_cells e.0 (map cells e.1.items) (before e t))) ∙ sym (first_in-cons e es)
        ] refl

    from_filter : (keep : List ℕ × Vec X → Bool) (es : List (List ℕ × Vec X))
        → AllByRecursion (λ e. length e.1.items ≤ MAX_ARCHIVES) es
        → ((e : List ℕ × Vec X) → keep e ≡ true → is_le (bytes_cmp key e.0) ≡ true) → IsFrom (filter keep es)
    unfolding IsFrom
    from_filter keep [] few kept = tt
    from_filter keep (e ∷ es) few kept = elim (keep e) as
        (λ b. keep e ≡ b → IsFrom (cond b (e ∷ filter keep es) (filter keep es))) [
          | true ↦ λ t. (kept e t, few.0, from_filter keep es few.1 kept)
          | false ↦ λ t. from_filter keep es few.1 kept
        ] refl

    pub left_from : (all left : List (List ℕ × Vec X)) → AllByRecursion (λ e. length e.1.items ≤ MAX_ARCHIVES) all
        → left ≡ entries_between bytes_cmp (Included key) Unbounded all → LeftFrom all left
    left_from all left few is = subst (LeftFrom all) (sym is) (record {
      from = from_filter _ all few (λ e t. at_or_after (bytes_cmp key e.0) t);
      first = find-filter _ all (λ e t. is_before (bytes_cmp key e.0) t);
    })
      where
        at_or_after : (r : Ordering) → (is_le r && true) ≡ true → is_le r ≡ true
        at_or_after Less t = refl
        at_or_after Equal t = refl
        at_or_after Greater t = t

        is_before : (r : Ordering) → (is_le r && true) ≡ false → r ≡ Greater
        is_before Less t = absurd cc
        is_before Equal t = absurd cc
        is_before Greater t = refl

    -- a key that has no cell after the name
    pub left_more : (all left rest : List (List ℕ × Vec X)) (e : List ℕ × Vec X) → LeftFrom all left → left ≡ e ∷ rest
        → find (is_past (name_at key a p)) (cells_from e.0 0 (map cells e.1.items)) ≡ None → LeftFrom all rest
    unfolding IsFrom
    left_more all left rest e l is none = record {
      from = (subst IsFrom is l.from).2;
      first =
          ap (λ o. option_or o (first_in rest)) (sym none)
          ∙ sym (first_in-cons e rest)
          ∙ ap first_in (sym is) ∙ l.first;
    }

    -- one that has
    pub left_found : (all left rest : List (List ℕ × Vec X)) (e : List ℕ × Vec X) (c : NamedCell) → LeftFrom all left
        → left ≡ e ∷ rest → find (is_past (name_at key a p)) (cells_from e.0 0 (map cells e.1.items)) ≡ Some c
        → first_in all ≡ Some c
    left_found all left rest e c l is some =
        sym l.first ∙ ap first_in is ∙ first_in-cons e rest ∙ ap (λ o. option_or o (first_in rest)) some

    pub left_none : (all left : List (List ℕ × Vec X)) → LeftFrom all left → left ≡ [] → first_in all ≡ None
    left_none all left l is = sym l.first ∙ ap first_in is

    -- the key of the first of them is not before the name's, and it has few archives
    pub next_key : (all left rest : List (List ℕ × Vec X)) (e : List ℕ × Vec X) → LeftFrom all left → left ≡ e ∷ rest
        → (is_le (bytes_cmp key e.0) ≡ true) × (length e.1.items ≤ MAX_ARCHIVES)
    unfolding IsFrom
    next_key all left rest e l is = let from = subst IsFrom is l.from in (from.0, from.1)
