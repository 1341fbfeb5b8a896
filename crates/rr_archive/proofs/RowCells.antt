-- The cells of one row, before those of later rows.
use Rattle.std.proofs.Common.{◌≡◌, ℕ, ◌<◌, ℤ, Bool, true, false, cond, ◌&&◌, ◌||◌, T, List, [], ◌∷◌, ◌++◌, map, length, refl, sym, ap, ◌∙◌, Option, Some, None, Less, Equal, Greater, int_cmp, nat_cmp, arith, eqb, ltb, zero, suc, ◌-◌, ◌≤◌, get_or}
use Rattle.std.specs.Prelude.{int_lt}
use Rattle.std.specs.List.{filter, slice_get}
use Rattle.std.specs.List.{find as find_by}
use Rattle.std.specs.Option.{option_map, option_or}
use Rattle.std.specs.Ordering.{ordering_then, is_lt, is_eq, int_eq}
use Rattle.std.specs.Cmp.{int_cmp_total, eq_by_cmp_equiv}
use Rattle.std.specs.FinMap.{find, is_sorted}
use Rattle.std.specs.FinMap.Entries.{below_all}
use Rattle.std.proofs.lemmas.Bool.{ltb-true, and_from}
use Rattle.std.proofs.lemmas.Bool.Decides.{nat_tests}
use Rattle.std.proofs.lemmas.Int.{ints}
use Rattle.std.proofs.lemmas.List.Folds.{find-append}
use Rattle.rr_join.proofs.Booleans.{and_first, and_second, T_from_true, T_and, first_T, second_T}
use Rattle.rr_contrib.specs.declared.contribution.Contribution.{Contribution}
use Rattle.rr_archive.specs.declared.entry.Entry.{Entry}
use Rattle.rr_archive.specs.CellSlots.{CellSlot, cell_slot, cell_slot_cmp}
use Rattle.rr_archive.specs.Cells.{entry_of, cell_of}
use Rattle.rr_archive.specs.Row.{entry_at, is_after, ascends_from, ascends}
use Rattle.rr_archive.proofs.RowLemmas.{entry_at-cons}
use Rattle.rr_archive.proofs.ArchiveStateLemmas.{cell_slots_tie}

-- the cells of the entries of a slot
abbrev pub row_cells : ℤ → List Entry → List (CellSlot × Contribution)
row_cells slot es = map (λ e. (cell_slot slot e.origin, e.contribution)) es

-- ---- in order

-- a cell slot is below one of a later slot, or of a greater origin in its slot
before_slot : (s t : ℤ) (o p : ℕ) → int_cmp s t ≡ Less → is_lt (cell_slot_cmp (cell_slot s o) (cell_slot t p)) ≡ true
before_slot s t o p h = ap (λ r. is_lt (ordering_then r (nat_cmp o p))) h

before_origin : (s : ℤ) (o p : ℕ) → o < p → is_lt (cell_slot_cmp (cell_slot s o) (cell_slot s p)) ≡ true
before_origin s o p h = ap (λ r. is_lt (ordering_then r (nat_cmp o p))) (slot_same s) ∙ ap is_lt (origin_less o p h)
  where
    slot_same : (s : ℤ) → int_cmp s s ≡ Equal
    slot_same s = grind (arith, ints)

    origin_less : (m n : ℕ) → m < n → nat_cmp m n ≡ Less
    origin_less m n h = grind (arith, nat_tests)

ascends_from-lower : (low high : ℕ) (es : List Entry) → low < high → ascends_from high es ≡ true
    → ascends_from low es ≡ true
ascends_from-lower low high [] h a = refl
ascends_from-lower low high (e ∷ es) h a =
    let above = ltb-true high e.origin (and_first (ltb high e.origin) _ a) in
    and_from (ltb low e.origin) _ (lt_test low e.origin (omega arith)) (and_second (ltb high e.origin) _ a)
  where
    lt_test : (m n : ℕ) → m < n → ltb m n ≡ true
    lt_test m n h = grind (arith, nat_tests)

below_row : (s : ℤ) (o : ℕ) (es : List Entry) → ascends_from o es ≡ true
    → T (below_all cell_slot_cmp (cell_slot s o) (row_cells s es))
below_row s o [] a = tt
below_row s o (e ∷ es) a =
    let less = ltb-true o e.origin (and_first (ltb o e.origin) _ a) in
    T_and _ _ (T_from_true _ (before_origin s o e.origin less))
    (below_row s o es (ascends_from-lower o e.origin es less (and_second (ltb o e.origin) _ a)))

pub below_later : (s : ℤ) (o : ℕ) (t : ℤ) (es : List Entry) → int_cmp s t ≡ Less
    → T (below_all cell_slot_cmp (cell_slot s o) (row_cells t es))
below_later s o t [] h = tt
below_later s o t (e ∷ es) h = T_and _ _ (T_from_true _ (before_slot s t o e.origin h)) (below_later s o t es h)

pub below_append : (x : CellSlot) (es fs : List (CellSlot × Contribution)) → T (below_all cell_slot_cmp x es)
    → T (below_all cell_slot_cmp x fs) → T (below_all cell_slot_cmp x (es ++ fs))
below_append x [] fs p q = q
below_append x (e ∷ es) fs p q = T_and _ _ (first_T _ _ p)
    (below_append x es fs (second_T (is_lt (cell_slot_cmp x e.0)) _ p) q)

sorted_row : (s : ℤ) (o : ℕ) (es : List Entry) (rest : List (CellSlot × Contribution)) → ascends_from o es ≡ true
    → ((p : ℕ) → T (below_all cell_slot_cmp (cell_slot s p) rest)) → T (is_sorted cell_slot_cmp rest)
    → T (is_sorted cell_slot_cmp (row_cells s es ++ rest))
sorted_row s o [] rest a later sorted = sorted
sorted_row s o (e ∷ es) rest a later sorted =
    let behind = and_second (ltb o e.origin) _ a in
    T_and _ _ (below_append (cell_slot s e.origin) (row_cells s es) rest (below_row s e.origin es behind)
    (later e.origin)) (sorted_row s e.origin es rest behind later sorted)

-- the cells of a row, before those of later slots
pub sorted_first : (s : ℤ) (es : List Entry) (rest : List (CellSlot × Contribution)) → ascends es ≡ true
    → ((p : ℕ) → T (below_all cell_slot_cmp (cell_slot s p) rest)) → T (is_sorted cell_slot_cmp rest)
    → T (is_sorted cell_slot_cmp (row_cells s es ++ rest))
sorted_first s [] rest a later sorted = sorted
sorted_first s (e ∷ es) rest a later sorted = T_and _ _
    (below_append (cell_slot s e.origin) (row_cells s es) rest (below_row s e.origin es a) (later e.origin))
    (sorted_row s e.origin es rest a later sorted)

-- ---- what stands at a cell slot

pub find_row : (s : ℤ) (es : List Entry) (rest : List (CellSlot × Contribution)) (q : CellSlot)
    → find cell_slot_cmp q (row_cells s es ++ rest)
    ≡ cond (is_eq (int_cmp q.slot s)) (option_or (entry_at es q.origin) (find cell_slot_cmp q rest))
    (find cell_slot_cmp q rest)
find_row s [] rest q = same_either (is_eq (int_cmp q.slot s)) (find cell_slot_cmp q rest)
  where
    same_either : (b : Bool) (x : Option Contribution) → x ≡ cond b x x
    same_either true x = refl
    same_either false x = refl
find_row s (e ∷ es) rest q =
    let later = find cell_slot_cmp q rest in
    ap (λ b. cond b (Some e.contribution) (find cell_slot_cmp q (row_cells s es ++ rest)))
    (cell_slots_tie q (cell_slot s e.origin) ∙ ap (λ b. b && eqb e.origin q.origin)
    ((eq_by_cmp_equiv int_cmp_total).symm s q.slot))
    ∙ ap (cond (is_eq (int_cmp q.slot s) && eqb e.origin q.origin) (Some e.contribution)) (find_row s es rest q)
    ∙ either_entry (is_eq (int_cmp q.slot s)) (eqb e.origin q.origin) e.contribution (entry_at es q.origin) later
    ∙ ap (λ o. cond (is_eq (int_cmp q.slot s)) (option_or o later) later) (sym (entry_at-cons e es q.origin))
  where
    either_entry : (a b : Bool) (x : Contribution) (o later : Option Contribution)
        → cond (a && b) (Some x) (cond a (option_or o later) later) ≡ cond a (option_or (cond b (Some x) o) later) later
    either_entry true true x o later = refl
    either_entry true false x o later = refl
    either_entry false b x o later = refl

-- ---- the entries of a slot

abbrev pub at_slot : ℤ → CellSlot × Contribution → Bool
at_slot slot e = int_eq e.0.slot slot

pub kept_row : (s slot : ℤ) (es : List Entry) → int_eq s slot ≡ true
    → map entry_of (filter (at_slot slot) (row_cells s es)) ≡ es
kept_row s slot [] h = refl
kept_row s slot (e ∷ es) h = ap (λ b. map entry_of
    (cond b ((cell_slot s e.origin, e.contribution) ∷ filter (at_slot slot) (row_cells s es))
    (filter (at_slot slot) (row_cells s es)))) h ∙ ap (λ l. e ∷ l) (kept_row s slot es h)

pub dropped_row : (s slot : ℤ) (es : List Entry) → int_eq s slot ≡ false → filter (at_slot slot) (row_cells s es) ≡ []
dropped_row s slot [] h = refl
dropped_row s slot (e ∷ es) h = ap (λ b. cond b ((cell_slot s e.origin, e.contribution) ∷ filter (at_slot slot)
    (row_cells s es)) (filter (at_slot slot) (row_cells s es))) h ∙ dropped_row s slot es h

-- ---- the cell with a number

pub cell_here : (s : ℤ) (es : List Entry) (rest : List (CellSlot × Contribution)) (i : ℕ) (d : Entry) → i < length es
    → option_map cell_of (slice_get (row_cells s es ++ rest) i) ≡ Some (s, get_or es i d)
cell_here s [] rest i d lt = absurd (omega arith)
cell_here s (e ∷ es) rest zero d lt = refl
cell_here s (e ∷ es) rest (suc i) d lt = cell_here s es rest i d (omega arith)

pub cell_later : (s : ℤ) (es : List Entry) (rest : List (CellSlot × Contribution)) (i : ℕ) → length es ≤ i
    → slice_get (row_cells s es ++ rest) i ≡ slice_get rest (i - length es)
cell_later s [] rest i le = ap (slice_get rest) (omega arith)
cell_later s (e ∷ es) rest zero le = absurd (omega arith)
cell_later s (e ∷ es) rest (suc i) le = cell_later s es rest i (omega arith) ∙ ap (slice_get rest) (omega arith)

-- ---- the first cell after a cell slot

-- whether a cell is after a cell slot
abbrev pub is_past : CellSlot → CellSlot × Contribution → Bool
is_past p e = is_lt (cell_slot_cmp p e.0)

after_is : (slot at : ℤ) (o n : ℕ) → int_lt at slot ≡ false
    → is_lt (cell_slot_cmp (cell_slot slot o) (cell_slot at n)) ≡ (int_lt slot at || ltb o n)
after_is slot at o n h = elim (int_lt slot at) as
    (λ b. is_lt (ordering_then (cond b Less (cond (int_lt at slot) Greater Equal)) (nat_cmp o n)) ≡ (b || ltb o n)) [
      | true ↦ refl
      | false ↦ ap (λ c. is_lt (ordering_then (cond c Greater Equal) (nat_cmp o n))) h ∙ less_is o n
    ]
  where
    less_is : (a b : ℕ) → is_lt (nat_cmp a b) ≡ ltb a b
    less_is a b = grind (arith, nat_tests)

not_after : (slot at : ℤ) (o n : ℕ) → int_lt at slot ≡ true
    → is_lt (cell_slot_cmp (cell_slot slot o) (cell_slot at n)) ≡ false
not_after slot at o n h = ap (λ r. is_lt (ordering_then r (nat_cmp o n))) (above slot at h)
  where
    above : (x y : ℤ) → int_lt y x ≡ true → int_cmp x y ≡ Greater
    above x y h = grind (arith, ints)

pub none_in_row : (slot at : ℤ) (o : ℕ) (es : List Entry) → int_lt at slot ≡ true
    → find_by (is_past (cell_slot slot o)) (row_cells at es) ≡ None
none_in_row slot at o [] h = refl
none_in_row slot at o (e ∷ es) h =
    ap (λ b. cond b (Some (cell_slot at e.origin, e.contribution))
    (find_by (is_past (cell_slot slot o)) (row_cells at es))) (not_after slot at o e.origin h)
    ∙ none_in_row slot at o es h

in_row : (slot at : ℤ) (o : ℕ) (es : List Entry) → int_lt at slot ≡ false
    → option_map cell_of (find_by (is_past (cell_slot slot o)) (row_cells at es))
    ≡ option_map (λ e. (at, e)) (find_by (is_after (int_lt slot at) o) es)
in_row slot at o [] h = refl
in_row slot at o (e ∷ es) h =
    let rest = find_by (is_past (cell_slot slot o)) (row_cells at es) in
    ap (λ b. option_map cell_of (cond b (Some (cell_slot at e.origin, e.contribution)) rest))
    (after_is slot at o e.origin h)
    ∙ elim (is_after (int_lt slot at) o e) as (λ b. option_map cell_of
    (cond b (Some (cell_slot at e.origin, e.contribution)) rest)
    ≡ option_map (λ x. (at, x)) (cond b (Some e) (find_by (is_after (int_lt slot at) o) es))) [
      | true ↦ refl
      | false ↦ in_row slot at o es h
    ]

map_or : {X Y : Type 0} (f : X → Y) (a b : Option X)
    → option_map f (option_or a b) ≡ option_or (option_map f a) (option_map f b)
map_or f None b = refl
map_or f (Some x) b = refl

-- the first of a row's, or else of those after it
pub first_past : (slot at : ℤ) (o : ℕ) (es : List Entry) (rest : List (CellSlot × Contribution))
    → int_lt at slot ≡ false → option_map cell_of (find_by (is_past (cell_slot slot o)) (row_cells at es ++ rest))
    ≡ option_or (option_map (λ e. (at, e)) (find_by (is_after (int_lt slot at) o) es))
    (option_map cell_of (find_by (is_past (cell_slot slot o)) rest))
first_past slot at o es rest h =
    let p = cell_slot slot o in
    ap (option_map cell_of) (find-append (is_past p) (row_cells at es) rest)
    ∙ map_or cell_of (find_by (is_past p) (row_cells at es)) (find_by (is_past p) rest)
    ∙ ap (λ a. option_or a (option_map cell_of (find_by (is_past p) rest))) (in_row slot at o es h)
