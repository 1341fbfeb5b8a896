-- The cells of all series are listed in order.
use Rattle.std.proofs.Common.{◌≡◌, ℕ, ◌+◌, ◌<◌, true, ◌&&◌, T, List, [], ◌∷◌, ◌++◌, map, refl, sym, ap, ◌∙◌, subst, arith, Less, nat_cmp}
use Rattle.std.specs.List.{AllByRecursion}
use Rattle.std.specs.List.Sorted.{IsStrictlySortedBy}
use Rattle.std.specs.Map.{keys_of}
use Rattle.std.specs.Ordering.{ordering_then, is_lt}
use Rattle.std.specs.Cmp.{tied_itself, nat_cmp_total}
use Rattle.std.specs.Cmp.Lexicographic.{nat_list_cmp_total}
use Rattle.std.specs.FinMap.{entries, entries_sorted, from_sorted, entries-from_sorted, get-from_sorted, get-from_entries, same_map, is_sorted}
use Rattle.std.specs.FinMap.Entries.{below_all}
use Rattle.std.proofs.lemmas.Bool.Decides.{nat_tests}
use Rattle.rr_join.proofs.Booleans.{T_from_true, T_and, first_T, second_T}
use Rattle.rr_contrib.specs.declared.contribution.Contribution.{Contribution}
use Rattle.rr_archive.specs.CellSlots.{CellSlot, cell_slot_cmp}
use Rattle.rr_archive.specs.Cells.{ArchiveCells}
use Rattle.rr_cells.specs.CellNames.{CellName, cell_name_cmp}
use Rattle.rr_cells.proofs.Orders.{cell_name_cmp_total, cell_name_cmp-IsAntisymmetric}
use Rattle.rr_cells.specs.Cells.{name_at}
use Rattle.rr_text.specs.Bytes.{bytes_cmp}
use Rattle.rr_replica.specs.Series.{Series, cells_from, all_cells, cells_of}

abbrev Listing : Type 0
Listing = List (CellName × Contribution)

-- ---- lists one after the other

AllBelow : Listing → Listing → Type 0
AllBelow [] ys = Unit {0}
AllBelow (x ∷ xs) ys = T (below_all cell_name_cmp x.0 ys) × AllBelow xs ys

below_append : (n : CellName) (xs ys : Listing) → T (below_all cell_name_cmp n xs) → T (below_all cell_name_cmp n ys)
    → T (below_all cell_name_cmp n (xs ++ ys))
below_append n [] ys p q = q
below_append n (x ∷ xs) ys p q = T_and _ _ (first_T _ _ p)
    (below_append n xs ys (second_T (is_lt (cell_name_cmp n x.0)) _ p) q)

sorted_append : (xs ys : Listing) → T (is_sorted cell_name_cmp xs) → T (is_sorted cell_name_cmp ys) → AllBelow xs ys
    → T (is_sorted cell_name_cmp (xs ++ ys))
unfolding AllBelow
sorted_append [] ys p q all = q
sorted_append (x ∷ xs) ys p q all = T_and _ _ (below_append x.0 xs ys (first_T _ _ p) all.0)
    (sorted_append xs ys (second_T (below_all cell_name_cmp x.0 xs) _ p) q all.1)

-- ---- one archive

abbrev pub named_as : List ℕ → ℕ → List (CellSlot × Contribution) → Listing
named_as key archive es = map (λ e. (name_at key archive e.0, e.1)) es

pub same_archive : (key : List ℕ) (archive : ℕ) (p q : CellSlot)
    → cell_name_cmp (name_at key archive p) (name_at key archive q) ≡ cell_slot_cmp p q
same_archive key archive p q =
    (λ i. ordering_then (tied_itself nat_list_cmp_total key i)
    (ordering_then (nat_cmp archive archive) (cell_slot_cmp p q)))
    ∙ ap (λ r. ordering_then r (cell_slot_cmp p q)) (tied_itself nat_cmp_total archive)

below_named : (key : List ℕ) (archive : ℕ) (p : CellSlot) (es : List (CellSlot × Contribution))
    → below_all cell_name_cmp (name_at key archive p) (named_as key archive es) ≡ below_all cell_slot_cmp p es
below_named key archive p [] = refl
below_named key archive p (e ∷ es) = λ i. is_lt (same_archive key archive p e.0 i) && below_named key archive p es i

sorted_named : (key : List ℕ) (archive : ℕ) (es : List (CellSlot × Contribution))
    → is_sorted cell_name_cmp (named_as key archive es) ≡ is_sorted cell_slot_cmp es
sorted_named key archive [] = refl
sorted_named key archive (e ∷ es) = λ i. below_named key archive e.0 es i && sorted_named key archive es i

-- ---- the archives of a key

pub later_archive : (key : List ℕ) (a b : ℕ) (p q : CellSlot) → a < b
    → is_lt (cell_name_cmp (name_at key a p) (name_at key b q)) ≡ true
later_archive key a b p q less =
    (λ i. is_lt (ordering_then (tied_itself nat_list_cmp_total key i)
    (ordering_then (nat_cmp a b) (cell_slot_cmp p q))))
    ∙ ap (λ r. is_lt (ordering_then r (cell_slot_cmp p q))) (is_less a b less)
  where
    is_less : (m n : ℕ) → m < n → nat_cmp m n ≡ Less
    is_less m n h = grind (arith, nat_tests)

below_archive : (key : List ℕ) (a b : ℕ) (p : CellSlot) (es : List (CellSlot × Contribution)) → a < b
    → T (below_all cell_name_cmp (name_at key a p) (named_as key b es))
below_archive key a b p [] less = tt
below_archive key a b p (e ∷ es) less = T_and _ _ (T_from_true _ (later_archive key a b p e.0 less))
    (below_archive key a b p es less)

below_archives : (key : List ℕ) (a b : ℕ) (p : CellSlot) (rs : List ArchiveCells) → a < b
    → T (below_all cell_name_cmp (name_at key a p) (cells_from key b rs))
below_archives key a b p [] less = tt
below_archives key a b p (r ∷ rs) less = below_append (name_at key a p) (named_as key b (entries r))
    (cells_from key (b + 1) rs) (below_archive key a b p (entries r) less)
    (below_archives key a (b + 1) p rs (omega arith))

all_below_archives : (key : List ℕ) (a : ℕ) (es : List (CellSlot × Contribution)) (rs : List ArchiveCells)
    → AllBelow (named_as key a es) (cells_from key (a + 1) rs)
unfolding AllBelow
all_below_archives key a [] rs = tt
all_below_archives key a (e ∷ es) rs = (
  below_archives key a (a + 1) e.0 rs (omega arith),
  all_below_archives key a es rs,
)

sorted_from : (key : List ℕ) (first : ℕ) (rs : List ArchiveCells)
    → T (is_sorted cell_name_cmp (cells_from key first rs))
sorted_from key first [] = tt
sorted_from key first (r ∷ rs) = sorted_append (named_as key first (entries r)) (cells_from key (first + 1) rs)
    (subst T (sym (sorted_named key first (entries r))) (entries_sorted r)) (sorted_from key (first + 1) rs)
    (all_below_archives key first (entries r) rs)

-- ---- all keys

pub later_key : (k l : List ℕ) (a b : ℕ) (p q : CellSlot) → bytes_cmp k l ≡ Less
    → is_lt (cell_name_cmp (name_at k a p) (name_at l b q)) ≡ true
later_key k l a b p q less = ap (λ r. is_lt (ordering_then r (ordering_then (nat_cmp a b) (cell_slot_cmp p q)))) less

below_row_of : (k l : List ℕ) (a b : ℕ) (p : CellSlot) (es : List (CellSlot × Contribution)) → bytes_cmp k l ≡ Less
    → T (below_all cell_name_cmp (name_at k a p) (named_as l b es))
below_row_of k l a b p [] less = tt
below_row_of k l a b p (e ∷ es) less = T_and _ _ (T_from_true _ (later_key k l a b p e.0 less))
    (below_row_of k l a b p es less)

below_key : (k l : List ℕ) (a b : ℕ) (p : CellSlot) (rs : List ArchiveCells) → bytes_cmp k l ≡ Less
    → T (below_all cell_name_cmp (name_at k a p) (cells_from l b rs))
below_key k l a b p [] less = tt
below_key k l a b p (r ∷ rs) less = below_append (name_at k a p) (named_as l b (entries r)) (cells_from l (b + 1) rs)
    (below_row_of k l a b p (entries r) less) (below_key k l a (b + 1) p rs less)

below_keys : (k : List ℕ) (a : ℕ) (p : CellSlot) (es : Series) → AllByRecursion (λ l. bytes_cmp k l ≡ Less) (keys_of es)
    → T (below_all cell_name_cmp (name_at k a p) (all_cells es))
below_keys k a p [] later = tt
below_keys k a p (e ∷ es) later = below_append (name_at k a p) (cells_from e.0 0 e.1) (all_cells es)
    (below_key k e.0 a 0 p e.1 later.0) (below_keys k a p es later.1)

row_below_keys : (k : List ℕ) (a : ℕ) (cells : List (CellSlot × Contribution)) (es : Series)
    → AllByRecursion (λ l. bytes_cmp k l ≡ Less) (keys_of es) → AllBelow (named_as k a cells) (all_cells es)
unfolding AllBelow
row_below_keys k a [] es later = tt
row_below_keys k a (c ∷ cells) es later = (below_keys k a c.0 es later, row_below_keys k a cells es later)

append_below : (xs ys zs : Listing) → AllBelow xs zs → AllBelow ys zs → AllBelow (xs ++ ys) zs
unfolding AllBelow
append_below [] ys zs p q = q
append_below (x ∷ xs) ys zs p q = (p.0, append_below xs ys zs p.1 q)

all_below_keys : (k : List ℕ) (first : ℕ) (rs : List ArchiveCells) (es : Series)
    → AllByRecursion (λ l. bytes_cmp k l ≡ Less) (keys_of es) → AllBelow (cells_from k first rs) (all_cells es)
unfolding AllBelow
all_below_keys k first [] es later = tt
all_below_keys k first (r ∷ rs) es later = append_below (named_as k first (entries r)) (cells_from k (first + 1) rs)
    (all_cells es) (row_below_keys k first (entries r) es later) (all_below_keys k (first + 1) rs es later)

sorted_all : (es : Series) → IsStrictlySortedBy bytes_cmp (keys_of es) → T (is_sorted cell_name_cmp (all_cells es))
unfolding IsStrictlySortedBy
sorted_all [] sorted = tt
sorted_all (e ∷ es) sorted = sorted_append (cells_from e.0 0 e.1) (all_cells es) (sorted_from e.0 0 e.1)
    (sorted_all es sorted.1) (all_below_keys e.0 0 e.1 es sorted.0)

-- the cells of all series, in order
pub entries-cells_of : (series : Series) → IsStrictlySortedBy bytes_cmp (keys_of series)
    → entries (cells_of series) ≡ all_cells series
unfolding cells_of
entries-cells_of series ordered =
    let sorted = sorted_all series ordered in
    ap entries (same_map cell_name_cmp_total cell_name_cmp-IsAntisymmetric (cells_of series)
    (from_sorted (all_cells series)) (λ q.
    get-from_entries cell_name_cmp_total (all_cells series) q
    ∙ sym (get-from_sorted cell_name_cmp (all_cells series) q sorted)))
    ∙ entries-from_sorted cell_name_cmp (all_cells series) sorted
