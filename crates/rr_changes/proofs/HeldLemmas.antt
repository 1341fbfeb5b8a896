-- Cells that are held already, and how one is found.
use Rattle.std.proofs.Common.{◌≡◌, ◌≢◌, ℕ, ◌≤◌, ◌<◌, ◌==◌, ◌-◌, ℤ, pos, ◌-ℤ◌, Bool, true, false, cond, not, ◌&&◌, ◌||◌, T, List, [], ◌∷◌, refl, sym, ap, ◌∙◌, subst, arith, true≢false, Option, Some, None, Ordering, Less, Equal, Greater}
use Rattle.std.specs.Prelude.{int_lt, nat_lt}
use Rattle.std.specs.Cmp.{nat_cmp_total}
use Rattle.std.specs.FinMap.{entries, entries_sorted, get, get-entries, is_sorted}
use Rattle.std.specs.FinMap.Entries.{below_all, find}
use Rattle.std.specs.List.{AllByRecursion}
use Rattle.std.specs.Ordering.{eq_by_cmp, is_eq, is_lt, int_cmp, nat_cmp, ordering_reverse, ordering_then}
use Rattle.std.specs.Cmp.Lexicographic.{slice_cmp, nat_list_cmp_total}
use Rattle.std.proofs.lemmas.Bool.{eq-eqb, eqb-true}
use Rattle.std.proofs.lemmas.Int.{ints}
use Rattle.rr_text.specs.declared.limits.TheConstants.{MAX_ORIGIN}
use Rattle.rr_schema.specs.Origin.{IsOrigin}
use Rattle.rr_schema.specs.Schema.{Layout}
use Rattle.rr_join.proofs.Booleans.{first_T, second_T, true_from_T}
use Rattle.rr_contrib.specs.declared.contribution.Contribution.{Contribution}
use Rattle.rr_cells.specs.declared.op.Op.TheVariants.{Join}
use Rattle.rr_cells.specs.CellNames.{CellName, cell_name_cmp}
use Rattle.rr_cells.specs.CellBounds.{IsCellOf, NamedCell}
use Rattle.rr_cells.specs.Cells.{Cells}
use Rattle.rr_cells.specs.Listing.{cell_name, first_after, next_cell, owned_cell}
use Rattle.rr_cells.specs.Operations.{accepts, with_op}
use Rattle.rr_cells.specs.ReplicaState.{IsReplicaState, ReplicaState}
use Rattle.rr_cells.proofs.HeldCells.{all_held}
use Rattle.rr_cells.proofs.Orders.{cell_name_cmp_total}
use Rattle.rr_replica.proofs.NextCell.{is_past}
use Rattle.rr_delta.proofs.Walks.{before_both}
use Rattle.rr_changes.specs.Held.{at_name, before_of}
use Rattle.rr_changes.specs.Updates.{is_at_least, is_held}
use Rattle.rr_changes.specs.UpdateLaws.{HeldCellsChangeNothing}
use Rattle.rr_changes.proofs.HoldingLemmas.{join_held_cell}

pub held_cells_change_nothing : HeldCellsChangeNothing
held_cells_change_nothing h c goes held =
    elim (accepts h (Join c)) as (λ b. (cond b (with_op h (Join c)) h).cells ≡ h.cells) [
      | true ↦ join_held_cell h.schema h.cells (owned_cell c).0 c.contribution goes.live held
      | false ↦ refl
    ]

-- ---- the name right before

-- a name is after one exactly if it is not before another: the first is right before the other
abbrev pub IsRightBefore : CellName → CellName → NamedCell → Type 0
IsRightBefore p n e = is_past p e ≡ not (is_lt (cell_name_cmp e.0 n))

turned : (a b r back : Ordering) → is_lt r ≡ not (is_lt back)
    → is_lt (ordering_then a (ordering_then b r))
    ≡ not (is_lt (ordering_then (ordering_reverse a) (ordering_then (ordering_reverse b) back)))
turned Less b r back h = refl
turned Greater b r back h = refl
turned Equal Less r back h = refl
turned Equal Greater r back h = refl
turned Equal Equal r back h = h

lexical : (a b : ℤ) (c d : ℕ) → is_lt (ordering_then (int_cmp a b) (nat_cmp c d))
    ≡ (int_lt a b || (not (int_lt b a) && nat_lt c d))
lexical a b c d = by_case (int_lt a b) (int_lt b a) (nat_lt c d) (c == d)
  where
    by_case : (p q l e : Bool) → is_lt (ordering_then (cond p Less (cond q Greater Equal)) (cond l Less (cond e Equal Greater)))
        ≡ (p || (not q && l))
    by_case true q l e = refl
    by_case false true l e = refl
    by_case false false true e = refl
    by_case false false false true = refl
    by_case false false false false = refl

-- before the first origin of a slot comes the last one of the slot before
first_origin : (slot s : ℤ) (o : ℕ) → IsOrigin o
    → (int_lt (slot -ℤ pos 1) s || (not (int_lt s (slot -ℤ pos 1)) && nat_lt MAX_ORIGIN o))
    ≡ not (int_lt s slot || (not (int_lt slot s) && nat_lt o 1))
first_origin slot s o is = let least = is.at_least in let most = is.at_most in grind (arith, ints)

-- before another the origin of one less
next_origin : (slot s : ℤ) (origin o : ℕ) → 1 ≤ origin
    → (int_lt slot s || (not (int_lt s slot) && nat_lt (origin - 1) o))
    ≡ not (int_lt s slot || (not (int_lt slot s) && nat_lt o origin))
next_origin slot s origin o some = grind (arith, ints)

-- the order of a slot and an origin and of those right before
abbrev pub IsTurned : ℤ → ℕ → ℤ → ℕ → ℤ × ℕ → Type 0
IsTurned slot origin s o before = is_lt (ordering_then (int_cmp before.0 s) (nat_cmp before.1 o))
    ≡ not (is_lt (ordering_then (int_cmp s slot) (nat_cmp o origin)))

slots_turned : (slot s : ℤ) (origin o : ℕ) → 1 ≤ origin → IsOrigin o → IsTurned slot origin s o (before_of slot origin)
slots_turned slot s origin o some is = elim (origin == 1) as (λ b. (origin == 1) ≡ b
    → IsTurned slot origin s o (cond b (slot -ℤ pos 1, MAX_ORIGIN) (slot, origin - 1))) [
      | true ↦ λ t. subst (λ n. IsTurned slot n s o (slot -ℤ pos 1, MAX_ORIGIN)) (sym (eqb-true origin 1 t))
          (lexical (slot -ℤ pos 1) s MAX_ORIGIN o ∙ first_origin slot s o is ∙ ap not (sym (lexical s slot o 1)))
      | false ↦ λ t. lexical slot s (origin - 1) o ∙ next_origin slot s origin o some
          ∙ ap not (sym (lexical s slot o origin))
    ] refl

right_before : (key : List ℕ) (archive : ℕ) (slot : ℤ) (origin : ℕ) (e : NamedCell) → 1 ≤ origin → IsOrigin e.0.origin
    → IsRightBefore (cell_name key archive (before_of slot origin).0 (before_of slot origin).1)
    (cell_name key archive slot origin) e
right_before key archive slot origin e some is =
    let back = ordering_then (int_cmp e.0.slot slot) (nat_cmp e.0.origin origin) in
    turned (slice_cmp nat_cmp key e.0.key) (nat_cmp archive e.0.archive)
    (ordering_then (int_cmp (before_of slot origin).0 e.0.slot) (nat_cmp (before_of slot origin).1 e.0.origin))
    back (slots_turned slot e.0.slot origin e.0.origin some is)
    ∙ (λ i. not (is_lt (ordering_then (sym (nat_list_cmp_total.antisymm e.0.key key) i)
    (ordering_then (sym (nat_cmp_total.antisymm e.0.archive archive) i) back))))

-- ---- the cell of a name, found from right before it

none_above : (n : CellName) (es : List NamedCell) → AllByRecursion (λ e. is_lt (cell_name_cmp n e.0) ≡ true) es
    → find cell_name_cmp n es ≡ None
none_above n [] all = refl
none_above n (e ∷ es) all =
    ap (λ b. cond b (Some e.1) (find cell_name_cmp n es)) (apart (cell_name_cmp n e.0) all.0) ∙ none_above n es all.1
  where
    apart : (r : Ordering) → is_lt r ≡ true → is_eq r ≡ false
    apart Less h = refl
    apart Equal h = absurd (true≢false (sym h))
    apart Greater h = absurd (true≢false (sym h))

above_too : (n m : CellName) (es : List NamedCell) → is_lt (cell_name_cmp n m) ≡ true → T (below_all cell_name_cmp m es)
    → AllByRecursion (λ e. is_lt (cell_name_cmp n e.0) ≡ true) es
above_too n m [] h below = tt
above_too n m (e ∷ es) h below = (
  before_both n m e.0 h (true_from_T (is_lt (cell_name_cmp m e.0)) (first_T (is_lt (cell_name_cmp m e.0))
      (below_all cell_name_cmp m es) below)),
  above_too n m es h (second_T (is_lt (cell_name_cmp m e.0)) (below_all cell_name_cmp m es) below),
)

found_there : (p n : CellName) (es : List NamedCell) → T (is_sorted cell_name_cmp es)
    → AllByRecursion (IsRightBefore p n) es → at_name n (first_after p es) ≡ find cell_name_cmp n es
found_there p n [] sorted all = refl
found_there p n (x ∷ xs) sorted all =
    let below = first_T (below_all cell_name_cmp x.0 xs) (is_sorted cell_name_cmp xs) sorted in
    let rest = found_there p n xs (second_T (below_all cell_name_cmp x.0 xs) (is_sorted cell_name_cmp xs) sorted)
    all.1 in
    by_order (cell_name_cmp n x.0) refl below rest
  where
    back : (r : Ordering) → cell_name_cmp n x.0 ≡ r → is_past p x ≡ not (is_lt (ordering_reverse r))
    back r e = all.0 ∙ ap (λ o. not (is_lt o)) (cell_name_cmp_total.antisymm x.0 n ∙ ap ordering_reverse e)

    by_order : (r : Ordering) → cell_name_cmp n x.0 ≡ r → T (below_all cell_name_cmp x.0 xs)
        → at_name n (first_after p xs) ≡ find cell_name_cmp n xs
        → at_name n (cond (is_past p x) (Some x) (first_after p xs))
        ≡ cond (eq_by_cmp cell_name_cmp n x.0) (Some x.1) (find cell_name_cmp n xs)
    by_order Less e below rest =
        ap (λ b. at_name n (cond b (Some x) (first_after p xs))) (back Less e)
        ∙ ap (λ o. cond (is_eq o) (Some x.1) None) e
        ∙ sym (none_above n xs (above_too n x.0 xs (ap is_lt e) below))
        ∙ ap (λ o. cond (is_eq o) (Some x.1) (find cell_name_cmp n xs)) (sym e)
    by_order Equal e below rest =
        ap (λ b. at_name n (cond b (Some x) (first_after p xs))) (back Equal e)
        ∙ ap (λ o. cond (is_eq o) (Some x.1) None) e
        ∙ ap (λ o. cond (is_eq o) (Some x.1) (find cell_name_cmp n xs)) (sym e)
    by_order Greater e below rest =
        ap (λ b. at_name n (cond b (Some x) (first_after p xs))) (back Greater e)
        ∙ rest
        ∙ ap (λ o. cond (is_eq o) (Some x.1) (find cell_name_cmp n xs)) (sym e)

-- among cells whose origins are origins, the first after the name right before one is the cell of that name, if it is there
pub found_from_before : (m : Cells) (key : List ℕ) (archive : ℕ) (slot : ℤ) (origin : ℕ) → 1 ≤ origin
    → AllByRecursion (λ e. IsOrigin e.0.origin) (entries m)
    → at_name (cell_name key archive slot origin)
    (first_after (cell_name key archive (before_of slot origin).0 (before_of slot origin).1) (entries m))
    ≡ get m (cell_name key archive slot origin)
found_from_before m key archive slot origin some all =
    let p = cell_name key archive (before_of slot origin).0 (before_of slot origin).1 in
    let n = cell_name key archive slot origin in
    found_there p n (entries m) (entries_sorted m) (each (entries m) all)
    ∙ sym (get-entries m n)
  where
    each : (es : List NamedCell) → AllByRecursion (λ e. IsOrigin e.0.origin) es
        → AllByRecursion (IsRightBefore (cell_name key archive (before_of slot origin).0 (before_of slot origin).1)
        (cell_name key archive slot origin)) es
    each [] all = tt
    each (e ∷ es) all = (right_before key archive slot origin e some all.0, each es all.1)

origins_of : (s : Layout) (es : List NamedCell) → AllByRecursion (IsCellOf s) es
    → AllByRecursion (λ e. IsOrigin e.0.origin) es
origins_of s [] all = tt
origins_of s (e ∷ es) all = let first = all.0 in (first.origin, origins_of s es all.1)

-- so what is found there says whether a cell is held
pub held_from_before : (h : ReplicaState) (key : List ℕ) (archive : ℕ) (slot : ℤ) (origin : ℕ) (c : Contribution)
    (o : Option NamedCell) → IsReplicaState h → 0 < origin
    → o ≡ next_cell h.cells (cell_name key archive (before_of slot origin).0 (before_of slot origin).1)
    → is_at_least (at_name (cell_name key archive slot origin) o) c
    ≡ is_held h.cells (cell_name key archive slot origin, c)
held_from_before h key archive slot origin c o holds some found =
    ap (λ x. is_at_least (at_name (cell_name key archive slot origin) x) c) found
    ∙ ap (λ x. is_at_least x c) (found_from_before h.cells key archive slot origin (omega (arith, some))
    (origins_of h.schema (entries h.cells) (all_held h holds)))

-- there is an origin right before
pub before_is_origin : (slot : ℤ) (origin : ℕ) → 0 < origin → 0 < (before_of slot origin).1
before_is_origin slot origin some = elim (origin == 1) as (λ b. (origin == 1) ≡ b
    → 0 < (cond {A = ℤ × ℕ} b (slot -ℤ pos 1, MAX_ORIGIN) (slot, origin - 1)).1) [
      | true ↦ λ t. omega arith
      | false ↦ λ t. let other : origin ≢ 1 = λ e. true≢false (sym (eq-eqb origin 1 e) ∙ t) in omega (arith, other, some)
    ] refl
