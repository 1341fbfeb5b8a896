-- The cells of slots that follow one another: each but the last is followed by the next one of all.
use Rattle.std.proofs.Common.{◌≡◌, ℕ, zero, suc, ◌+◌, ℤ, pos, ◌+ℤ◌, Bool, true, false, cond, ◌&&◌, T, List, [], ◌∷◌, ◌++◌, map, length, slice_get, refl, sym, ap, ◌∙◌, subst, Option, Some, None, unwrap_or, int_cmp, arith, true≢false, Ordering, Less, Equal, Greater}
use Rattle.std.specs.Prelude.{int_lt, int_le}
use Rattle.std.specs.List.{filter, find}
use Rattle.std.specs.Cmp.{tied_itself}
use Rattle.std.specs.Option.{option_map}
use Rattle.std.specs.Ordering.{is_lt, int_eq, nat_cmp, ordering_then, ordering_reverse}
use Rattle.std.specs.FinMap.{entries, entries_sorted, is_sorted}
use Rattle.std.specs.FinMap.Entries.{below_all}
use Rattle.std.proofs.lemmas.Int.{ints}
use Rattle.std.proofs.lemmas.List.{append-nil, length-map}
use Rattle.rr_join.proofs.Booleans.{first_T, second_T, T_and, true_from_T}
use Rattle.rr_contrib.specs.declared.contribution.Contribution.{Contribution}
use Rattle.rr_archive.specs.declared.entry.Entry.{Entry}
use Rattle.rr_archive.specs.CellSlots.{CellSlot, cell_slot, cell_slot_cmp}
use Rattle.rr_archive.specs.Cells.{ArchiveCells, cells_on, row_of, entry_of, cell_of, next_cell}
use Rattle.rr_archive.proofs.CellSlotOrder.{cell_slot_cmp_total}
use Rattle.rr_archive.proofs.RowCells.{at_slot, is_past}

pub one_slot : (m : ArchiveCells) (slot : ℤ) → cells_on m slot 1 ≡ map (λ e. (slot, e)) (row_of m slot)
unfolding cells_on
one_slot m slot = append-nil (map (λ e. (slot, e)) (row_of m slot))

pub one_slot_length : (m : ArchiveCells) (slot : ℤ) → length (cells_on m slot 1) ≡ length (row_of m slot)
one_slot_length m slot = ap length (one_slot m slot) ∙ length-map (row_of m slot) (λ (e : Entry). (slot, e))

abbrev Listing : Type 0
Listing = List (CellSlot × Contribution)

-- ---- in order

-- a cell after a cell slot is not of an earlier slot
slot_from : (p : CellSlot) (e : CellSlot × Contribution) → is_past p e ≡ true → int_lt e.0.slot p.slot ≡ false
slot_from p e past = elim (int_lt e.0.slot p.slot) as (λ b. int_lt e.0.slot p.slot ≡ b → b ≡ false) [
  | true ↦ λ t. absurd (true≢false (sym past
      ∙ ap (λ r. is_lt (ordering_then r (nat_cmp p.origin e.0.origin))) (above p.slot e.0.slot t)))
  | false ↦ λ t. refl
] refl
  where
    above : (x y : ℤ) → int_lt y x ≡ true → int_cmp x y ≡ Greater
    above x y h = grind (arith, ints)

-- of two cells only the later one is after the other
not_past : (p : CellSlot) (e : CellSlot × Contribution) (v : Contribution) → is_past p e ≡ true
    → is_past e.0 (p, v) ≡ false
not_past p e v past = ap is_lt (cell_slot_cmp_total.antisymm e.0 p) ∙ reversed (cell_slot_cmp p e.0) past
  where
    reversed : (r : Ordering) → is_lt r ≡ true → is_lt (ordering_reverse r) ≡ false
    reversed Less h = refl
    reversed Equal h = absurd cc
    reversed Greater h = absurd cc

-- each of these cells is after one that is below them all
below_at : (p : CellSlot) (es : Listing) (i : ℕ) (e : CellSlot × Contribution) → T (below_all cell_slot_cmp p es)
    → slice_get es i ≡ Some e → is_past p e ≡ true
below_at p [] i e below at = absurd cc
below_at p (x ∷ es) zero e below at = ap (λ o. is_past p (unwrap_or o x)) (sym at)
    ∙ true_from_T (is_past p x) (first_T (is_past p x) (below_all cell_slot_cmp p es) below)
below_at p (x ∷ es) (suc i) e below at = below_at p es i e
    (second_T (is_past p x) (below_all cell_slot_cmp p es) below) at

below_filter : (p : CellSlot) (keep : CellSlot × Contribution → Bool) (es : Listing) → T (below_all cell_slot_cmp p es)
    → T (below_all cell_slot_cmp p (filter keep es))
below_filter p keep [] below = tt
below_filter p keep (x ∷ es) below =
    let here = first_T (is_past p x) (below_all cell_slot_cmp p es) below in
    let rest = below_filter p keep es (second_T (is_past p x) (below_all cell_slot_cmp p es) below) in
    elim (keep x) as (λ b. T (below_all cell_slot_cmp p (cond b (x ∷ filter keep es) (filter keep es)))) [
      | true ↦ T_and (is_past p x) (below_all cell_slot_cmp p (filter keep es)) here rest
      | false ↦ rest
    ]

-- ---- the cells of some slots, as those of a list in order

-- whether a cell is of one of `n` slots from one on
abbrev is_on : ℤ → ℕ → CellSlot × Contribution → Bool
is_on slot n e = int_le slot e.0.slot && int_lt e.0.slot (slot +ℤ pos n)

none_on : (slot : ℤ) (es : Listing) → filter (is_on slot 0) es ≡ []
none_on slot [] = refl
none_on slot (x ∷ es) = ap (λ b. cond b (x ∷ filter (is_on slot 0) es) (filter (is_on slot 0) es)) (off slot x.0.slot)
    ∙ none_on slot es
  where
    off : (slot z : ℤ) → (int_le slot z && int_lt z (slot +ℤ pos 0)) ≡ false
    off slot z = grind (arith, ints)

-- none of the cells behind one of a later slot is of a slot
none_at : (slot : ℤ) (p : CellSlot) (es : Listing) → int_lt slot p.slot ≡ true → T (below_all cell_slot_cmp p es)
    → filter (at_slot slot) es ≡ []
none_at slot p [] later below = refl
none_at slot p (x ∷ es) later below =
    let here = true_from_T (is_past p x) (first_T (is_past p x) (below_all cell_slot_cmp p es) below) in
    ap (λ b. cond b (x ∷ filter (at_slot slot) es) (filter (at_slot slot) es))
    (apart slot p.slot x.0.slot later (slot_from p x here))
    ∙ none_at slot p es later (second_T (is_past p x) (below_all cell_slot_cmp p es) below)
  where
    apart : (slot y z : ℤ) → int_lt slot y ≡ true → int_lt z y ≡ false → int_eq z slot ≡ false
    apart slot y z h k = grind (arith, ints)

-- those of the first slot, and then those of the others
first_slot : (slot : ℤ) (n : ℕ) (es : Listing) → T (is_sorted cell_slot_cmp es)
    → filter (at_slot slot) es ++ filter (is_on (slot +ℤ pos 1) n) es ≡ filter (is_on slot (suc n)) es
first_slot slot n [] sorted = refl
first_slot slot n (x ∷ es) sorted =
    let here = filter (at_slot slot) es in
    let later = filter (is_on (slot +ℤ pos 1) n) es in
    let all = filter (is_on slot (suc n)) es in
    let rest : here ++ later ≡ all = first_slot slot n es (second_T (below_all cell_slot_cmp x.0 es) _ sorted) in
    elim (at_slot slot x) as (λ b. at_slot slot x ≡ b → cond b (x ∷ here) here
    ++ cond (is_on (slot +ℤ pos 1) n x) (x ∷ later) later ≡ cond (is_on slot (suc n) x) (x ∷ all) all) [
      | true ↦ λ t.
          ap (λ b. (x ∷ here) ++ cond b (x ∷ later) later) (not_later slot x.0.slot n t)
          ∙ ap (λ l. x ∷ l) rest ∙ ap (λ b. cond b (x ∷ all) all) (sym (first slot x.0.slot n t))
      | false ↦ λ t.
          ap (λ b. here ++ cond b (x ∷ later) later) (same slot x.0.slot n t)
          ∙ (elim (is_on slot (suc n) x) as (λ b. is_on slot (suc n) x ≡ b
          → here ++ cond b (x ∷ later) later ≡ cond b (x ∷ all) all) [
            | true ↦ λ on.
                let none = none_at slot x.0 es (above slot x.0.slot n t on)
                (first_T (below_all cell_slot_cmp x.0 es) _ sorted) in
                ap (λ l. l ++ (x ∷ later)) none ∙ ap (λ l. x ∷ (l ++ later)) (sym none) ∙ ap (λ l. x ∷ l) rest
            | false ↦ λ off. rest
          ] refl)
    ] refl
  where
    not_later : (slot z : ℤ) (n : ℕ) → int_eq z slot ≡ true
        → (int_le (slot +ℤ pos 1) z && int_lt z ((slot +ℤ pos 1) +ℤ pos n)) ≡ false
    not_later slot z n h = grind (arith, ints)

    first : (slot z : ℤ) (n : ℕ) → int_eq z slot ≡ true → (int_le slot z && int_lt z (slot +ℤ pos (suc n))) ≡ true
    first slot z n h = grind (arith, ints)

    same : (slot z : ℤ) (n : ℕ) → int_eq z slot ≡ false
        → (int_le (slot +ℤ pos 1) z && int_lt z ((slot +ℤ pos 1) +ℤ pos n))
        ≡ (int_le slot z && int_lt z (slot +ℤ pos (suc n)))
    same slot z n h = grind (arith, ints)

    above : (slot z : ℤ) (n : ℕ) → int_eq z slot ≡ false
        → (int_le slot z && int_lt z (slot +ℤ pos (suc n))) ≡ true → int_lt slot z ≡ true
    above slot z n h on = grind (arith, ints)

cells_at : (slot : ℤ) (es : Listing)
    → map (λ e. (slot, e)) (map entry_of (filter (at_slot slot) es)) ≡ map cell_of (filter (at_slot slot) es)
cells_at slot [] = refl
cells_at slot (x ∷ es) = elim (at_slot slot x) as (λ b. at_slot slot x ≡ b
    → map (λ e. (slot, e)) (map entry_of (cond b (x ∷ filter (at_slot slot) es) (filter (at_slot slot) es)))
    ≡ map cell_of (cond b (x ∷ filter (at_slot slot) es) (filter (at_slot slot) es))) [
      | true ↦ λ t. λ i. (slot_is slot x.0.slot t i, entry_of x) ∷ cells_at slot es i
      | false ↦ λ t. cells_at slot es
    ] refl
  where
    slot_is : (slot z : ℤ) → int_eq z slot ≡ true → slot ≡ z
    slot_is slot z h = grind (arith, ints)

cells_on-filter : (m : ArchiveCells) (slot : ℤ) (n : ℕ)
    → cells_on m slot n ≡ map cell_of (filter (is_on slot n) (entries m))
unfolding cells_on row_of
cells_on-filter m slot zero = ap (map cell_of) (sym (none_on slot (entries m)))
cells_on-filter m slot (suc n) =
    (λ i. cells_at slot (entries m) i ++ cells_on-filter m (slot +ℤ pos 1) n i)
    ∙ sym (map_append (filter (at_slot slot) (entries m)) (filter (is_on (slot +ℤ pos 1) n) (entries m)))
    ∙ ap (map cell_of) (first_slot slot n (entries m) (entries_sorted m))
  where
    map_append : (xs ys : Listing) → map cell_of (xs ++ ys) ≡ map cell_of xs ++ map cell_of ys
    map_append [] ys = refl
    map_append (x ∷ xs) ys = ap (λ l. cell_of x ∷ l) (map_append xs ys)

-- ---- the next cell

module _ (slot : ℤ) (n : ℕ) where
  kept_first : (f : CellSlot × Contribution) (fs : Listing) (i : ℕ) (e : CellSlot × Contribution)
      → is_on slot n f ≡ true → ((j : ℕ) → slice_get fs j ≡ Some e → is_on slot n e ≡ true)
      → slice_get (f ∷ fs) i ≡ Some e → is_on slot n e ≡ true
  kept_first f fs zero e on rest at = subst (λ o. is_on slot n (unwrap_or o f) ≡ true) at on
  kept_first f fs (suc i) e on rest at = rest i at

  kept : (fs : Listing) (i : ℕ) (e : CellSlot × Contribution) → slice_get (filter (is_on slot n) fs) i ≡ Some e
      → is_on slot n e ≡ true
  kept [] i e at = absurd cc
  kept (f ∷ fs) i e at = elim (is_on slot n f) as (λ b. is_on slot n f ≡ b
      → slice_get (cond b (f ∷ filter (is_on slot n) fs) (filter (is_on slot n) fs)) i ≡ Some e
      → is_on slot n e ≡ true) [
        | true ↦ λ t h. kept_first f (filter (is_on slot n) fs) i e t (λ j k. kept fs j e k) h
        | false ↦ λ t h. kept fs i e h
      ] refl at

  -- the first of these is the first of all, if one before them is of the slots
  first_on : (x : CellSlot × Contribution) (es : Listing) (d : CellSlot × Contribution) → is_on slot n x ≡ true
      → T (below_all cell_slot_cmp x.0 es) → T (is_sorted cell_slot_cmp es)
      → slice_get (filter (is_on slot n) es) 0 ≡ Some d → find (is_past x.0) es ≡ Some d
  first_on x [] d on below sorted at = absurd cc
  first_on x (y ∷ es) d on below sorted at =
      let past = true_from_T (is_past x.0 y) (first_T (is_past x.0 y) (below_all cell_slot_cmp x.0 es) below) in
      let later = first_T (below_all cell_slot_cmp y.0 es) _ sorted in
      ap (λ b. cond b (Some y) (find (is_past x.0) es)) past
      ∙ (elim (is_on slot n y) as (λ b. is_on slot n y ≡ b
      → slice_get (cond b (y ∷ filter (is_on slot n) es) (filter (is_on slot n) es)) 0 ≡ Some d → Some y ≡ Some d) [
        | true ↦ λ t h. h
        | false ↦ λ t h. absurd (true≢false (sym (between slot x.0.slot y.0.slot d.0.slot n on (slot_from x.0 y past)
            (slot_from y.0 d (below_at y.0 (filter (is_on slot n) es) 0 d
            (below_filter y.0 (is_on slot n) es later) h)) (kept es 0 d h)) ∙ t))
      ] refl at)
    where
      between : (slot x y d : ℤ) (n : ℕ) → (int_le slot x && int_lt x (slot +ℤ pos n)) ≡ true → int_lt y x ≡ false
          → int_lt d y ≡ false → (int_le slot d && int_lt d (slot +ℤ pos n)) ≡ true
          → (int_le slot y && int_lt y (slot +ℤ pos n)) ≡ true
      between slot x y d n h a b k = grind (arith, ints)

  -- of two of these one behind the other the second is the first of all after the first
  next_on : (es : Listing) (i : ℕ) (c d : CellSlot × Contribution) → T (is_sorted cell_slot_cmp es)
      → slice_get (filter (is_on slot n) es) i ≡ Some c → slice_get (filter (is_on slot n) es) (suc i) ≡ Some d
      → find (is_past c.0) es ≡ Some d
  next_on [] i c d sorted at behind = absurd cc
  next_on (x ∷ es) i c d sorted at behind =
      elim (is_on slot n x) as (λ b. is_on slot n x ≡ b
      → slice_get (cond b (x ∷ filter (is_on slot n) es) (filter (is_on slot n) es)) i ≡ Some c
      → slice_get (cond b (x ∷ filter (is_on slot n) es) (filter (is_on slot n) es)) (suc i) ≡ Some d
      → find (is_past c.0) (x ∷ es) ≡ Some d) [
        | true ↦ λ t h k. here i t (λ j p q. next_on es j c d rest p q) h k
        | false ↦ λ t h k. skipped i h ∙ next_on es i c d rest h k
      ] refl at behind
    where
      below : T (below_all cell_slot_cmp x.0 es)
      below = first_T (below_all cell_slot_cmp x.0 es) _ sorted

      rest : T (is_sorted cell_slot_cmp es)
      rest = second_T (below_all cell_slot_cmp x.0 es) _ sorted

      skipped : (j : ℕ) → slice_get (filter (is_on slot n) es) j ≡ Some c
          → find (is_past c.0) (x ∷ es) ≡ find (is_past c.0) es
      skipped j h =
          let less = below_at x.0 (filter (is_on slot n) es) j c (below_filter x.0 (is_on slot n) es below) h in
          ap (λ b. cond b (Some x) (find (is_past c.0) es)) (not_past x.0 c x.1 less)

      here : (j : ℕ) → is_on slot n x ≡ true
          → ((k : ℕ) → slice_get (filter (is_on slot n) es) k ≡ Some c
          → slice_get (filter (is_on slot n) es) (suc k) ≡ Some d → find (is_past c.0) es ≡ Some d)
          → slice_get (x ∷ filter (is_on slot n) es) j ≡ Some c
          → slice_get (filter (is_on slot n) es) j ≡ Some d → find (is_past c.0) (x ∷ es) ≡ Some d
      here zero t later h k =
          let same : x ≡ c = ap (λ o. unwrap_or o x) h in
          subst (λ (y : CellSlot × Contribution). find (is_past y.0) (x ∷ es) ≡ Some d) same
          (ap (λ r. cond (is_lt r) (Some x) (find (is_past x.0) es)) (tied_itself cell_slot_cmp_total x.0)
          ∙ first_on x es d t below rest k)
      here (suc j) t later h k = skipped j h ∙ later j h k

-- each cell of a run of slots but the last is followed by the next one of the archive
pub run_in_turn : (m : ArchiveCells) (slot : ℤ) (n i : ℕ) (c d : ℤ × Entry)
    → slice_get (cells_on m slot n) i ≡ Some c → slice_get (cells_on m slot n) (i + 1) ≡ Some d
    → option_map cell_of (next_cell m (cell_slot c.0 c.1.origin)) ≡ Some d
run_in_turn m slot n i c d at behind =
    let run = filter (is_on slot n) (entries m) in
    let same = sym (cells_on-filter m slot n) in
    let here = seen_at (slice_get run i) c (sym (get-map run i) ∙ ap (λ l. slice_get l i) same ∙ at) in
    let next = seen_at (slice_get run (suc i)) d (sym (get-map run (suc i)) ∙ ap (λ l. slice_get l (suc i)) same
    ∙ ap (slice_get (cells_on m slot n)) (one_more i) ∙ behind) in
    subst (λ (y : ℤ × Entry). option_map cell_of (next_cell m (cell_slot y.0 y.1.origin)) ≡ Some d) here.2
    (ap (option_map cell_of) (next_on slot n (entries m) i here.0 next.0 (entries_sorted m) here.1 next.1)
    ∙ ap (λ x. Some x) next.2)
  where
    one_more : (k : ℕ) → suc k ≡ k + 1
    one_more k = omega arith

    get-map : (es : Listing) (j : ℕ) → slice_get (map cell_of es) j ≡ option_map cell_of (slice_get es j)
    get-map [] j = refl
    get-map (x ∷ es) zero = refl
    get-map (x ∷ es) (suc j) = get-map es j

    seen_at : (o : Option (CellSlot × Contribution)) (x : ℤ × Entry) → option_map cell_of o ≡ Some x
        → (e : CellSlot × Contribution) × (o ≡ Some e) × (cell_of e ≡ x)
    seen_at None x h = absurd cc
    seen_at (Some e) x h = (e, refl, ap (λ o. unwrap_or o x) h)
