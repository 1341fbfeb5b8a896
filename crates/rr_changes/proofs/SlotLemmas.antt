-- The cells of an archive in slots from one on and before another.
use Rattle.std.proofs.Common.{◌≡◌, ℕ, zero, suc, ℤ, pos, negsuc, ◌+ℤ◌, ◌-ℤ◌, ◌<ℤ◌, ◌≤ℤ◌, Bool, true, false, cond, ◌&&◌, ◌||◌, T, List, [], ◌∷◌, ◌++◌, map, refl, sym, ap, ◌∙◌, append_assoc, subst, Option, Some, None, unwrap_or, int_cmp, arith, true≢false, Less, Greater}
use Rattle.std.specs.Prelude.{int_lt, int_le, ◌<◌}
use Rattle.std.specs.Int.{int_max, int_min}
use Rattle.std.specs.List.{filter, find}
use Rattle.std.specs.Option.{option_map}
use Rattle.std.specs.Ordering.{is_lt, int_eq, nat_cmp, ordering_then}
use Rattle.std.specs.FinMap.{entries, entries_sorted, is_sorted}
use Rattle.std.specs.FinMap.Entries.{below_all}
use Rattle.std.proofs.lemmas.Int.{ints}
use Rattle.std.proofs.lemmas.List.{append-nil, map-append}
use Rattle.std.proofs.lemmas.List.Elements.{filter_agree}
use Rattle.rr_join.proofs.Booleans.{first_T, second_T, true_from_T}
use Rattle.rr_contrib.specs.declared.contribution.Contribution.{Contribution}
use Rattle.rr_archive.specs.declared.entry.Entry.{Entry}
use Rattle.rr_archive.specs.CellSlots.{CellSlot, cell_slot, cell_slot_cmp}
use Rattle.rr_archive.specs.Cells.{ArchiveCells, cells_on, row_of, entry_of, cell_of, next_cell}
use Rattle.rr_archive.proofs.RowCells.{at_slot, is_past}
use Rattle.rr_changes.specs.Listing.{cells_between, up_to_slot}

abbrev Listing : Type 0
Listing = List (CellSlot × Contribution)

-- whether a cell is of a slot from one on and before another
abbrev pub is_from : ℤ → ℤ → CellSlot × Contribution → Bool
is_from first end e = int_le first e.0.slot && int_lt e.0.slot end

-- ---- in order

-- a cell after a cell slot is not of an earlier slot
slot_from : (p : CellSlot) (e : CellSlot × Contribution) → is_past p e ≡ true → int_lt e.0.slot p.slot ≡ false
slot_from p e past = elim (int_lt e.0.slot p.slot) as (λ b. int_lt e.0.slot p.slot ≡ b → b ≡ false) [
  | true ↦ λ t. absurd (true≢false (sym past
      ∙ ap (λ r. is_lt (ordering_then r (nat_cmp p.origin e.0.origin))) (above p.slot e.0.slot t)))
  | false ↦ λ t. refl
] refl
  where
    above : (x y : ℤ) → int_lt y x ≡ true → int_cmp x y ≡ Greater
    above x y h = grind (arith, ints)

-- one that is not after it is not of a later slot
slot_up_to : (p : CellSlot) (e : CellSlot × Contribution) → is_past p e ≡ false → int_lt p.slot e.0.slot ≡ false
slot_up_to p e past = elim (int_lt p.slot e.0.slot) as (λ b. int_lt p.slot e.0.slot ≡ b → b ≡ false) [
  | true ↦ λ t. absurd (true≢false (sym (ap (λ r. is_lt (ordering_then r (nat_cmp p.origin e.0.origin)))
      (below p.slot e.0.slot t)) ∙ past))
  | false ↦ λ t. refl
] refl
  where
    below : (x y : ℤ) → int_lt x y ≡ true → int_cmp x y ≡ Less
    below x y h = grind (arith, ints)

-- none of the cells behind one of a slot that is not before the end is before the end
none_behind : (first end : ℤ) (p : CellSlot) (es : Listing) → int_lt p.slot end ≡ false → T (below_all cell_slot_cmp p es)
    → filter (is_from first end) es ≡ []
none_behind first end p [] out below = refl
none_behind first end p (x ∷ es) out below =
    let here = true_from_T (is_past p x) (first_T (is_past p x) (below_all cell_slot_cmp p es) below) in
    ap (λ b. cond b (x ∷ filter (is_from first end) es) (filter (is_from first end) es))
    (apart first end p.slot x.0.slot out (slot_from p x here))
    ∙ none_behind first end p es out (second_T (is_past p x) (below_all cell_slot_cmp p es) below)
  where
    apart : (a b y z : ℤ) → int_lt y b ≡ false → int_lt z y ≡ false → (int_le a z && int_lt z b) ≡ false
    apart a b y z h k = grind (arith, ints)

-- there are none in no slots
none_between : (first end : ℤ) (es : Listing) → int_lt first end ≡ false → filter (is_from first end) es ≡ []
none_between first end [] h = refl
none_between first end (x ∷ es) h =
    ap (λ b. cond b (x ∷ filter (is_from first end) es) (filter (is_from first end) es)) (out first end x.0.slot h)
    ∙ none_between first end es h
  where
    out : (a b z : ℤ) → int_lt a b ≡ false → (int_le a z && int_lt z b) ≡ false
    out a b z h = grind (arith, ints)

-- those of some slots and then those of later ones, where no slot is of both, are those of either
module _ (a b c d : ℤ) (apart : int_lt c b ≡ false) where
  abbrev is_either : CellSlot × Contribution → Bool
  is_either e = is_from a b e || is_from c d e

  pub one_then_other : (es : Listing) → T (is_sorted cell_slot_cmp es)
      → filter (is_from a b) es ++ filter (is_from c d) es ≡ filter is_either es
  one_then_other [] sorted = refl
  one_then_other (x ∷ es) sorted =
      let first = filter (is_from a b) es in
      let later = filter (is_from c d) es in
      let all = filter is_either es in
      let rest : first ++ later ≡ all = one_then_other es (second_T (below_all cell_slot_cmp x.0 es) _ sorted) in
      let behind = first_T (below_all cell_slot_cmp x.0 es) _ sorted in
      elim (is_from a b x) as (λ t. is_from a b x ≡ t → cond t (x ∷ first) first ++ cond (is_from c d x) (x ∷ later) later
      ≡ cond (t || is_from c d x) (x ∷ all) all) [
        | true ↦ λ t.
            ap (λ f. (x ∷ first) ++ cond f (x ∷ later) later) (not_later a b c d x.0.slot apart t)
            ∙ ap (λ l. x ∷ l) rest
        | false ↦ λ t. elim (is_from c d x) as (λ f. is_from c d x ≡ f → first ++ cond f (x ∷ later) later
            ≡ cond f (x ∷ all) all) [
              | true ↦ λ f.
                  let none : first ≡ [] = none_behind a b x.0 es (late a b c d x.0.slot apart f) behind in
                  ap (λ l. l ++ (x ∷ later)) none ∙ ap (λ l. x ∷ (l ++ later)) (sym none) ∙ ap (λ l. x ∷ l) rest
              | false ↦ λ f. rest
            ] refl
      ] refl
    where
      not_later : (a b c d z : ℤ) → int_lt c b ≡ false → (int_le a z && int_lt z b) ≡ true
          → (int_le c z && int_lt z d) ≡ false
      not_later a b c d z h k = grind (arith, ints)

      late : (a b c d z : ℤ) → int_lt c b ≡ false → (int_le c z && int_lt z d) ≡ true → int_lt z b ≡ false
      late a b c d z h k = grind (arith, ints)

-- ---- of an archive

-- those up to a slot between, and then those from it on
pub between_twice : (m : ArchiveCells) (a b c : ℤ) → int_lt b a ≡ false → int_lt c b ≡ false
    → cells_between m a b ++ cells_between m b c ≡ cells_between m a c
between_twice m a b c first last =
    let es = entries m in
    sym (map-append cell_of (filter (is_from a b) es) (filter (is_from b c) es))
    ∙ ap (map cell_of) (one_then_other a b b c (same b) es (entries_sorted m)
    ∙ filter_agree (λ e. is_from a b e || is_from b c e) (is_from a c) (λ e. either a b c e.0.slot first last) es)
  where
    same : (b : ℤ) → int_lt b b ≡ false
    same b = grind (arith, ints)

    either : (a b c z : ℤ) → int_lt b a ≡ false → int_lt c b ≡ false
        → ((int_le a z && int_lt z b) || (int_le b z && int_lt z c)) ≡ (int_le a z && int_lt z c)
    either a b c z h k = grind (arith, ints)

pub between_none : (m : ArchiveCells) (a b : ℤ) → int_lt a b ≡ false → cells_between m a b ≡ []
between_none m a b h = ap (map cell_of) (none_between a b (entries m) h)

-- those of one slot are the entries of its row
pub between_row : (m : ArchiveCells) (slot : ℤ) → cells_between m slot (slot +ℤ pos 1)
    ≡ map (λ e. (slot, e)) (row_of m slot)
unfolding row_of
between_row m slot =
    ap (map cell_of) (filter_agree (is_from slot (slot +ℤ pos 1)) (at_slot slot) (λ e. same slot e.0.slot) (entries m))
    ∙ sym (cells_at (entries m))
  where
    same : (slot z : ℤ) → (int_le slot z && int_lt z (slot +ℤ pos 1)) ≡ int_eq z slot
    same slot z = grind (arith, ints)

    slot_is : (slot z : ℤ) → int_eq z slot ≡ true → slot ≡ z
    slot_is slot z h = grind (arith, ints)

    cells_at : (es : Listing)
        → map (λ e. (slot, e)) (map entry_of (filter (at_slot slot) es)) ≡ map cell_of (filter (at_slot slot) es)
    cells_at [] = refl
    cells_at (x ∷ es) = elim (at_slot slot x) as (λ b. at_slot slot x ≡ b
        → map (λ e. (slot, e)) (map entry_of (cond b (x ∷ filter (at_slot slot) es) (filter (at_slot slot) es)))
        ≡ map cell_of (cond b (x ∷ filter (at_slot slot) es) (filter (at_slot slot) es))) [
          | true ↦ λ t. λ i. (slot_is slot x.0.slot t i, entry_of x) ∷ cells_at es i
          | false ↦ λ t. cells_at es
        ] refl

-- so those of a run of slots
pub between_on : (m : ArchiveCells) (slot : ℤ) (n : ℕ) → cells_on m slot n ≡ cells_between m slot (slot +ℤ pos n)
unfolding cells_on
between_on m slot zero = sym (between_none m slot (slot +ℤ pos 0) (itself slot))
  where
    itself : (z : ℤ) → int_lt z (z +ℤ pos 0) ≡ false
    itself z = grind (arith, ints)
between_on m slot (suc n) =
    (λ i. sym (between_row m slot) i ++ between_on m (slot +ℤ pos 1) n i)
    ∙ between_twice m slot (slot +ℤ pos 1) ((slot +ℤ pos 1) +ℤ pos n) (next slot) (further slot n)
    ∙ ap (cells_between m slot) (sum slot n)
  where
    next : (z : ℤ) → int_lt (z +ℤ pos 1) z ≡ false
    next z = grind (arith, ints)

    further : (z : ℤ) (n : ℕ) → int_lt ((z +ℤ pos 1) +ℤ pos n) (z +ℤ pos 1) ≡ false
    further z n = grind (arith, ints)

    sum : (z : ℤ) (n : ℕ) → (z +ℤ pos 1) +ℤ pos n ≡ z +ℤ pos (suc n)
    sum z n = grind (arith, ints)

-- those of slots, up to a last one
pub between_up_to : (m : ArchiveCells) (a b last : ℤ)
    → up_to_slot last (cells_between m a b) ≡ cells_between m a (int_min b (last +ℤ pos 1))
between_up_to m a b last = go (entries m) (entries_sorted m)
  where
    least : ℤ
    least = int_min b (last +ℤ pos 1)

    beyond : (a b last z : ℤ) → int_lt last z ≡ true → (int_le a z && int_lt z (int_min b (last +ℤ pos 1))) ≡ false
    beyond a b last z h = grind (arith, ints)

    not_below : (b last z : ℤ) → int_lt last z ≡ true → int_lt z (int_min b (last +ℤ pos 1)) ≡ false
    not_below b last z h = grind (arith, ints)

    within : (a b last z : ℤ) → (int_le a z && int_lt z b) ≡ true → int_lt last z ≡ false
        → (int_le a z && int_lt z (int_min b (last +ℤ pos 1))) ≡ true
    within a b last z h k = grind (arith, ints)

    without : (a b last z : ℤ) → (int_le a z && int_lt z b) ≡ false
        → (int_le a z && int_lt z (int_min b (last +ℤ pos 1))) ≡ false
    without a b last z h = grind (arith, ints)

    go : (es : Listing) → T (is_sorted cell_slot_cmp es)
        → up_to_slot last (map cell_of (filter (is_from a b) es)) ≡ map cell_of (filter (is_from a least) es)
    go [] sorted = refl
    go (x ∷ es) sorted =
        let z = x.0.slot in
        let some = filter (is_from a b) es in
        let kept = filter (is_from a least) es in
        let behind = first_T (below_all cell_slot_cmp x.0 es) _ sorted in
        let rest : up_to_slot last (map cell_of some) ≡ map cell_of kept =
        go es (second_T (below_all cell_slot_cmp x.0 es) _ sorted) in
        elim (is_from a b x) as (λ t. is_from a b x ≡ t → up_to_slot last (map cell_of (cond t (x ∷ some) some))
        ≡ map cell_of (cond (is_from a least x) (x ∷ kept) kept)) [
          | true ↦ λ t. elim (int_lt last z) as (λ f. int_lt last z ≡ f
              → cond f [] (cell_of x ∷ up_to_slot last (map cell_of some))
              ≡ map cell_of (cond (is_from a least x) (x ∷ kept) kept)) [
                | true ↦ λ f.
                    sym (ap (λ c. map cell_of (cond c (x ∷ kept) kept)) (beyond a b last z f)
                    ∙ ap (map cell_of) (none_behind a least x.0 es (not_below b last z f) behind))
                | false ↦ λ f.
                    ap (λ l. cell_of x ∷ l) rest
                    ∙ ap (λ c. map cell_of (cond c (x ∷ kept) kept)) (sym (within a b last z t f))
              ] refl
          | false ↦ λ t. rest ∙ ap (λ c. map cell_of (cond c (x ∷ kept) kept)) (sym (without a b last z t))
        ] refl

-- ---- from the next cell on

module _ (first : ℤ) (p : CellSlot) (slot : p.slot ≡ first -ℤ pos 1) where
  early : (x : CellSlot × Contribution) (end : ℤ) → is_past p x ≡ false → is_from first end x ≡ false
  early x end past = not_in first end x.0.slot
      (subst (λ z. int_lt z x.0.slot ≡ false) slot (slot_up_to p x past))
    where
      not_in : (a b z : ℤ) → int_lt (a -ℤ pos 1) z ≡ false → (int_le a z && int_lt z b) ≡ false
      not_in a b z h = grind (arith, ints)

  none_left : (end : ℤ) (es : Listing) → find (is_past p) es ≡ None → filter (is_from first end) es ≡ []
  none_left end [] none = refl
  none_left end (x ∷ es) none = elim (is_past p x) as (λ b. is_past p x ≡ b → cond b (Some x) (find (is_past p) es) ≡ None
      → cond (is_from first end x) (x ∷ filter (is_from first end) es) (filter (is_from first end) es) ≡ []) [
        | true ↦ λ t h. absurd cc
        | false ↦ λ t h.
            ap (λ b. cond b (x ∷ filter (is_from first end) es) (filter (is_from first end) es)) (early x end t)
            ∙ none_left end es h
      ] refl none

  -- none is before the next one
  none_before : (es : Listing) (e : CellSlot × Contribution) → T (is_sorted cell_slot_cmp es) → find (is_past p) es ≡ Some e
      → filter (is_from first (int_max e.0.slot first)) es ≡ []
  none_before [] e sorted at = absurd cc
  none_before (x ∷ es) e sorted at =
      let end = int_max e.0.slot first in
      let rest = filter (is_from first end) es in
      elim (is_past p x) as (λ b. is_past p x ≡ b → cond b (Some x) (find (is_past p) es) ≡ Some e
      → cond (is_from first end x) (x ∷ rest) rest ≡ []) [
        | true ↦ λ t h.
            let same : x ≡ e = cc in
            let z = ap (λ (y : CellSlot × Contribution). y.0.slot) same in
            ap (λ b. cond b (x ∷ rest) rest) (not_in first x.0.slot e.0.slot z)
            ∙ by_slot x es e z (first_T (below_all cell_slot_cmp x.0 es) _ sorted) (int_lt e.0.slot first) refl
        | false ↦ λ t h.
            ap (λ b. cond b (x ∷ rest) rest) (early x end t)
            ∙ none_before es e (second_T (below_all cell_slot_cmp x.0 es) _ sorted) h
      ] refl at
    where
      not_in : (a y z : ℤ) → y ≡ z → (int_le a y && int_lt y (int_max z a)) ≡ false
      not_in a y z same = grind (arith, ints)

      empty : (a z : ℤ) → int_lt z a ≡ true → int_lt a (int_max z a) ≡ false
      empty a z h = grind (arith, ints)

      out : (a y z : ℤ) → y ≡ z → int_lt z a ≡ false → int_lt y (int_max z a) ≡ false
      out a y z same h = grind (arith, ints)

      by_slot : (x : CellSlot × Contribution) (es : Listing) (e : CellSlot × Contribution) → x.0.slot ≡ e.0.slot
          → T (below_all cell_slot_cmp x.0 es) → (b : Bool) → int_lt e.0.slot first ≡ b
          → filter (is_from first (int_max e.0.slot first)) es ≡ []
      by_slot x es e z behind true t = none_between first (int_max e.0.slot first) es (empty first e.0.slot t)
      by_slot x es e z behind false t =
          none_behind first (int_max e.0.slot first) x.0 es (out first x.0.slot e.0.slot z t) behind

none_next : (m : ArchiveCells) (first end : ℤ) (origin : ℕ)
    → next_cell m (cell_slot (first -ℤ pos 1) origin) ≡ None → cells_between m first end ≡ []
none_next m first end origin none =
    ap (map cell_of) (none_left first (cell_slot (first -ℤ pos 1) origin) refl end (entries m) none)

none_to_next : (m : ArchiveCells) (first cell : ℤ) (origin : ℕ) (entry : Entry)
    → option_map cell_of (next_cell m (cell_slot (first -ℤ pos 1) origin)) ≡ Some (cell, entry)
    → cells_between m first (int_max cell first) ≡ []
none_to_next m first cell origin entry next = by (next_cell m (cell_slot (first -ℤ pos 1) origin)) refl next
  where
    by : (o : Option (CellSlot × Contribution)) → next_cell m (cell_slot (first -ℤ pos 1) origin) ≡ o
        → option_map cell_of o ≡ Some (cell, entry) → cells_between m first (int_max cell first) ≡ []
    by None at is = absurd cc
    by (Some e) at is =
        let same : e.0.slot ≡ cell = ap (λ (o : Option (ℤ × Entry)). (unwrap_or o (cell, entry)).0) is in
        subst (λ z. cells_between m first (int_max z first) ≡ []) same (ap (map cell_of)
        (none_before first (cell_slot (first -ℤ pos 1) origin) refl (entries m) e (entries_sorted m) at))

pub none_after : (m : ArchiveCells) (first end : ℤ) (origin : ℕ)
    → option_map cell_of (next_cell m (cell_slot (first -ℤ pos 1) origin)) ≡ None → cells_between m first end ≡ []
none_after m first end origin next = by (next_cell m (cell_slot (first -ℤ pos 1) origin)) refl next
  where
    by : (o : Option (CellSlot × Contribution)) → next_cell m (cell_slot (first -ℤ pos 1) origin) ≡ o
        → option_map cell_of o ≡ None → cells_between m first end ≡ []
    by None at is = none_next m first end origin at
    by (Some e) at is = absurd cc

-- ---- run by run

-- a number, or 0 in place of one below
abbrev pub at_least_0 : ℤ → ℕ
at_least_0 (pos n) = n
at_least_0 (negsuc n) = 0

-- how many slots are left up to a last one
abbrev pub slots_left : ℤ → ℤ → ℕ
slots_left first last = at_least_0 ((last +ℤ pos 1) -ℤ first)

pub fewer_slots : (first next last : ℤ) → first ≤ℤ last → first <ℤ next → slots_left next last < slots_left first last
fewer_slots first next last in_range on = less ((last +ℤ pos 1) -ℤ next) ((last +ℤ pos 1) -ℤ first)
    (some first last in_range) (below first next last on)
  where
    some : (first last : ℤ) → first ≤ℤ last → pos 1 ≤ℤ ((last +ℤ pos 1) -ℤ first)
    some first last h = omega (arith, ints, h)

    below : (first next last : ℤ) → first <ℤ next → ((last +ℤ pos 1) -ℤ next) <ℤ ((last +ℤ pos 1) -ℤ first)
    below first next last h = omega (arith, ints, h)

    less : (d e : ℤ) → pos 1 ≤ℤ e → d <ℤ e → at_least_0 d < at_least_0 e
    less (pos m) (pos n) h k = omega (arith, ints, h, k)
    less (negsuc m) (pos n) h k = omega (arith, ints, h)
    less d (negsuc n) h k = absurd (omega (arith, ints, h))

-- a run more
pub run_more : (m : ArchiveCells) (first next last : ℤ) (old new : List (ℤ × Entry)) → first ≤ℤ last → first <ℤ next
    → new ≡ old ++ cells_between m first (int_min next (last +ℤ pos 1))
    → new ++ cells_between m next (last +ℤ pos 1) ≡ old ++ cells_between m first (last +ℤ pos 1)
run_more m first next last old new in_range on is = by (int_lt (last +ℤ pos 1) next) refl
  where
    end : ℤ
    end = last +ℤ pos 1

    short : (next last : ℤ) → int_lt (last +ℤ pos 1) next ≡ false → int_min next (last +ℤ pos 1) ≡ next
    short next last h = grind (arith, ints)

    long : (next last : ℤ) → int_lt (last +ℤ pos 1) next ≡ true → int_min next (last +ℤ pos 1) ≡ last +ℤ pos 1
    long next last h = grind (arith, ints)

    none : (next last : ℤ) → int_lt (last +ℤ pos 1) next ≡ true → int_lt next (last +ℤ pos 1) ≡ false
    none next last h = grind (arith, ints)

    after : (first next : ℤ) → first <ℤ next → int_lt next first ≡ false
    after first next h = grind (arith, ints)

    by : (b : Bool) → int_lt (last +ℤ pos 1) next ≡ b
        → new ++ cells_between m next end ≡ old ++ cells_between m first end
    by true t =
        ap (λ l. new ++ l) (between_none m next end (none next last t)) ∙ append-nil new ∙ is
        ∙ ap (λ z. old ++ cells_between m first z) (long next last t)
    by false t =
        ap (λ (l : List (ℤ × Entry)). l ++ cells_between m next end)
        (is ∙ ap (λ z. old ++ cells_between m first z) (short next last t))
        ∙ append_assoc old (cells_between m first next) (cells_between m next end)
        ∙ ap (λ l. old ++ l) (between_twice m first next end (after first next on) t)

-- the first run from a slot on that begins with a cell
pub run_pushed : (m : ArchiveCells) (first cell last : ℤ) (origin n : ℕ) (entry : Entry) (run old new : List (ℤ × Entry))
    → first ≤ℤ last → cell ≤ℤ last
    → option_map cell_of (next_cell m (cell_slot (first -ℤ pos 1) origin)) ≡ Some (cell, entry)
    → run ≡ cells_on m (int_max cell first) n → new ≡ old ++ up_to_slot last run
    → new ≡ old ++ cells_between m first (int_min (int_max cell first +ℤ pos n) (last +ℤ pos 1))
run_pushed m first cell last origin n entry run old new in_range within next ran pushed =
    let start = int_max cell first in
    let end = int_min (start +ℤ pos n) (last +ℤ pos 1) in
    pushed ∙ ap (λ (l : List (ℤ × Entry)). old ++ up_to_slot last l) (ran ∙ between_on m start n)
    ∙ ap (λ l. old ++ l) (between_up_to m start (start +ℤ pos n) last
    ∙ ap (λ l. l ++ cells_between m start end) (sym (none_to_next m first cell origin entry next))
    ∙ between_twice m first start end (not_before cell first) (further cell first last n in_range within))
  where
    not_before : (cell first : ℤ) → int_lt (int_max cell first) first ≡ false
    not_before cell first = grind (arith, ints)

    further : (cell first last : ℤ) (n : ℕ) → first ≤ℤ last → cell ≤ℤ last
        → int_lt (int_min (int_max cell first +ℤ pos n) (last +ℤ pos 1)) (int_max cell first) ≡ false
    further cell first last n h k = grind (arith, ints)

-- where the next cell is after the last slot, none is left
pub none_up_to : (m : ArchiveCells) (first cell last : ℤ) (origin : ℕ) (entry : Entry) → last <ℤ cell → first ≤ℤ last
    → option_map cell_of (next_cell m (cell_slot (first -ℤ pos 1) origin)) ≡ Some (cell, entry)
    → cells_between m first (last +ℤ pos 1) ≡ []
none_up_to m first cell last origin entry past in_range next =
    left_is_none (cells_between m first (last +ℤ pos 1)) (cells_between m (last +ℤ pos 1) (int_max cell first))
    (between_twice m first (last +ℤ pos 1) (int_max cell first) (from first last in_range) (to first cell last past)
    ∙ none_to_next m first cell origin entry next)
  where
    from : (first last : ℤ) → first ≤ℤ last → int_lt (last +ℤ pos 1) first ≡ false
    from first last h = grind (arith, ints)

    to : (first cell last : ℤ) → last <ℤ cell → int_lt (int_max cell first) (last +ℤ pos 1) ≡ false
    to first cell last h = grind (arith, ints)

    left_is_none : (xs ys : List (ℤ × Entry)) → xs ++ ys ≡ [] → xs ≡ []
    left_is_none [] ys h = refl
    left_is_none (x ∷ xs) ys h = absurd cc

-- ---- row by row

pub row_more : (m : ArchiveCells) (slot last : ℤ) (old new : List (ℤ × Entry)) → slot ≤ℤ last
    → new ≡ old ++ map (λ e. (slot, e)) (row_of m slot)
    → new ++ cells_between m (slot +ℤ pos 1) (last +ℤ pos 1) ≡ old ++ cells_between m slot (last +ℤ pos 1)
row_more m slot last old new in_range is =
    ap (λ (l : List (ℤ × Entry)). l ++ cells_between m (slot +ℤ pos 1) (last +ℤ pos 1))
    (is ∙ ap (λ l. old ++ l) (sym (between_row m slot)))
    ∙ append_assoc old (cells_between m slot (slot +ℤ pos 1)) (cells_between m (slot +ℤ pos 1) (last +ℤ pos 1))
    ∙ ap (λ l. old ++ l) (between_twice m slot (slot +ℤ pos 1) (last +ℤ pos 1) (next slot) (end slot last in_range))
  where
    next : (slot : ℤ) → int_lt (slot +ℤ pos 1) slot ≡ false
    next slot = grind (arith, ints)

    end : (slot last : ℤ) → slot ≤ℤ last → int_lt (last +ℤ pos 1) (slot +ℤ pos 1) ≡ false
    end slot last h = grind (arith, ints)

-- all were added
pub all_runs : (m : ArchiveCells) (first last : ℤ) (old new : List (ℤ × Entry)) (all : List (ℤ × Entry))
    → last <ℤ first → new ++ cells_between m first (last +ℤ pos 1) ≡ old ++ all → new ≡ old ++ all
all_runs m first last old new all past is =
    sym (append-nil new) ∙ ap (λ l. new ++ l) (sym (between_none m first (last +ℤ pos 1) (none first last past))) ∙ is
  where
    none : (first last : ℤ) → last <ℤ first → int_lt first (last +ℤ pos 1) ≡ false
    none first last h = grind (arith, ints)
