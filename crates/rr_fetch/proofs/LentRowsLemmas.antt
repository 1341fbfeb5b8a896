-- The cells of a slot before those of the slots after it.
use Rattle.std.proofs.Common.{◌≡◌, ℕ, zero, suc, ◌+◌, ◌-◌, ◌≤◌, ℤ, pos, ◌+ℤ◌, ◌<ℤ◌, Bool, true, false, cond, List, [], ◌∷◌, ◌++◌, map, drop, take, slice_range, length, refl, sym, ap, ◌∙◌, subst, Option, None, Some, Result, Ok, Err, IfOk, OnErr, MatchOption, arith}
use Rattle.std.specs.declared.alloc.AllocError.{AllocError}
use Rattle.std.specs.FinMap.{empty}
use Rattle.std.specs.List.{prefix_len}
use Rattle.std.specs.Ordering.{int_eq}
use Rattle.std.specs.Result.{result_unwrap_or}
use Rattle.std.proofs.lemmas.Int.{ints}
use Rattle.std.proofs.lemmas.List.{length-drop, take_all}
use Rattle.std.proofs.Math.Seq.{drop-append_seam, take-append_seam}
use Rattle.rr_archive.specs.declared.entry.Entry.{Entry}
use Rattle.rr_archive.specs.Cells.{ArchiveCells, cells_on, row_of}
use Rattle.rr_replica.proofs.InMemoryLemmas.{row_of-empty}
use Rattle.rr_fetch.specs.LentRows.{lent_cells}

-- the cells of the entries of a slot
abbrev pub with_slot : ℤ → List Entry → List (ℤ × Entry)
with_slot slot es = map (λ e. (slot, e)) es

abbrev pub leading : ℤ → List (ℤ × Entry) → ℕ
leading slot cells = prefix_len (λ c. int_eq c.0 slot) cells

other_slot : (slot later : ℤ) → slot <ℤ later → int_eq later slot ≡ false
other_slot slot later h = grind (arith, ints)

same_slot : (slot : ℤ) → int_eq slot slot ≡ true
same_slot slot = grind (arith, ints)

further : (slot later : ℤ) → slot <ℤ later → slot <ℤ (later +ℤ pos 1)
further slot later h = omega (arith, ints)

next_on : (slot : ℤ) → slot <ℤ (slot +ℤ pos 1)
next_on slot = omega (arith, ints)

-- no cell of a later slot is of this one
none_of_later : (slot later : ℤ) (es : List Entry) (rest : List (ℤ × Entry)) → slot <ℤ later → leading slot rest ≡ 0
    → leading slot (with_slot later es ++ rest) ≡ 0
none_of_later slot later [] rest h none = none
none_of_later slot later (e ∷ es) rest h none =
    ap (λ b. cond b (1 + leading slot (with_slot later es ++ rest)) 0) (other_slot slot later h)

none_later : (m : ArchiveCells) (slot later : ℤ) (n : ℕ) → slot <ℤ later → leading slot (cells_on m later n) ≡ 0
unfolding cells_on
none_later m slot later zero h = refl
none_later m slot later (suc n) h =
    none_of_later slot later (row_of m later) (cells_on m (later +ℤ pos 1) n) h
    (none_later m slot (later +ℤ pos 1) n (further slot later h))

all_of_slot : (slot : ℤ) (es : List Entry) (rest : List (ℤ × Entry)) → leading slot rest ≡ 0
    → leading slot (with_slot slot es ++ rest) ≡ length (with_slot slot es)
all_of_slot slot [] rest none = none
all_of_slot slot (e ∷ es) rest none =
    ap (λ b. cond b (1 + leading slot (with_slot slot es ++ rest)) 0) (same_slot slot)
    ∙ ap (λ n. 1 + n) (all_of_slot slot es rest none) ∙ one_more (length (with_slot slot es))
  where
    one_more : (n : ℕ) → 1 + n ≡ suc n
    one_more n = omega arith

-- a run is the cells of its first slot, as many as lead, and the run from the next slot on
pub run_is : (m : ArchiveCells) (slot : ℤ) (left : ℕ) → 1 ≤ left
    → cells_on m slot left ≡ with_slot slot (row_of m slot) ++ cells_on m (slot +ℤ pos 1) (left - 1)
unfolding cells_on
run_is m slot zero h = absurd (omega arith)
run_is m slot (suc n) h =
    ap (λ k. with_slot slot (row_of m slot) ++ cells_on m (slot +ℤ pos 1) k) (one_less n)
  where
    one_less : (n : ℕ) → n ≡ suc n - 1
    one_less n = omega arith

pub leading_row : (m : ArchiveCells) (slot : ℤ) (left : ℕ) → 1 ≤ left
    → leading slot (cells_on m slot left) ≡ length (with_slot slot (row_of m slot))
leading_row m slot left h =
    ap (leading slot) (run_is m slot left h)
    ∙ all_of_slot slot (row_of m slot) (cells_on m (slot +ℤ pos 1) (left - 1))
    (none_later m slot (slot +ℤ pos 1) (left - 1) (next_on slot))

pub row_taken : (m : ArchiveCells) (slot : ℤ) (left : ℕ) → 1 ≤ left
    → take (leading slot (cells_on m slot left)) (cells_on m slot left) ≡ with_slot slot (row_of m slot)
row_taken m slot left h =
    (λ i. take (leading_row m slot left h i) (run_is m slot left h i))
    ∙ take-append_seam (with_slot slot (row_of m slot)) (cells_on m (slot +ℤ pos 1) (left - 1))

pub row_dropped : (m : ArchiveCells) (slot : ℤ) (left : ℕ) → 1 ≤ left
    → drop (leading slot (cells_on m slot left)) (cells_on m slot left) ≡ cells_on m (slot +ℤ pos 1) (left - 1)
row_dropped m slot left h =
    (λ i. drop (leading_row m slot left h i) (run_is m slot left h i))
    ∙ drop-append_seam (with_slot slot (row_of m slot)) (cells_on m (slot +ℤ pos 1) (left - 1))

pub entries_back : (slot : ℤ) (es : List Entry) → map (λ c. c.1) (with_slot slot es) ≡ es
entries_back slot [] = refl
entries_back slot (e ∷ es) = ap (λ l. e ∷ l) (entries_back slot es)

-- the cells of an archive that may not be there, as its replica says them
pub lent_is : {X : Type 0} (cells : X → ArchiveCells) (o : Option X) (rows : ArchiveCells)
    → MatchOption o (rows ≡ empty) (λ a. cells a ≡ rows) → lent_cells cells o ≡ rows
lent_is cells None rows e = sym e
lent_is cells (Some a) rows e = e

pub no_slots : (m : ArchiveCells) (slot : ℤ) → cells_on m slot 0 ≡ []
unfolding cells_on
no_slots m slot = refl

-- without an archive a run has no cell
pub none_lent : {X : Type 0} (cells : X → ArchiveCells) (slot : ℤ) → cells_on (lent_cells cells None) slot 1 ≡ []
unfolding cells_on
none_lent cells slot = ap (λ es. with_slot slot es ++ []) (row_of-empty slot)

-- a run that was read, or none without memory
pub run_or_none : (m : ArchiveCells) (slot : ℤ) (run : List (ℤ × Entry)) (read : Result ℕ AllocError)
    → IfOk read (λ slots. run ≡ cells_on m slot slots) → OnErr read (run ≡ [])
    → run ≡ cells_on m slot (result_unwrap_or read 0)
run_or_none m slot run (Ok slots) is none = is
run_or_none m slot run (Err failed) is none = none ∙ sym (no_slots m slot)

-- ---- parts of lists

pub range_is : {X : Type 0} (xs : List X) (i n : ℕ) → slice_range xs i (i + n) ≡ take n (drop i xs)
range_is xs i n = ap (λ k. take k (drop i xs)) (same i n)
  where
    same : (i n : ℕ) → (i + n) - i ≡ n
    same i n = omega arith

pub rest_is : {X : Type 0} (xs : List X) (i : ℕ) → slice_range xs i (length xs) ≡ drop i xs
rest_is xs i = take_all (length xs - i) (drop i xs) (fits (length-drop i xs))
  where
    fits : length (drop i xs) ≡ length xs - i → length (drop i xs) ≤ length xs - i
    fits e = omega arith
