-- The cells of rows that follow one another.
use Rattle.std.proofs.Common.{◌≡◌, ℕ, zero, suc, ◌<◌, ℤ, pos, ◌+ℤ◌, ◌-ℤ◌, Bool, true, false, cond, List, [], ◌++◌, map, refl, sym, ap, ◌∙◌, Option, Some, None, arith}
use Rattle.std.specs.Prelude.{int_lt}
use Rattle.std.proofs.lemmas.Int.{ints}
use Rattle.rr_join.specs.Horizon.{is_above}
use Rattle.rr_archive.specs.declared.entry.Entry.{Entry}
use Rattle.rr_archive.specs.Cells.{ArchiveCells, cells_on, row_of}
use Rattle.rr_archive.specs.LiveRows.{cells_by, is_empty, is_later}
use Rattle.rr_archive.specs.Row.{ascends}
use Rattle.rr_archive.proofs.CellRuns.{one_slot}
use Rattle.rr_archive.proofs.LiveRowsLemmas.{empty_is, row_of-cells_by}
use Rattle.rr_packed.specs.PackedRows.{cells_of_rows}

-- a slot more, from one on
one_on : (slot : ℤ) (n : ℕ) → (slot +ℤ pos 1) +ℤ pos n ≡ slot +ℤ pos (suc n)
one_on slot n = omega (arith, ints)

itself : (slot : ℤ) → slot +ℤ pos 0 ≡ slot
itself slot = omega (arith, ints)

pub rows_alike : (f g : ℕ → List Entry) (slot : ℤ) (n : ℕ) → ((i : ℕ) → i < n → f i ≡ g i)
    → cells_of_rows f slot n ≡ cells_of_rows g slot n
unfolding cells_of_rows
rows_alike f g slot zero same = refl
rows_alike f g slot (suc n) same = λ j. map (λ e. (slot, e)) (same 0 (omega arith) j)
    ++ rows_alike (λ i. f (suc i)) (λ i. g (suc i)) (slot +ℤ pos 1) n (λ i h. same (suc i) (omega arith)) j

pub rows_empty : (f : ℕ → List Entry) (slot : ℤ) (n : ℕ) → ((i : ℕ) → i < n → f i ≡ [])
    → cells_of_rows f slot n ≡ []
unfolding cells_of_rows
rows_empty f slot zero none = refl
rows_empty f slot (suc n) none = λ j. map (λ e. (slot, e)) (none 0 (omega arith) j)
    ++ rows_empty (λ i. f (suc i)) (slot +ℤ pos 1) n (λ i h. none (suc i) (omega arith)) j

-- the cells of slots, by what is stored of each
cells_on-rows : (m : ArchiveCells) (f : ℕ → List Entry) (slot : ℤ) (n : ℕ)
    → ((i : ℕ) → i < n → row_of m (slot +ℤ pos i) ≡ f i) → cells_on m slot n ≡ cells_of_rows f slot n
unfolding cells_of_rows cells_on
cells_on-rows m f slot zero same = refl
cells_on-rows m f slot (suc n) same = λ j. map (λ e. (slot, e)) ((ap (row_of m) (sym (itself slot))
    ∙ same 0 (omega arith)) j)
    ++ cells_on-rows m (λ i. f (suc i)) (slot +ℤ pos 1) n
    (λ i h. ap (row_of m) (one_on slot i) ∙ same (suc i) (omega arith)) j

still_above : (limit : ℕ) (newest : Option ℤ) (slot : ℤ) (i : ℕ) → is_above limit newest slot ≡ true
    → is_above limit newest (slot +ℤ pos i) ≡ true
still_above limit None slot i h = refl
still_above limit (Some top) slot i h = later top slot limit i h
  where
    later : (top slot : ℤ) (limit i : ℕ) → int_lt (top -ℤ pos limit) slot ≡ true
        → int_lt (top -ℤ pos limit) (slot +ℤ pos i) ≡ true
    later top slot limit i h = grind (arith, ints)

either : {X : Type 0} (b : Bool) (x : X) → cond b x x ≡ x
either true x = refl
either false x = refl

module _ (limit : ℕ) (newest : Option ℤ) (f : ℤ → List Entry) (ascend : (slot : ℤ) → ascends (f slot) ≡ true)
    (none_later : (slot : ℤ) → is_later newest slot ≡ true → is_empty (f slot) ≡ true) where
  live_row : (slot : ℤ) → is_above limit newest slot ≡ true → row_of (cells_by limit newest f) slot ≡ f slot
  live_row slot live = row_of-cells_by f limit newest ascend none_later slot ∙ ap (λ b. cond b (f slot) []) live

  -- from a live slot on, the cells of slots are what is stored of them
  pub run_live : (slot : ℤ) (n : ℕ) → is_above limit newest slot ≡ true
      → cells_on (cells_by limit newest f) slot n ≡ cells_of_rows (λ i. f (slot +ℤ pos i)) slot n
  run_live slot n live = cells_on-rows (cells_by limit newest f) (λ i. f (slot +ℤ pos i)) slot n
      (λ i h. live_row (slot +ℤ pos i) (still_above limit newest slot i live))

  -- a slot that is past the horizon, or after the newest, has none
  pub run_dead : (slot : ℤ) → is_above limit newest slot ≡ false → cells_on (cells_by limit newest f) slot 1 ≡ []
  run_dead slot dead = one_slot (cells_by limit newest f) slot
      ∙ ap (map (λ (e : Entry). (slot, e))) (row_of-cells_by f limit newest ascend none_later slot
      ∙ ap (λ b. cond b (f slot) []) dead)

  pub run_later : (slot : ℤ) → is_later newest slot ≡ true → cells_on (cells_by limit newest f) slot 1 ≡ []
  run_later slot later = one_slot (cells_by limit newest f) slot
      ∙ ap (map (λ (e : Entry). (slot, e))) (row_of-cells_by f limit newest ascend none_later slot
      ∙ ap (λ es. cond (is_above limit newest slot) es []) (empty_is (f slot) (none_later slot later))
      ∙ either (is_above limit newest slot) [])
