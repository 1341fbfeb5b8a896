-- Which of a key's archives keep a sample.
use Rattle.std.proofs.Common.{◌≡◌, ℕ, zero, suc, ◌+◌, ◌-◌, ◌<◌, Bool, true, false, ◌||◌, List, [], ◌∷◌, map, length, refl, sym, ap, ◌∙◌, arith, None}
use Rattle.std.specs.FinMap.{keys, entries, empty, len-entries, len-empty}
use Rattle.std.specs.List.{list_any, range_with_len}
use Rattle.std.proofs.lemmas.List.Folds.{list_any-append}
use Rattle.std.proofs.lemmas.List.FromFn.{map-range_with_len_more}
use Rattle.rr_contrib.specs.declared.contribution.Contribution.{Contribution}
use Rattle.rr_archive.specs.Cells.{ArchiveCells}
use Rattle.rr_archive.specs.CellSlots.{CellSlot, cell_slot_cmp, newest_of}

-- an archive without a cell has no newest slot
pub newest_of-empty : (rows : ArchiveCells) → rows ≡ empty → None ≡ newest_of (keys rows)
newest_of-empty rows is = sym (ap (λ (r : ArchiveCells). newest_of (keys r)) is
    ∙ ap (λ es. newest_of (map (λ e. e.0) es))
    (nothing_from_length (entries none) (sym (len-entries none) ∙ len-empty cell_slot_cmp Contribution)))
  where
    none : ArchiveCells
    none = empty

    nothing_from_length : (es : List (CellSlot × Contribution)) → length es ≡ 0 → es ≡ []
    nothing_from_length [] e = refl
    nothing_from_length (x ∷ es) e = absurd (omega (arith, e))

-- whether one of so many archives passes a test, with one archive more
or_false : (b : Bool) → (b || false) ≡ b
or_false true = refl
or_false false = refl

pub any_more : (f : ℕ → Bool) (n : ℕ) (a b : Bool) → a ≡ list_any (λ k. k) (map f (range_with_len 0 n)) → b ≡ f n
    → (a || b) ≡ list_any (λ k. k) (map f (range_with_len 0 (n + 1)))
any_more f n a b so_far here =
    let before = map f (range_with_len 0 n) in
    let at : 0 + n ≡ n = omega arith in
    (λ i. so_far i || here i)
    ∙ ap (λ r. list_any (λ k. k) before || r) (sym (or_false (f n)))
    ∙ sym (list_any-append (λ k. k) before (f n ∷ []))
    ∙ ap (list_any (λ k. k)) (sym (map-range_with_len_more f 0 n n at))

-- one that passes it is among them, however many archives follow
any_later : (f : ℕ → Bool) (n d : ℕ) → true ≡ list_any (λ k. k) (map f (range_with_len 0 n))
    → true ≡ list_any (λ k. k) (map f (range_with_len 0 (n + d)))
any_later f n zero found = let same : n ≡ n + 0 = omega arith in
    found ∙ ap (λ m. list_any (λ k. k) (map f (range_with_len 0 m))) same
any_later f n (suc d) found =
    let same : n + d + 1 ≡ n + suc d = omega arith in
    any_more f (n + d) true (f (n + d)) (any_later f n d found) refl
    ∙ ap (λ m. list_any (λ k. k) (map f (range_with_len 0 m))) same

pub any_upto : (f : ℕ → Bool) (n m : ℕ) → false ≡ list_any (λ k. k) (map f (range_with_len 0 n)) → true ≡ f n → n < m
    → true ≡ list_any (λ k. k) (map f (range_with_len 0 m))
any_upto f n m none here less =
    let same : n + 1 + (m - (n + 1)) ≡ m = omega arith in
    any_later f (n + 1) (m - (n + 1)) (any_more f n false true none here)
    ∙ ap (λ k. list_any (λ k. k) (map f (range_with_len 0 k))) same
