-- How many entries rows that follow one another have in all.
use Rattle.std.proofs.Common.{rules, ◌≡◌, ℕ, zero, suc, ◌+◌, ◌-◌, ◌<◌, ◌≤◌, ◌^◌, ℤ, pos, ◌+ℤ◌, List, [], length, get_or, take, drop, refl, sym, ap, ◌∙◌, Option, Some, None, arith, ⊎_elim, w64}
use Rattle.std.specs.Prelude.{slice_range, bit_and, count_ones, vec_len}
use Rattle.std.specs.List.{sum_by}
use Rattle.std.specs.Int.{bit_at, bit_not}
use Rattle.std.proofs.lemmas.Int.{ints}
use Rattle.std.proofs.lemmas.Bool.{cases_lt}
use Rattle.std.proofs.lemmas.List.{drop-take, take-take}
use Rattle.std.proofs.lemmas.List.Sums.{sum_by-take-drop, sum_by_more}
use Rattle.std.proofs.lemmas.Nat.Bits.{bit_at-lt, bit_at_and, bit_at_not}
use Rattle.std.proofs.lemmas.Option.{slice_get-get_or}
use Rattle.rr_archive.specs.declared.entry.Entry.{Entry}
use Rattle.rr_archive.specs.declared.entries.Entries.{Entries}
use Rattle.rr_archive.specs.declared.entries.Entries.TheVariants.{Empty}
use Rattle.rr_archive.specs.Entries.{items_of}
use Rattle.rr_archive.proofs.LiveWalks.{cells_left, length_step}
use Rattle.rr_packed.specs.declared.block.Block.{Block}
use Rattle.rr_packed.specs.declared.lone_sample.LoneSample.{LoneSample}
use Rattle.rr_packed.specs.declared.lone_sample.Source.{Source}
use Rattle.rr_packed.specs.Sparse.{rank, item_in}
use Rattle.rr_packed.specs.LoneSamples.{entries_read}
use Rattle.rr_packed.specs.BlockRows.{items_in, entries_in_all}
use Rattle.rr_packed.proofs.RankLemmas.{rank_more, rank_le, rank_within}
use Rattle.rr_packed.proofs.SparseLemmas.{item_none, item_found, item_bit, one_of, place_none, place_set}
use Rattle.rr_packed.proofs.BlockLemmas.{items_by_entries, items_by_sample}

no_more : (n : ℕ) → n + 0 ≡ n
no_more n = omega arith

one_more : (n : ℕ) → n + 1 ≡ suc n
one_more n = omega arith

next_to : (n m : ℕ) → n + suc m ≡ (n + m) + 1
next_to n m = omega arith

pub in_all_none : (f : ℕ → List Entry) → entries_in_all f 0 ≡ 0
unfolding entries_in_all
in_all_none f = refl

pub in_all_more : (f : ℕ → List Entry) (n : ℕ) → entries_in_all f (n + 1) ≡ entries_in_all f n + length (f n)
unfolding entries_in_all
in_all_more f n = ap (entries_in_all f) (one_more n)

pub in_all_alike : (f g : ℕ → List Entry) (n : ℕ) → ((i : ℕ) → i < n → f i ≡ g i)
    → entries_in_all f n ≡ entries_in_all g n
unfolding entries_in_all
in_all_alike f g zero same = refl
in_all_alike f g (suc n) same = λ j.
    in_all_alike f g n (λ i h. same i (omega arith)) j + length (same n (omega arith) j)

pub in_all_empty : (f : ℕ → List Entry) (n : ℕ) → ((i : ℕ) → i < n → f i ≡ []) → entries_in_all f n ≡ 0
unfolding entries_in_all
in_all_empty f zero none = refl
in_all_empty f (suc n) none =
    let before = in_all_empty f n (λ i h. none i (omega arith)) in
    let here = ap length (none n (omega arith)) in
    omega arith

-- ---- cells that are left, by what is stored of the next slots

pub left_in_all : (f : ℤ → List Entry) (z : ℤ) (n i d : ℕ) → i + d ≤ n
    → length (cells_left f z n i) ≡ entries_in_all (λ j. f ((z +ℤ pos i) +ℤ pos j)) d
    + length (cells_left f z n (i + d))
left_in_all f z n i zero le =
    let none = in_all_none (λ j. f ((z +ℤ pos i) +ℤ pos j)) in
    let same = ap (λ k. length (cells_left f z n k)) (no_more i) in
    omega arith
left_in_all f z n i (suc d) le =
    let g = λ (j : ℕ). f ((z +ℤ pos i) +ℤ pos j) in
    let before = left_in_all f z n i d (omega arith) in
    let step = length_step f z n (i + d) (omega arith) in
    let row = ap (λ y. length (f y)) (apart z i d) in
    let more = in_all_more g d in
    let one = ap (entries_in_all g) (one_more d) in
    let same = ap (λ k. length (cells_left f z n k)) (next_to i d) in
    omega arith
  where
    apart : (z : ℤ) (i j : ℕ) → z +ℤ pos (i + j) ≡ (z +ℤ pos i) +ℤ pos j
    apart z i j = omega (arith, ints)

-- ---- in a block, by its masks and the entries that its rows are held as

-- how many entries a row has
abbrev pub len : Entries → ℕ
len es = length (items_of es)

-- the bits of samples whose rows aren't held as entries
abbrev pub read_alone : Block → ℕ
read_alone b = bit_and b.samples.mask (bit_not w64 b.rows.mask)

-- how many entries a number of samples stand for
abbrev pub count_read : Option Source → ℕ → ℕ
count_read None ones = 0
count_read (Some s) ones = ones

-- how many entries the rows before a number have that are held as such
abbrev held_before : Block → ℕ → ℕ
held_before b n = sum_by len (take (rank b.rows.mask n) b.rows.items.items)

module _ (b : Block) (rows : b.rows.mask < 2 ^ 64) (samples : b.samples.mask < 2 ^ 64) where
  -- a row that is held as its entries
  one_held : (n : ℕ) → n < 64 → bit_at b.rows.mask n ≡ 1
      → length (items_in b n) + (count_read b.source (rank (read_alone b) n) + held_before b n)
      ≡ count_read b.source (rank (read_alone b) (n + 1)) + held_before b (n + 1)
  one_held n low has =
      let at = rank b.rows.mask n in
      let xs = b.rows.items.items in
      let inside = rank_within b.rows.mask n rows low has in
      let counted : count_ones b.rows.mask ≡ vec_len b.rows.items = b.rows.counted in
      let len_is : vec_len b.rows.items ≡ length xs = search rules in
      let within : at < length xs = omega arith in
      let es = get_or xs at Empty in
      let here = ap length (items_by_entries b n es
      (item_found b.rows.mask xs n at (sym (place_set b.rows.mask n has)) ∙ slice_get-get_or xs at Empty within)) in
      let bit_not_is = bit_at_not w64 b.rows.mask n rows low in
      let bit = bit_at_and b.samples.mask (bit_not w64 b.rows.mask) n in
      let unread : bit_at (read_alone b) n ≡ 0 = omega arith in
      let more = rank_more (read_alone b) n in
      let same : rank (read_alone b) (n + 1) ≡ rank (read_alone b) n = omega arith in
      let read = ap (count_read b.source) same in
      let next = rank_more b.rows.mask n in
      let up : rank b.rows.mask (n + 1) ≡ at + 1 = omega arith in
      let held = ap (λ k. sum_by len (take k xs)) up in
      let sums = sum_by_more len xs at Empty within in
      omega arith

  -- one that isn't
  one_unheld : (n : ℕ) → n < 64 → bit_at b.rows.mask n ≡ 0
      → length (items_in b n) + (count_read b.source (rank (read_alone b) n) + held_before b n)
      ≡ count_read b.source (rank (read_alone b) (n + 1)) + held_before b (n + 1)
  one_unheld n low free =
      let xs = b.samples.items.items in
      let here = ap length (items_by_sample b n
      (item_none b.rows.mask b.rows.items.items n (place_none b.rows.mask n free))) in
      let counted : count_ones b.samples.mask ≡ vec_len b.samples.items = b.samples.counted in
      let len_is : vec_len b.samples.items ≡ length xs = search rules in
      let has = item_bit b.samples.mask xs n
      (λ set. let inside = rank_within b.samples.mask n samples low set in omega arith) in
      let small = bit_at-lt b.samples.mask n in
      let bit_not_is = bit_at_not w64 b.rows.mask n rows low in
      let bit = bit_at_and b.samples.mask (bit_not w64 b.rows.mask) n in
      let more = rank_more (read_alone b) n in
      let one : rank (read_alone b) (n + 1) ≡ rank (read_alone b) n + one_of (item_in b.samples n) = omega arith in
      let read = by_source b.source (item_in b.samples n) (rank (read_alone b) n) (rank (read_alone b) (n + 1)) one in
      let next = rank_more b.rows.mask n in
      let same : rank b.rows.mask (n + 1) ≡ rank b.rows.mask n = omega arith in
      let held = ap (λ k. sum_by len (take k b.rows.items.items)) same in
      omega arith
    where
      by_source : (s : Option Source) (o : Option LoneSample) (before after : ℕ) → after ≡ before + one_of o
          → length (entries_read s o) + count_read s before ≡ count_read s after
      by_source None o before after e = refl
      by_source (Some s) None before after e = omega arith
      by_source (Some s) (Some r) before after e = omega arith

  one_row : (n : ℕ) → n < 64
      → length (items_in b n) + (count_read b.source (rank (read_alone b) n) + held_before b n)
      ≡ count_read b.source (rank (read_alone b) (n + 1)) + held_before b (n + 1)
  one_row n low = ⊎_elim
      (λ (clear : bit_at b.rows.mask n < 1). one_unheld n low (omega arith))
      (λ (set : 1 ≤ bit_at b.rows.mask n). let small = bit_at-lt b.rows.mask n in one_held n low (omega arith))
      (cases_lt (bit_at b.rows.mask n) 1)

  rows_on : (n m : ℕ) → n + m ≤ 64
      → entries_in_all (λ i. items_in b (n + i)) m + (count_read b.source (rank (read_alone b) n) + held_before b n)
      ≡ count_read b.source (rank (read_alone b) (n + m)) + held_before b (n + m)
  rows_on n zero le =
      let none = in_all_none (λ i. items_in b (n + i)) in
      let read = ap (λ k. count_read b.source (rank (read_alone b) k)) (no_more n) in
      let held = ap (held_before b) (no_more n) in
      omega arith
  rows_on n (suc m) le =
      let f = λ (i : ℕ). items_in b (n + i) in
      let before = rows_on n m (omega arith) in
      let row = one_row (n + m) (omega arith) in
      let more = in_all_more f m in
      let one = ap (entries_in_all f) (one_more m) in
      let read = ap (λ k. count_read b.source (rank (read_alone b) k)) (next_to n m) in
      let held = ap (held_before b) (next_to n m) in
      omega arith

  -- those of the next rows: the samples' bits, and the entries of those that are held as such
  pub in_block : (n m ones : ℕ) → n + m ≤ 64 → rank (read_alone b) n + ones ≡ rank (read_alone b) (n + m)
      → entries_in_all (λ i. items_in b (n + i)) m ≡ count_read b.source ones
      + sum_by len (slice_range b.rows.items.items (rank b.rows.mask n) (rank b.rows.mask (n + m)))
  in_block n m ones le on =
      let xs = b.rows.items.items in
      let from = rank b.rows.mask n in
      let to = rank b.rows.mask (n + m) in
      let rise : from ≤ to = rank_le b.rows.mask n (n + m) (omega arith) in
      let end : from + (to - from) ≡ to = omega arith in
      let parts = sum_by-take-drop len (take to xs) from in
      let first = ap (sum_by len) (take-take from to xs rise) in
      let rest = ap (sum_by len) (ap (λ k. drop from (take k xs)) (sym end) ∙ drop-take from (to - from) xs) in
      let all = rows_on n m le in
      let read = by_source b.source (rank (read_alone b) n) (rank (read_alone b) (n + m)) ones on in
      omega arith
    where
      by_source : (s : Option Source) (before after ones : ℕ) → before + ones ≡ after
          → count_read s before + count_read s ones ≡ count_read s after
      by_source None before after ones e = refl
      by_source (Some s) before after ones e = e
