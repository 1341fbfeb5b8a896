-- What is consolidated from the cells of what is known is what its samples say.
use Rattle.std.proofs.Common.{◌≡◌, ℕ, suc, ◌+◌, ◌^◌, ◌<◌, ℤ, pos, ◌+ℤ◌, true, cond, List, [], ◌∷◌, map, length, refl, sym, ap, ◌∙◌, subst, Ordering, Less, Equal, Greater, arith, Option, Some, None, nat_cmp, int_cmp, zero-add, add_assoc, inl, inr, ⊎_elim, ◌⊎◌}
use Rattle.std.specs.Prelude.{bit_or, count_ones, ◌==◌}
use Rattle.std.specs.List.{list_any, range_with_len, sum}
use Rattle.std.specs.Option.{option_map, unwrap_or}
use Rattle.std.specs.Ordering.{flip_args, ordering_then}
use Rattle.std.specs.Cmp.{IsTotalOrder, int_cmp_total, nat_cmp_total, back_total, tied_itself}
use Rattle.std.specs.FinMap.{IsAntisymmetric, int_cmp-IsAntisymmetric, nat_cmp-IsAntisymmetric, keys}
use Rattle.std.proofs.Math.IntN.{+ℤ_assoc, +ℤ_comm, +ℤ_idl}
use Rattle.std.proofs.Math.Nat.{add_comm}
use Rattle.std.proofs.lemmas.Bool.{eqb-true}
use Rattle.std.proofs.lemmas.List.Elements.{filter_agree}
use Rattle.std.proofs.lemmas.Nat.{or_comm}
use Rattle.rr_schema.specs.declared.consolidation.ConsolidationFunction.{ConsolidationFunction}
use Rattle.rr_schema.specs.declared.consolidation.ConsolidationFunction.TheVariants.{Average, Min, Max, Last}
use Rattle.rr_schema.specs.Schema.{Layout, IsLayout, archive_at, place_of, is_known_enough}
use Rattle.rr_join.specs.Maps.{greatest, greater}
use Rattle.rr_join.proofs.Booleans.{and_first}
use Rattle.rr_join.proofs.Greater.{greater_assoc, greater_comm, flip_args-IsAntisymmetric}
use Rattle.rr_join.proofs.Members.{is_in, is_in-filter, found_of}
use Rattle.rr_contrib.specs.declared.contribution.Contribution.{Contribution}
use Rattle.rr_contrib.specs.Contributions.{SlotSample}
use Rattle.rr_contrib.specs.Samples as samples
use Rattle.rr_contrib.specs.Samples.{mask_of, summary}
use Rattle.rr_archive.specs.declared.entry.Entry.{Entry}
use Rattle.rr_cells.specs.CellNames.{CellName, cell_name_cmp}
use Rattle.rr_cells.specs.Samples.{Mark, mark_cmp, name_of}
use Rattle.rr_cells.specs.Knowledge.{Knowledge, live}
use Rattle.rr_join.specs.Sums.{int_sum}
use Rattle.rr_cells.specs.Rows.{average, last_of, of_marks, is_at, marks_of_row, known_places, row}
use Rattle.rr_cells.specs.FetchText.{Request, answer_text, fetch_text}
use Rattle.rr_cells.proofs.Orders.{cell_name_cmp_total, cell_name_cmp-IsAntisymmetric, mark_cmp_total, mark_cmp-IsAntisymmetric}
use Rattle.rr_cells.proofs.Horizon.{is_at_says}
use Rattle.rr_cells.proofs.Places.{place_below}
use Rattle.rr_cells.specs.Cells.{row_at}
use Rattle.rr_cells.specs.Puts.{slot_sample_of}
use Rattle.rr_cells.specs.State.{cells_of_knowledge}
use Rattle.rr_fetch.specs.Answers.{cells_text}
use Rattle.rr_fetch.specs.Consolidation.{mask_of_entries, total_of, count_of, last_cmp, of_entries, consolidation_of}
use Rattle.rr_fetch.proofs.Gathering.{gather, gather_by_name, gather_agree, gather-greatest, greatest-map, greatest_agree}
use Rattle.rr_fetch.proofs.MoreEntries.{gather-sum, gather-count, gather-united, or_assoc}
use Rattle.rr_fetch.proofs.PlaceBits.{ones-mask}
use Rattle.rr_fetch.proofs.RowEntries.{map-map}
use Rattle.rr_fetch.proofs.RowNames.{any-map, row_names, of_name, entry, entries_are, names_apart, in_row_names, all_named, of_name-named}
use Rattle.rr_fetch.proofs.SeenMarks.{sum-seen, count-seen, mask-seen, values-seen, some_value, some_last, last-seen, last_in}

-- a mark in place of one that is missing
abbrev no_mark : Mark
no_mark = record { sample = record { time = pos 0; origin = 0; number = 0; key = []; value = pos 0 }; archive = 0 }

count-marks : (ms : List Mark) → length ms ≡ gather ◌+◌ 0 (λ _. 1) ms
count-marks [] = refl
count-marks (m ∷ ms) = ap suc (count-marks ms) ∙ one_more (gather ◌+◌ 0 (λ _. 1) ms)
  where
    one_more : (k : ℕ) → suc k ≡ 1 + k
    one_more k = omega arith

mask-marks : (place : Mark → ℕ) (ms : List Mark) → mask_of (map place ms) ≡ gather bit_or 0 (λ m. 2 ^ place m) ms
mask-marks place [] = refl
mask-marks place (m ∷ ms) = ap (bit_or (2 ^ place m)) (mask-marks place ms)

last-marks : (ms : List Mark) → last_of ms ≡ gather (greater mark_cmp) None (λ m. Some m) ms
last-marks [] = refl
last-marks (m ∷ ms) = ap (greater mark_cmp (Some m)) (last-marks ms)

module _ (s : Layout) (is : IsLayout s) (k : Knowledge) (key : List ℕ) (archive : ℕ) (slot : ℤ) where
  abbrev ns : List CellName
  ns = row_names s k key archive slot

  abbrev marks : CellName → List Mark
  marks n = of_name s k key archive slot n

  abbrev at : CellName → Entry
  at n = entry s k key archive slot n

  abbrev row_marks : List Mark
  row_marks = marks_of_row s k key archive slot

  by_name : {A : Type 0} (op : A → A → A) (none : A) → ((x : A) → op none x ≡ x)
      → ((x y z : A) → op (op x y) z ≡ op x (op y z)) → ((x y : A) → op x y ≡ op y x) → (part : Mark → A)
      → gather op none (λ n. gather op none part (marks n)) ns ≡ gather op none part row_marks
  by_name op none unit assoc comm part =
      gather_by_name op none unit assoc comm part cell_name_cmp_total cell_name_cmp-IsAntisymmetric (name_of s) ns
      (names_apart s k key archive slot) (keys (live s k))
      ∙ ap (gather op none part) (all_named s k key archive slot)

  -- ---- sums

  sums : total_of (map at ns) ≡ int_sum (map (λ m. m.value) row_marks)
  unfolding summary
  sums =
      ap int_sum (map-map (λ (e : Entry). e.contribution.sum) at ns)
      ∙ gather-sum (λ n. (at n).contribution.sum) ns
      ∙ gather_agree cell_name_cmp_total cell_name_cmp-IsAntisymmetric ◌+ℤ◌ (pos 0) (λ n. (at n).contribution.sum)
      (λ n. gather ◌+ℤ◌ (pos 0) (λ m. m.value) (marks n)) ns (λ n e. sum-seen s (marks n))
      ∙ by_name ◌+ℤ◌ (pos 0) +ℤ_idl +ℤ_assoc +ℤ_comm (λ m. m.value)
      ∙ sym (gather-sum (λ m. m.value) row_marks)

  counts : count_of (map at ns) ≡ length row_marks
  unfolding summary
  counts =
      ap sum (map-map (λ (e : Entry). e.contribution.count) at ns)
      ∙ gather-count (λ n. (at n).contribution.count) ns
      ∙ gather_agree cell_name_cmp_total cell_name_cmp-IsAntisymmetric ◌+◌ 0 (λ n. (at n).contribution.count)
      (λ n. gather ◌+◌ 0 (λ _. 1) (marks n)) ns (λ n e. count-seen s (marks n))
      ∙ by_name ◌+◌ 0 (λ x. zero-add x) add_assoc (λ x y. add_comm x y) (λ _. 1)
      ∙ sym (count-marks row_marks)

  -- ---- extremes

  best : (S : ℤ → ℤ → Ordering) → IsTotalOrder S → IsAntisymmetric S → (read : Contribution → ℤ)
      → ((ms : List Mark) → read (summary (map (slot_sample_of s) ms))
      ≡ unwrap_or (greatest S (map (λ x. x.value) (map (slot_sample_of s) ms))) (pos 0))
      → greatest S (map (λ e. read e.contribution) (map at ns)) ≡ greatest S (map (λ m. m.value) row_marks)
  best S o same read reads =
      ap (greatest S) (map-map (λ (e : Entry). read e.contribution) at ns)
      ∙ gather-greatest S (λ n. read (at n).contribution) ns
      ∙ gather_agree cell_name_cmp_total cell_name_cmp-IsAntisymmetric (greater S) None
      (λ n. Some (read (at n).contribution)) (λ n. gather (greater S) None (λ m. Some m.value) (marks n)) ns
      (λ n e.
      ap (λ v. Some v) (reads (marks n) ∙ ap (λ vs. unwrap_or (greatest S vs) (pos 0)) (values-seen s (marks n)))
      ∙ some_value s S (marks n) (pos 0) (in_row_names s k key archive slot n e).1
      ∙ gather-greatest S (λ m. m.value) (marks n))
      ∙ by_name (greater S) None (λ x. refl) (greater_assoc o) (greater_comm o same) (λ m. Some m.value)
      ∙ sym (gather-greatest S (λ m. m.value) row_marks)

  -- ---- places

  abbrev place : Mark → ℕ
  place m = place_of s m.archive m.time

  masks : mask_of_entries (map at ns) ≡ mask_of (map place row_marks)
  unfolding summary
  masks =
      gather-united at ns
      ∙ gather_agree cell_name_cmp_total cell_name_cmp-IsAntisymmetric bit_or 0 (λ n. (at n).contribution.mask)
      (λ n. gather bit_or 0 (λ m. 2 ^ place m) (marks n)) ns (λ n e. mask-seen s (marks n))
      ∙ by_name bit_or 0 (λ x. refl) or_assoc or_comm (λ m. 2 ^ place m)
      ∙ sym (mask-marks place row_marks)

  -- each mark of the row is of its archive
  in_archive : (m : Mark) → is_in mark_cmp row_marks m ≡ true → m.archive ≡ archive
  unfolding marks_of_row
  in_archive m e =
      (is_at_says key archive slot (name_of s m) (and_first (is_at key archive slot (name_of s m))
      (is_in mark_cmp (keys (live s k)) m) (sym (is_in-filter mark_cmp_total mark_cmp-IsAntisymmetric
      (λ x. is_at key archive slot (name_of s x)) (keys (live s k)) m) ∙ e))).1

  same_places : count_ones (mask_of_entries (map at ns)) ≡ known_places s archive row_marks
  same_places =
      ap count_ones masks
      ∙ ones-mask (map place row_marks) (archive_at s archive).steps (λ p e.
      let f = found_of mark_cmp_total mark_cmp-IsAntisymmetric (λ m. place m == p) row_marks
      (sym (any-map (λ q. q == p) place row_marks) ∙ e) in
      let is_p : place f.item ≡ p = eqb-true (place f.item) p f.passes in
      subst (λ q. q < (archive_at s archive).steps) is_p
      (subst (λ a. place f.item < (archive_at s a).steps) (in_archive f.item f.known)
      (place_below s is f.item.archive f.item.time)))
      ∙ ap length (filter_agree (λ p. list_any (λ q. q == p) (map place row_marks))
      (λ p. list_any (λ m. place m == p) row_marks) (λ p. any-map (λ q. q == p) place row_marks)
      (range_with_len 0 (archive_at s archive).steps))

  -- ---- the last sample

  last_at : CellName → Mark
  last_at n = unwrap_or (last_of (marks n)) no_mark

  is_last : (n : CellName) → is_in cell_name_cmp ns n ≡ true → last_of (marks n) ≡ Some (last_at n)
  unfolding last_at
  is_last n e = some_last s (marks n) no_mark (in_row_names s k key archive slot n e).1

  last_is : {A : Type 0} (f : SlotSample → A) (d : A) (n : CellName) → is_in cell_name_cmp ns n ≡ true
      → unwrap_or (option_map f (samples.last_of (map (slot_sample_of s) (marks n)))) d
      ≡ f (slot_sample_of s (last_at n))
  last_is f d n e = ap (λ l. unwrap_or (option_map f l) d)
      (last-seen s n (marks n) (of_name-named s k key archive slot n)
      ∙ ap (option_map (slot_sample_of s)) (is_last n e))

  last_time_at : (n : CellName) → is_in cell_name_cmp ns n ≡ true → (at n).contribution.last_time ≡ (last_at n).time
  unfolding summary
  last_time_at n e = last_is (λ x. x.time) (pos 0) n e

  last_value_at : (n : CellName) → is_in cell_name_cmp ns n ≡ true → (at n).contribution.last_value ≡ (last_at n).value
  unfolding summary
  last_value_at n e = last_is (λ x. x.value) (pos 0) n e

  last_origin : (n : CellName) → is_in cell_name_cmp ns n ≡ true → (last_at n).origin ≡ n.origin
  last_origin n e = ap (λ (q : CellName). q.origin)
      (of_name-named s k key archive slot n (last_at n) (last_in s (marks n) (last_at n) (is_last n e)))

  -- one origin has one cell in the row
  one_origin : (a b : CellName) → is_at key archive slot a ≡ true → is_at key archive slot b ≡ true
      → a.origin ≡ b.origin → a ≡ b
  one_origin a b p q o =
      let of_a = is_at_says key archive slot a p in
      let of_b = is_at_says key archive slot b q in
      λ i. record {
        key = (of_a.0 ∙ sym of_b.0) i;
        archive = (of_a.1 ∙ sym of_b.1) i;
        slot =
            (of_a.2 ∙ sym of_b.2) i;
        origin = o i;
      }

  decided : (t o rest : Ordering) → (o ≡ Less) ⊎ (o ≡ Greater)
      → ordering_then t o ≡ ordering_then t (ordering_then o rest)
  decided t o rest h = ap (ordering_then t) (⊎_elim (λ e. e ∙ sym (ap (λ r. ordering_then r rest) e))
      (λ e. e ∙ sym (ap (λ r. ordering_then r rest) e)) h)

  tied_entry : (e : Entry) → last_cmp e e ≡ Equal
  tied_entry e = λ i. ordering_then (tied_itself int_cmp_total e.contribution.last_time i)
      (tied_itself nat_cmp_total e.origin i)

  -- two entries of a row compare as their last marks do
  orders_agree : (a b : CellName) → is_in cell_name_cmp ns a ≡ true → is_in cell_name_cmp ns b ≡ true
      → last_cmp (at a) (at b) ≡ mark_cmp (last_at a) (last_at b)
  orders_agree a b p q =
      let by_time = int_cmp (last_at a).time (last_at b).time in
      let times : last_cmp (at a) (at b) ≡ ordering_then by_time (nat_cmp a.origin b.origin) =
      λ i. ordering_then (int_cmp (last_time_at a p i) (last_time_at b q i)) (nat_cmp a.origin b.origin) in
      let origins : ordering_then by_time (nat_cmp (last_at a).origin (last_at b).origin)
      ≡ ordering_then by_time (nat_cmp a.origin b.origin) =
      λ i. ordering_then by_time (nat_cmp (last_origin a p i) (last_origin b q i)) in
      let of_marks : (o : Ordering) → nat_cmp a.origin b.origin ≡ o
      → nat_cmp (last_at a).origin (last_at b).origin ≡ o =
      λ o e. (λ i. nat_cmp (last_origin a p i) (last_origin b q i)) ∙ e in
      elim (nat_cmp a.origin b.origin) as (λ o. nat_cmp a.origin b.origin ≡ o
      → last_cmp (at a) (at b) ≡ mark_cmp (last_at a) (last_at b)) [
        | Less ↦ λ e. times ∙ sym origins ∙ decided by_time (nat_cmp (last_at a).origin (last_at b).origin) _
            (inl (of_marks Less e))
        | Greater ↦ λ e. times ∙ sym origins ∙ decided by_time (nat_cmp (last_at a).origin (last_at b).origin) _
            (inr (of_marks Greater e))
        | Equal ↦ λ e.
            let same : a ≡ b = one_origin a b (in_row_names s k key archive slot a p).0
            (in_row_names s k key archive slot b q).0 (nat_cmp-IsAntisymmetric a.origin b.origin e) in
            subst (λ c. last_cmp (at a) (at c) ≡ mark_cmp (last_at a) (last_at c)) same
            (tied_entry (at a) ∙ sym (tied_itself mark_cmp_total (last_at a)))
      ] refl

  last_values : (g : Option CellName) → ((n : CellName) → g ≡ Some n → is_in cell_name_cmp ns n ≡ true)
      → option_map (λ (e : Entry). e.contribution.last_value) (option_map at g)
      ≡ option_map (λ (m : Mark). m.value) (option_map last_at g)
  last_values None there = refl
  last_values (Some n) there = ap (λ v. Some v) (last_value_at n (there n refl))

  last_same : option_map (λ (e : Entry). e.contribution.last_value) (greatest last_cmp (map at ns))
      ≡ option_map (λ (m : Mark). m.value) (last_of row_marks)
  last_same =
      let by_marks : CellName → CellName → Ordering = λ a b. mark_cmp (last_at a) (last_at b) in
      let agree = greatest_agree cell_name_cmp_total cell_name_cmp-IsAntisymmetric (λ a b. last_cmp (at a) (at b))
      by_marks ns orders_agree in
      ap (option_map (λ (e : Entry). e.contribution.last_value)) (greatest-map last_cmp at ns)
      ∙ ap (λ g. option_map (λ (e : Entry). e.contribution.last_value) (option_map at g)) agree.0
      ∙ last_values (greatest by_marks ns) agree.1
      ∙ ap (option_map (λ (m : Mark). m.value)) (sym (
      last-marks row_marks
      ∙ sym (by_name (greater mark_cmp) None (λ x. refl) (greater_assoc mark_cmp_total)
      (greater_comm mark_cmp_total mark_cmp-IsAntisymmetric) (λ m. Some m))
      ∙ gather_agree cell_name_cmp_total cell_name_cmp-IsAntisymmetric (greater mark_cmp) None
      (λ n. gather (greater mark_cmp) None (λ m. Some m) (marks n)) (λ n. Some (last_at n)) ns
      (λ n e. sym (last-marks (marks n)) ∙ is_last n e)
      ∙ sym (gather-greatest mark_cmp last_at ns)
      ∙ greatest-map mark_cmp last_at ns))

  -- ---- the row

  same_answer : (f : ConsolidationFunction) → of_entries f (map at ns) ≡ of_marks f row_marks
  unfolding summary
  same_answer Average = λ i. average (sums i) (counts i)
  same_answer Min = best (flip_args int_cmp) (back_total int_cmp_total)
      (flip_args-IsAntisymmetric int_cmp-IsAntisymmetric) (λ c. c.min) (λ ms. refl)
  same_answer Max = best int_cmp int_cmp_total int_cmp-IsAntisymmetric (λ c. c.max) (λ ms. refl)
  same_answer Last = last_same

  -- what is consolidated from a state's cells is what the samples say
  pub row_of_state : (f : ConsolidationFunction) → consolidation_of s archive f
      (row_at (cells_of_knowledge s k) key archive slot) ≡ row s k key archive slot f
  unfolding consolidation_of row
  row_of_state f =
      ap (λ es. cond (is_known_enough s archive (count_ones (mask_of_entries es))) (of_entries f es) None)
      (entries_are s k key archive slot)
      ∙ (λ i. cond (is_known_enough s archive (same_places i)) (same_answer f i) None)

-- so the answers are the same
pub answer_of_state : (s : Layout) → IsLayout s → (k : Knowledge) (q : Request)
    → cells_text s (cells_of_knowledge s k) q ≡ fetch_text s k q
answer_of_state s is k q = λ i. answer_text s (λ slot. row_of_state s is k q.key q.archive slot q.function i) q
