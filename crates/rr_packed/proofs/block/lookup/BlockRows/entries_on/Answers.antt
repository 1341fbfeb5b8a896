use Rattle.std.proofs.Common.{rules, ◌≡◌, ℕ, ◌<◌, ◌≤◌, ◌+◌, ◌-◌, ◌^◌, length, take, drop, slice_range, ap, ◌∙◌, arith}
use Rattle.std.specs.List.{sum_by}
use Rattle.std.proofs.lemmas.List.{take_all, length-take}
use Rattle.std.proofs.lemmas.List.Sums.{sum_by_more}
use Rattle.rr_packed.specs.declared.block.Block.{Block}
use Rattle.rr_packed.specs.Sparse.{rank}
use Rattle.rr_packed.specs.BlockRows.{items_in, entries_in_all}
use Rattle.rr_packed.proofs.RankLemmas.{rank_few, rank_le}
use Rattle.rr_packed.proofs.CountLemmas.{in_block, count_read, read_alone, len}
use Rattle.rr_packed.proofs.block.lookup.BlockRows.entries_on.Goals as goal
use Rattle.rr_packed.proofs.block.lookup.BlockRows.entries_on.Goals.{in-Some, in-None}

-- there are no more lists of entries than rows
few_lists : (b : Block) (n m : ℕ) → n + m ≤ 64
    → length (slice_range b.rows.items.items (rank b.rows.mask n) (rank b.rows.mask (n + m))) ≤ 64
few_lists b n m le =
    let from = rank b.rows.mask n in
    let to = rank b.rows.mask (n + m) in
    let is = length-take (to - from) (drop from b.rows.items.items) in
    let few = rank_few b.rows.mask (n + m) in
    omega arith

few_read : (mask n m ones : ℕ) → n + m ≤ 64 → rank mask n + ones ≡ rank mask (n + m) → ones ≤ 64
few_read mask n m ones le on = let few = rank_few mask (n + m) in omega arith

pub overflow_add-count : goal.overflow_add-count
overflow_add-count c =
    let b = c.args.self.now in
    let n = c.args.rows.first.value in
    let m = c.args.rows.count in
    let held = c.items_on-entries-items.result.now in
    let lists = few_lists b n m c.args.rows.within in
    let is : length held
    ≡ length (slice_range b.rows.items.items (rank b.rows.mask n) (rank b.rows.mask (n + m))) =
    ap length c.items_on-entries-items.ensures in
    let before = c.loop-entries.invariant.few in
    let first : c.match-self.count ≤ 64 = elim c.match-self.branch as (λ _. c.match-self.count ≤ 64) [
      | in-Some w ↦
          let few = few_read (read_alone b) n m w.ones_on-count.result c.args.rows.within w.ones_on-count.ensures in
          omega arith
      | in-None w ↦ omega arith
    ] in
    omega arith

pub loop-entries-preserved : goal.loop-entries-preserved
loop-entries-preserved c =
    let held = c.items_on-entries-items.result.now in
    let at = c.loop-entries.entries-index in
    let es = c.entries-item.result in
    let sums = sum_by_more len held at es c.loop-entries-test.true in
    let is = ap len c.entries-item.is in
    let here = ap length c.as_slice.ensures in
    let so_far = c.loop-entries.invariant.counted in
    record { counted = omega arith; few = omega arith }

pub returns : goal.returns
returns c =
    let b = c.args.self.now in
    let n = c.args.rows.first.value in
    let m = c.args.rows.count in
    let held = c.items_on-entries-items.result.now in
    let lists = slice_range b.rows.items.items (rank b.rows.mask n) (rank b.rows.mask (n + m)) in
    let rows : b.rows.mask < 2 ^ 64 = search rules in
    let samples : b.samples.mask < 2 ^ 64 = search rules in
    let is : sum_by len (take c.loop-entries.entries-index held) ≡ sum_by len lists =
    ap (sum_by len) (take_all c.loop-entries.entries-index held c.loop-entries-test.false
    ∙ c.items_on-entries-items.ensures) in
    let so_far = c.loop-entries.invariant.counted in
    let first : entries_in_all (λ i. items_in b (n + i)) m ≡ c.match-self.count + sum_by len lists =
    elim c.match-self.branch
    as (λ _. entries_in_all (λ i. items_in b (n + i)) m ≡ c.match-self.count + sum_by len lists) [
      | in-Some w ↦
          let ones = w.ones_on-count.result in
          let all = in_block b rows samples n m ones c.args.rows.within w.ones_on-count.ensures in
          let read = ap (λ s. count_read s ones) w.in-Some.is in
          let count = w.count-is in
          omega arith
      | in-None w ↦
          let rise = rank_le (read_alone b) n (n + m) (omega arith) in
          let ones = rank (read_alone b) (n + m) - rank (read_alone b) n in
          let all = in_block b rows samples n m ones c.args.rows.within (omega arith) in
          let read = ap (λ s. count_read s ones) w.in-None.is in
          let count = w.count-is in
          omega arith
    ] in
    omega arith
