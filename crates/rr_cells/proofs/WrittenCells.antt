-- The versions of cells are numbers that were written, and what cells come to.
use Rattle.std.proofs.Common.{◌≡◌, ℕ, ◌+◌, ◌*◌, ◌^◌, ◌<◌, ◌≤◌, ℤ, pos, ◌+ℤ◌, ◌*ℤ◌, ◌≤ℤ◌, Bool, true, false, cond, ◌&&◌, List, [], ◌∷◌, map, length, refl, sym, ap, ◌∙◌, subst, arith, le_trans, Some}
use Rattle.std.specs.Prelude.{nat_le, ◌==◌, unsigned_abs, FitsSigned}
use Rattle.std.specs.Int.{w64}
use Rattle.std.specs.List.{AllByRecursion}
use Rattle.std.specs.Ordering.{eq_by_cmp}
use Rattle.std.specs.FinMap.{get, entries}
use Rattle.std.proofs.lemmas.Bool.{eqb-true, leb-true}
use Rattle.std.proofs.lemmas.Int.{ints, unsigned_abs-mul}
use Rattle.std.proofs.lemmas.Nat.{mul-le}
use Rattle.std.proofs.lemmas.List.Elements.{recursion_from_All}
use Rattle.rr_text.specs.declared.limits.TheConstants.{MAX_NUMBER}
use Rattle.rr_schema.specs.Schema.{Layout}
use Rattle.rr_join.specs.Sums.{int_sum}
use Rattle.rr_join.proofs.Booleans.{and_first, and_second}
use Rattle.rr_contrib.specs.declared.contribution.Contribution.{Contribution}
use Rattle.rr_cells.specs.CellNames.{CellName, cell_name_cmp}
use Rattle.rr_cells.specs.Samples.{Sample, name_of}
use Rattle.rr_cells.specs.Knowledge.{Knowledge, knows, is_live_in, cell}
use Rattle.rr_cells.specs.World.{World, IsWritten, IsClosed}
use Rattle.rr_cells.proofs.Knowing.{is_in-keys_of, knows-cell, name_from_tie}
use Rattle.rr_cells.specs.CellBounds.{NamedCell, IsCellOf}
use Rattle.rr_cells.specs.Joining.{next_after, next_past}
use Rattle.rr_cells.specs.Laws.{VersionsAreNumbers, NextStays, SumsAreSmall, JoinsMakeTheirCells, JoinsAreTaken}
use Rattle.rr_cells.specs.State.{cells_of_knowledge}
use Rattle.rr_cells.proofs.CellBoundsLemmas.{abs_at_most}
use Rattle.rr_cells.proofs.OperationsLemmas.{outcome_of-joins, joins_accepted}
use Rattle.rr_cells.proofs.States.{get-state}
use Rattle.rr_cells.proofs.Uniting.{value_top}

-- ---- versions

pub versions_are_numbers : VersionsAreNumbers
versions_are_numbers s w k n c closed at =
    let top = value_top s (cell s k n) c (sym (get-state s k n) ∙ at) in
    let alive = knows k top.mark && is_live_in s k (name_of s top.mark) in
    let named = eq_by_cmp cell_name_cmp (name_of s top.mark) n in
    let here = sym (knows-cell s k n top.mark) ∙ sym (is_in-keys_of (cell s k n) top.mark) ∙ top.known in
    let known = and_first (knows k top.mark) (is_live_in s k (name_of s top.mark)) (and_first alive named here) in
    let name = name_from_tie s top.mark n (and_second alive named here) in
    (top.mark.sample, (closed.written top.mark known).0, ap (λ (q : CellName). q.origin) name, top.number)

-- a cell of an earlier number leaves the next one
pub next_after_earlier : (origin next : ℕ) (e : NamedCell) → (e.0.origin ≡ origin → e.1.version < next)
    → next_after origin next e ≡ next
next_after_earlier origin next e earlier = by (e.0.origin == origin) (nat_le next e.1.version) refl refl
  where
    by : (a b : Bool) → (e.0.origin == origin) ≡ a → nat_le next e.1.version ≡ b
        → cond (a && b) (e.1.version + 1) next ≡ next
    by true true t u = let below = earlier (eqb-true e.0.origin origin t) in let past = leb-true next e.1.version u in
        omega (arith, below, past)
    by true false t u = refl
    by false b t u = refl

-- a version of this origin is below a next number that is past all that the origin wrote
pub versions_are_below : (s : Layout) (w : World) (k : Knowledge) (origin next : ℕ) → IsClosed s w k
    → ((x : Sample) → IsWritten w x → x.origin ≡ origin → x.number < next)
    → (n : CellName) (c : Contribution) → get (cells_of_knowledge s k) n ≡ Some c → n.origin ≡ origin → c.version < next
versions_are_below s w k origin next closed past n c at own =
    let x = versions_are_numbers s w k n c closed at in
    subst (λ (v : ℕ). v < next) x.3 (past x.0 x.1 (x.2 ∙ own))

pub next_stays : NextStays
next_stays s w k origin next es closed past all =
    by es (recursion_from_All (λ e. get (cells_of_knowledge s k) e.0 ≡ Some e.1) es all)
  where
    by : (es : List NamedCell) → AllByRecursion (λ e. get (cells_of_knowledge s k) e.0 ≡ Some e.1) es
        → next_past origin next es ≡ next
    by [] all = refl
    by (e ∷ es) all = ap (λ (j : ℕ). next_past origin j es)
        (next_after_earlier origin next e (versions_are_below s w k origin next closed past e.0 e.1 all.0))
        ∙ by es all.1

-- ---- sums

product_abs : (count : ℕ) (z : ℤ) → count ≤ MAX_NUMBER → FitsSigned w64 z → unsigned_abs (pos count *ℤ z) ≤ 2 ^ 103
product_abs count z few fits =
    subst (λ (n : ℕ). n ≤ 2 ^ 103) (sym (unsigned_abs-mul (pos count) z))
    (le_trans (mul-le count (unsigned_abs z) MAX_NUMBER (2 ^ 63) few (abs_at_most z fits)) (omega arith))

abs_between : (low sum high : ℤ) → unsigned_abs low ≤ 2 ^ 103 → unsigned_abs high ≤ 2 ^ 103 → low ≤ℤ sum → sum ≤ℤ high
    → unsigned_abs sum ≤ 2 ^ 103
abs_between low sum high p q at_least at_most = omega (arith, ints)

cell_sum : (s : Layout) (e : NamedCell) → IsCellOf s e → unsigned_abs e.1.sum ≤ 2 ^ 103
cell_sum s e cell =
    let few : e.1.count ≤ MAX_NUMBER = le_trans cell.valid.counted cell.valid.numbered in
    abs_between (pos e.1.count *ℤ e.1.min) e.1.sum (pos e.1.count *ℤ e.1.max)
    (product_abs e.1.count e.1.min few cell.min_fits) (product_abs e.1.count e.1.max few cell.max_fits)
    cell.valid.low cell.valid.high

abs_sum : (x y : ℤ) (m n : ℕ) → unsigned_abs x ≤ m → unsigned_abs y ≤ n → unsigned_abs (x +ℤ y) ≤ m + n
abs_sum x y m n p q = omega (arith, ints)

sums_below : (s : Layout) (es : List NamedCell) → AllByRecursion (IsCellOf s) es
    → unsigned_abs (int_sum (map (λ e. e.1.sum) es)) ≤ length es * 2 ^ 103
sums_below s [] all = omega arith
sums_below s (e ∷ es) all = le_trans (abs_sum e.1.sum (int_sum (map (λ f. f.1.sum) es)) (2 ^ 103) (length es * 2 ^ 103)
    (cell_sum s e all.0) (sums_below s es all.1)) (omega arith)

pub sums_are_small : SumsAreSmall
sums_are_small s es all few = let below = sums_below s es (recursion_from_All (IsCellOf s) es all) in
    omega (arith, below, few)

-- ---- operations

pub joins_make_their_cells : JoinsMakeTheirCells
joins_make_their_cells = outcome_of-joins

pub joins_are_taken : JoinsAreTaken
joins_are_taken h m all = joins_accepted h (entries m) (recursion_from_All (IsCellOf h.schema) (entries m) all)
