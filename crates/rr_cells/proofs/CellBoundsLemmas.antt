-- The bounds of a cell hold of what a sample makes of it.
use Rattle.std.proofs.Common.{ℕ, ◌^◌, ◌<◌, ◌≤◌, ℤ, pos, negsuc, ◌*ℤ◌, ◌≤ℤ◌, Bool, true, false, cond, length, arith, Option, Some, None}
use Rattle.std.specs.Prelude.{FitsSigned, unsigned_abs, int_lt}
use Rattle.std.specs.Int.{w64, w128}
use Rattle.std.proofs.lemmas.Int.{ints, fits_signed_mul}
use Rattle.rr_text.specs.declared.limits.TheConstants.{MAX_NUMBER}
use Rattle.rr_schema.specs.Origin.{IsOrigin}
use Rattle.rr_schema.specs.Schema.{Layout}
use Rattle.rr_contrib.specs.declared.contribution.Contribution.{Contribution}
use Rattle.rr_contrib.specs.Contributions.{SlotSample, contribution_with}
use Rattle.rr_contrib.specs.Validity.{IsValid}
use Rattle.rr_archive.specs.CellSlots.{IsSlot}
use Rattle.rr_key.specs.Series.{IsKeyText}
use Rattle.rr_cells.specs.CellNames.{CellName}
use Rattle.rr_cells.specs.CellBounds.{IsCellOf}

-- ---- the sum

pub abs_at_most : (z : ℤ) → FitsSigned w64 z → unsigned_abs z ≤ 2 ^ 63
abs_at_most (pos n) fits = omega (arith, ints)
abs_at_most (negsuc n) fits = omega (arith, ints)

product_fits : (count : ℕ) (z : ℤ) → count ≤ MAX_NUMBER → FitsSigned w64 z → FitsSigned w128 (pos count *ℤ z)
product_fits count z few fits = fits_signed_mul w128 (pos count) z MAX_NUMBER (2 ^ 63) few (abs_at_most z fits)
    (omega arith)

fits_between : (low sum high : ℤ) → FitsSigned w128 low → FitsSigned w128 high → low ≤ℤ sum → sum ≤ℤ high
    → FitsSigned w128 sum
fits_between low sum high p q at_least at_most = omega (arith, ints)

pub sum_fits : (count : ℕ) (low high sum : ℤ) → count ≤ MAX_NUMBER → FitsSigned w64 low → FitsSigned w64 high
    → (pos count *ℤ low) ≤ℤ sum → sum ≤ℤ (pos count *ℤ high) → FitsSigned w128 sum
sum_fits count low high sum few p q at_least at_most =
    fits_between (pos count *ℤ low) sum (pos count *ℤ high) (product_fits count low few p)
    (product_fits count high few q) at_least at_most

-- ---- a sample more

slot_fits : (slot : ℤ) → IsSlot slot → FitsSigned w64 slot
slot_fits (pos n) is = omega (arith, ints)
slot_fits (negsuc n) is = omega (arith, ints)

one_fits : (b : Bool) (x y : ℤ) → FitsSigned w64 x → FitsSigned w64 y → FitsSigned w64 (cond b x y)
one_fits true x y p q = p
one_fits false x y p q = q

-- the fields of a contribution fit 64 bits, but for the sum
pub record HasBounds (c : Contribution) : Type 0 where
  pub min_fits : FitsSigned w64 c.min
  pub max_fits : FitsSigned w64 c.max
  pub last_time_fits : FitsSigned w64 c.last_time
  pub last_value_fits : FitsSigned w64 c.last_value

abbrev pub KnownHasBounds : Option Contribution → Type 0
KnownHasBounds None = Unit {0}
KnownHasBounds (Some c) = HasBounds c

pub bounds_with : (known : Option Contribution) (x : SlotSample) → KnownHasBounds known → FitsSigned w64 x.time
    → FitsSigned w64 x.value → HasBounds (contribution_with known x)
bounds_with None x known time value = record {
  min_fits = value;
  max_fits = value;
  last_time_fits =
      time;
  last_value_fits = value;
}
bounds_with (Some c) x known time value = record {
  min_fits = one_fits (int_lt x.value c.min) x.value c.min value known.min_fits;
  max_fits = one_fits (int_lt x.value c.max) c.max x.value known.max_fits value;
  last_time_fits = one_fits (int_lt x.time c.last_time) c.last_time x.time known.last_time_fits time;
  last_value_fits = one_fits (int_lt x.time c.last_time) c.last_value x.value known.last_value_fits value;
}

pub bounds_of : (s : Layout) (n : CellName) (c : Contribution) → IsCellOf s (n, c) → HasBounds c
bounds_of s n c cell = record {
  min_fits = cell.min_fits;
  max_fits = cell.max_fits;
  last_time_fits =
      cell.last_time_fits;
  last_value_fits = cell.last_value_fits;
}

-- a valid contribution whose fields fit makes a cell
pub cell_from : (s : Layout) (n : CellName) (c : Contribution) → IsKeyText n.key → n.archive < length s.archives
    → IsOrigin n.origin → IsSlot n.slot → IsValid s n.archive n.slot c → HasBounds c → IsCellOf s (n, c)
cell_from s n c key archive origin slot valid bounds = record {
  key = key;
  archive = archive;
  origin = origin;
  valid = valid;
  slot_fits = slot_fits n.slot slot;
  sum_fits = sum_fits c.count c.min c.max c.sum (let counted = valid.counted in let numbered = valid.numbered in
      omega arith) bounds.min_fits bounds.max_fits valid.low valid.high;
  min_fits = bounds.min_fits;
  max_fits = bounds.max_fits;
  last_time_fits = bounds.last_time_fits;
  last_value_fits = bounds.last_value_fits;
}
