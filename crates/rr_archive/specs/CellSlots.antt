-- Cell slots, each a slot and an origin of one archive of one key, and which of them are live.
use Rattle.std.specs.Prelude.{ℕ, ℤ, pos, negsuc, ◌-◌, ◌≤ℤ◌, Bool, List, map, Option}
use Rattle.std.specs.declared.cmp.Ordering.{Ordering}
use Rattle.std.specs.Ordering.{ordering_then, nat_cmp, int_cmp}
use Rattle.rr_text.specs.declared.limits.TheConstants.{MAX_SECOND}
use Rattle.rr_schema.specs.Origin.{IsOrigin}
use Rattle.rr_join.specs.Maps.{greatest}
use Rattle.rr_join.specs.Horizon.{is_above}

-- the slot and the origin of a cell
pub record CellSlot : Type 0 where
  pub slot : ℤ
  pub origin : ℕ

abbrev pub cell_slot : ℤ → ℕ → CellSlot
cell_slot slot origin = record { slot = slot; origin = origin }

-- by slot, and in one slot by origin
abbrev pub cell_slot_cmp : CellSlot → CellSlot → Ordering
cell_slot_cmp a b = ordering_then (int_cmp a.slot b.slot) (nat_cmp a.origin b.origin)

-- the greatest slot, if there is one
abbrev pub newest_of : List CellSlot → Option ℤ
newest_of ps = greatest int_cmp (map (λ p. p.slot) ps)

-- whether a cell slot, among these, is not past the horizon of an archive of `rows` rows
abbrev pub is_live_at : ℕ → List CellSlot → CellSlot → Bool
is_live_at rows ps p = is_above rows (newest_of ps) p.slot

-- it can be the slot of a time: with a step of one second or more, from the least time to the greatest
abbrev pub IsSlot : ℤ → Type 0
IsSlot slot = (negsuc (MAX_SECOND - 1) ≤ℤ slot) × (slot ≤ℤ pos MAX_SECOND)

-- it has the slot of a time, and an origin
pub record IsInRange (p : CellSlot) : Type 0 where
  pub slot : IsSlot p.slot
  pub origin : IsOrigin p.origin
