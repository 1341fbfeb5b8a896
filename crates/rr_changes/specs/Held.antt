-- Finding the cell of a name, from the name right before.
use Rattle.std.specs.Prelude.{ℕ, ℤ, pos, ◌-◌, ◌-ℤ◌, ◌==◌, cond, if◌then◌else◌, Option, None, Some}
use Rattle.std.specs.Ordering.{eq_by_cmp}
use Rattle.rr_text.specs.declared.limits.TheConstants.{MAX_ORIGIN}
use Rattle.rr_contrib.specs.declared.contribution.Contribution.{Contribution}
use Rattle.rr_cells.specs.CellNames.{CellName, cell_name_cmp}
use Rattle.rr_cells.specs.CellBounds.{NamedCell}

-- the slot and the origin right before these: no cell of the same archive of a key is between
abbrev pub before_of : ℤ → ℕ → ℤ × ℕ
before_of slot origin = if origin == 1 then (slot -ℤ pos 1, MAX_ORIGIN) else (slot, origin - 1)

-- what a cell contributes, if it has this name
abbrev pub at_name : CellName → Option NamedCell → Option Contribution
at_name n None = None
at_name n (Some e) = cond (eq_by_cmp cell_name_cmp n e.0) (Some e.1) None
