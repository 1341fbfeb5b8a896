-- The samples that no archive kept.
use Rattle.std.specs.Prelude.{ℕ, ◌+◌, ◌-◌, ◌^◌, min, if◌then◌else◌, List, [], ◌∷◌, ◌++◌}
use Rattle.std.specs.FinMap.{empty}
use Rattle.rr_schema.specs.Schema.{Layout}
use Rattle.rr_cells.specs.declared.op.Op.{Op}
use Rattle.rr_cells.specs.declared.op.Op.TheVariants.{Put, Join}
use Rattle.rr_cells.specs.Cells.{Cells}
use Rattle.rr_cells.specs.Operations.{cell_step}
use Rattle.rr_replica.specs.Horizon.{keeps}
use Rattle.rr_desk.specs.KeeperState.{KeeperState}

-- how many samples an operation puts that no archive keeps, with these cells held: one or none
abbrev pub lost_by : Layout → Cells → Op → ℕ
lost_by s m (Put x) = if keeps s m x.key x.time then 0 else 1
lost_by s m (Join c) = 0

-- and how many these put, one after the other
abbrev pub lost_of : Layout → Cells → List Op → ℕ
lost_of s m [] = 0
lost_of s m (op ∷ ops) = lost_by s m op + lost_of s (cell_step s m op) ops

-- how many samples a keeper has put since its desk was opened that no archive kept then, up to the greatest number of
-- 64 bits
abbrev pub past_horizon_of : KeeperState → ℕ
past_horizon_of k = min (lost_of k.schema empty (k.published ++ k.pending)) (2 ^ 64 - 1)
