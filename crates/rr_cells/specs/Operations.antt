-- Operations, and how they change a replica, and cells alone.
use Rattle.std.specs.Prelude.{◌≡◌, ℕ, nat_le, Bool, true, ◌==◌, ◌&&◌, if◌then◌else◌, List, [], ◌∷◌, map, fold}
use Rattle.std.specs.FinMap.{empty, entries}
use Rattle.rr_text.specs.declared.limits.TheConstants.{MAX_NUMBER}
use Rattle.rr_schema.specs.Schema.{Layout}
use Rattle.rr_cells.specs.Samples as model
use Rattle.rr_cells.specs.declared.sample.Sample.{Sample}
use Rattle.rr_cells.specs.declared.cell.Cell.{Cell}
use Rattle.rr_cells.specs.declared.op.Op.{Op}
use Rattle.rr_cells.specs.declared.op.Op.TheVariants.{Put, Join}
use Rattle.rr_cells.specs.CellBounds.{NamedCell, is_cell_of}
use Rattle.rr_cells.specs.Cells.{Cells}
use Rattle.rr_cells.specs.Puts.{put_sample}
use Rattle.rr_cells.specs.Joins.{join_cell}
use Rattle.rr_cells.specs.Listing.{owned_cell}
use Rattle.rr_cells.specs.ReplicaState.{ReplicaState, with_sample}
use Rattle.rr_cells.specs.Joining.{with_cell}

-- the sample of an operation, as the model has it
abbrev pub sample_of : Sample → model.Sample
sample_of x = record { time = x.time; origin = x.origin; number = x.number; key = x.key; value = x.value }

abbrev pub op_key : Op → List ℕ
op_key (Put x) = x.key
op_key (Join c) = c.key

-- ---- a replica

-- whether a replica takes an operation: a sample of its own origin under the next number or a later one, up to 2^40,
-- or a valid cell of its schema
abbrev pub accepts : ReplicaState → Op → Bool
accepts h (Put x) = x.origin == h.origin && (nat_le h.next x.number && nat_le x.number MAX_NUMBER)
accepts h (Join c) = is_cell_of h.schema (owned_cell c)

-- with an operation applied
abbrev pub with_op : ReplicaState → Op → ReplicaState
with_op h (Put x) = with_sample h (sample_of x)
with_op h (Join c) = with_cell h c

-- after an operation: one that isn't taken changes nothing
abbrev pub step : ReplicaState → Op → ReplicaState
step h op = if accepts h op then with_op h op else h

-- each operation is taken when its turn comes
abbrev pub AllAccepted : ReplicaState → List Op → Type 0
AllAccepted h [] = Unit {0}
AllAccepted h (op ∷ ops) = (accepts h op ≡ true) × AllAccepted (step h op) ops

-- ---- cells alone

-- after an operation that is taken
abbrev pub cell_step : Layout → Cells → Op → Cells
cell_step s m (Put x) = put_sample s m (sample_of x)
cell_step s m (Join c) = join_cell s m (owned_cell c).0 c.contribution

-- the cells after a list of operations, from none
abbrev pub outcome_of : Layout → List Op → Cells
outcome_of s ops = fold (cell_step s) empty ops

-- the cell with this name and contribution
abbrev pub to_cell : NamedCell → Cell
to_cell e = record { key = e.0.key; archive = e.0.archive; slot = e.0.slot; origin = e.0.origin; contribution = e.1 }

-- a join for each cell, in order
abbrev pub joins_of : Cells → List Op
joins_of m = map (λ e. Join (to_cell e)) (entries m)
