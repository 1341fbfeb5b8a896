-- What a keeper's operations are about, if its replica is one of many.
use Rattle.std.specs.Prelude.{◌≡◌, ◌≢◌, ℕ, ◌<◌, List, [], ◌∷◌, ◌++◌, fold, Some}
use Rattle.std.specs.FinMap.{get}
use Rattle.std.specs.Ordering.{eq_by_cmp}
use Rattle.rr_schema.specs.Schema.{Layout, IsLayout}
use Rattle.rr_cells.specs.CellNames.{cell_name_cmp}
use Rattle.rr_cells.specs.Samples as model
use Rattle.rr_cells.specs.Samples.{marks_of}
use Rattle.rr_cells.specs.Knowledge.{Knowledge, union, with_marks, cells_where}
use Rattle.rr_cells.specs.World.{World, IsWritten, IsNext, IsClosed, HoldsAllOf, with_sample}
use Rattle.rr_cells.specs.declared.cell.Cell.{Cell}
use Rattle.rr_cells.specs.declared.op.Op.{Op}
use Rattle.rr_cells.specs.declared.op.Op.TheVariants.{Join, Put}
use Rattle.rr_cells.specs.declared.sample.Sample.{Sample}
use Rattle.rr_cells.specs.Cells.{IsTrimmed}
use Rattle.rr_cells.specs.ReplicaState.{ReplicaState}
use Rattle.rr_cells.specs.Listing.{owned_cell}
use Rattle.rr_cells.specs.Operations.{joins_of, sample_of, step, AllAccepted}
use Rattle.rr_cells.specs.State.{cells_of_knowledge}
use Rattle.rr_desk.specs.KeeperState.{KeeperState, own_replica}

-- what happens next: another origin writes a sample, the keeper puts one, or it joins a cell of what someone knows
pub data HistoryStep : Type 0 where
  elsewhere : (x : model.Sample) → HistoryStep
  put : (x : Sample) → HistoryStep
  joined : (known : Knowledge) (c : Cell) → HistoryStep

-- the keeper's operations among these
abbrev pub ops_of : List HistoryStep → List Op
ops_of [] = []
ops_of (elsewhere x ∷ ts) = ops_of ts
ops_of (put x ∷ ts) = Put x ∷ ops_of ts
ops_of (joined known c ∷ ts) = Join c ∷ ops_of ts

-- all that was ever written, and what the keeper's replica knows of it
pub record HistoryState : Type 0 where
  pub world : World
  pub known : Knowledge

-- the marks of a cell: all that others know of it
abbrev pub marks_in : Layout → Knowledge → Cell → Knowledge
marks_in s known c = cells_where s known (eq_by_cmp cell_name_cmp (owned_cell c).0)

abbrev pub next_scene : Layout → HistoryState → HistoryStep → HistoryState
next_scene s z (elsewhere x) = record { world = with_sample z.world x; known = z.known }
next_scene s z (put x) = record {
  world = with_sample z.world (sample_of x);
  known =
      with_marks z.known (marks_of s (sample_of x));
}
next_scene s z (joined known c) = record { world = z.world; known = union z.known (marks_in s known c) }

-- the cell is a whole live cell of a knowledge without gaps
pub record IsWhole (s : Layout) (w : World) (known : Knowledge) (c : Cell) : Type 0 where
  pub closed : IsClosed s w known
  pub here : get (cells_of_knowledge s known) (owned_cell c).0 ≡ Some c.contribution

-- another's sample is of another origin and the next one there, and a joined cell is whole
abbrev pub IsHonest : Layout → ℕ → HistoryState → HistoryStep → Type 0
IsHonest s origin z (elsewhere x) = (origin ≢ x.origin) × IsNext z.world x
IsHonest s origin z (put x) = Unit {0}
IsHonest s origin z (joined known c) = IsWhole s z.world known c

abbrev pub AreHonest : Layout → ℕ → HistoryState → List HistoryStep → Type 0
AreHonest s origin z [] = Unit {0}
AreHonest s origin z (t ∷ ts) = IsHonest s origin z t × AreHonest s origin (next_scene s z t) ts

-- a replica's cells are those that its knowledge makes, which has no gaps and all marks of the replica's own origin;
-- the next number is past all that this origin wrote
pub record Knows (h : ReplicaState) (z : HistoryState) : Type 0 where
  pub layout : IsLayout h.schema
  pub closed : IsClosed h.schema z.world z.known
  pub own : HoldsAllOf h.schema z.world z.known h.origin
  pub past : (x : model.Sample) → IsWritten z.world x → x.origin ≡ h.origin → x.number < h.next
  pub cells : h.cells ≡ cells_of_knowledge h.schema z.known

-- a desk is opened with what a replica holds, and then this happens
pub record IsHistory (h : ReplicaState) (z : HistoryState) (steps : List HistoryStep) : Type 0 where
  pub live : IsTrimmed h.schema h.cells
  pub knows : Knows h z
  pub honest : AreHonest h.schema h.origin z steps
  pub accepted : AllAccepted h (ops_of steps)

-- the operations that the desk then has: one join for each cell, and the keeper's
abbrev pub list_of : ReplicaState → List HistoryStep → List Op
list_of h steps = joins_of h.cells ++ ops_of steps

-- what was written and is known then
abbrev pub scene_after : ReplicaState → HistoryState → List HistoryStep → HistoryState
scene_after h z steps = fold (next_scene h.schema) z steps

-- a keeper to which this has happened since its desk was opened
pub record HasHistory (h : ReplicaState) (z : HistoryState) (steps : List HistoryStep) (k : KeeperState) : Type 0 where
  pub history : IsHistory h z steps
  pub list : k.published ++ k.pending ≡ list_of h steps
  pub holds : own_replica k ≡ fold step h (ops_of steps)
