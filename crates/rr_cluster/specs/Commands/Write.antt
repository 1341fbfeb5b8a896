-- write NODE LINE
use Rattle.std.specs.Prelude.{ℕ, ◌+◌, ◌-◌, ℤ, not, nat_lt, List, [], ◌∷◌, length, Option, Result, Ok, Err, ok_or, unwrap_or}
use Rattle.std.specs.FinMap.{get, insert}
use Rattle.rr_text.specs.declared.limits.TheConstants.{MAX_NUMBER}
use Rattle.rr_line.specs.declared.precision.Precision.TheVariants.{Ns}
use Rattle.rr_line.specs.declared.fault.LineFault.{LineFault}
use Rattle.rr_point.specs.Point.{PointView}
use Rattle.rr_line.specs.Line.{LineView, nothing, point}
use Rattle.rr_point.specs.Key.{key_text}
use Rattle.rr_line.specs.Reading.{reading}
use Rattle.rr_cells.specs.Samples.{Sample}
use Rattle.rr_cells.specs.World.{World, with_sample}
use Rattle.rr_replica.specs.declared.fault.WriteFault.TheVariants.{AheadOfClock, NumbersSpent}
use Rattle.rr_replica.specs.Writing.{is_ahead}
use Rattle.rr_cluster.specs.declared.fault.CommandFault.{CommandFault}
use Rattle.rr_cluster.specs.declared.fault.CommandFault.TheVariants.{NoNode, Line, Write}
use Rattle.rr_text.specs.Results.{◌>>=◌, check}
use Rattle.rr_cluster.specs.Model.{Model}
use Rattle.rr_cluster.specs.State.{Node, State}

-- a line, or its fault
abbrev pub line_of : Result LineView LineFault → Result LineView CommandFault
line_of (Ok view) = Ok view
line_of (Err fault) = Err (Line fault)

-- the sample of a field, under this number
abbrev pub sample_of : ℕ → ℕ → ℤ → PointView → List ℕ × ℤ → Sample
sample_of origin number time p field =
    record { time = time; origin = origin; number = number; key = key_text p field.0; value = field.1 }

-- the samples of a point's fields, in their order, under the numbers from this one on
abbrev pub samples_of : ℕ → ℕ → ℤ → PointView → List (List ℕ × ℤ) → List Sample
samples_of origin number time p [] = []
samples_of origin number time p (field ∷ fields) =
    sample_of origin number time p field ∷ samples_of origin (number + 1) time p fields

-- the world once these samples are written
abbrev pub with_samples : World → List Sample → World
with_samples w [] = w
with_samples w (x ∷ xs) = with_samples (with_sample w x) xs

module _ {K : Type 0} where
  -- the samples of a point at a node; a point without a time has the clock's
  abbrev pub samples_at : Node K → ℤ → PointView → List Sample
  samples_at n clock p = samples_of n.origin n.next (unwrap_or p.time clock) p p.fields

  -- the samples that a node writes for a point, unless it is later than the lead allows, or too few numbers are left
  -- for its fields
  abbrev pub samples_of_point : Node K → ℤ → Option ℕ → PointView → Result (List Sample) CommandFault
  samples_of_point n clock lead p = do
    timely ← check (not (is_ahead p.time clock lead)) (Write AheadOfClock)
    enough ← check (not (nat_lt (MAX_NUMBER + 1 - n.next) (length p.fields))) (Write NumbersSpent)
    Ok (samples_at n clock p)

  -- the samples that a node writes for what a line says: none if it says nothing
  abbrev pub samples_of_view : Node K → ℤ → Option ℕ → LineView → Result (List Sample) CommandFault
  samples_of_view n clock lead nothing = Ok []
  samples_of_view n clock lead (point p) = samples_of_point n clock lead p

  -- the samples that a node writes for a line
  abbrev pub samples_of_line : Node K → ℤ → Option ℕ → List ℕ → Result (List Sample) CommandFault
  samples_of_line n clock lead line = do
    view ← line_of (reading Ns line)
    samples_of_view n clock lead view

module _ {K : Type 0} (model : Model K) where
  -- a node that wrote one more sample
  abbrev pub with_written : Node K → Sample → Node K
  with_written n x = record n { next = x.number + 1; contents = model.with_one n.schema n.contents x }

  -- a node that wrote these samples
  abbrev pub with_all_written : Node K → List Sample → Node K
  with_all_written n [] = n
  with_all_written n (x ∷ xs) = with_all_written (with_written n x) xs

  unfoldable pub after_write : State K → List ℕ → List ℕ → Result (State K) CommandFault
  after_write m name line = do
    n ← ok_or (get m.nodes name) NoNode
    xs ← samples_of_line n m.clock m.lead line
    Ok (record m { nodes = insert m.nodes name (with_all_written n xs); world = with_samples m.world xs })
