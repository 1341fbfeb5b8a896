-- The bounds of samples, and of the cells of a schema.
use Rattle.std.specs.Prelude.{◌<◌, ◌≤◌, nat_lt, Bool, ◌&&◌, length, IsTrue, FitsSigned}
use Rattle.std.specs.Int.{w64, w128}
use Rattle.rr_text.specs.declared.limits.TheConstants.{MAX_NUMBER}
use Rattle.rr_text.specs.Text.{fits_i64}
use Rattle.rr_schema.specs.Origin.{IsOrigin}
use Rattle.rr_schema.specs.Schema.{Layout}
use Rattle.rr_contrib.specs.declared.contribution.Contribution.{Contribution}
use Rattle.rr_contrib.specs.Validity.{IsValid, is_valid}
use Rattle.rr_key.specs.Series.{IsKeyText}
use Rattle.rr_cells.specs.CellNames.{CellName}
use Rattle.rr_cells.specs.Samples.{Sample}

-- a sample within the limits, of a key text, with a time and a value that fit 64 bits
pub record IsSoundSample (x : Sample) : Type 0 where
  pub origin : IsOrigin x.origin
  pub some_number : 1 ≤ x.number
  pub few_numbers : x.number ≤ MAX_NUMBER
  pub key : IsKeyText x.key
  pub time : IsTrue (fits_i64 x.time)
  pub value : IsTrue (fits_i64 x.value)

-- a name, and what its cell contributes
abbrev pub NamedCell : Type 0
NamedCell = CellName × Contribution

-- a cell of a schema: it has a key text, one of the schema's archives and an origin, and is valid in its slot; its
-- signed numbers fit 64 bits, the sum 128
pub record IsCellOf (s : Layout) (e : NamedCell) : Type 0 where
  pub key : IsKeyText e.0.key
  pub archive : e.0.archive < length s.archives
  pub origin : IsOrigin e.0.origin
  pub valid : IsValid s e.0.archive e.0.slot e.1
  pub slot_fits : FitsSigned w64 e.0.slot
  pub sum_fits : FitsSigned w128 e.1.sum
  pub min_fits : FitsSigned w64 e.1.min
  pub max_fits : FitsSigned w64 e.1.max
  pub last_time_fits : FitsSigned w64 e.1.last_time
  pub last_value_fits : FitsSigned w64 e.1.last_value

-- whether a cell is of one of the schema's archives and valid in its slot; a cell of the program is within all other
-- bounds by its type
abbrev pub is_cell_of : Layout → NamedCell → Bool
is_cell_of s e = nat_lt e.0.archive (length s.archives) && is_valid s e.0.archive e.0.slot e.1
