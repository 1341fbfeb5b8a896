-- What a line says, as samples of series.
use Rattle.std.specs.Prelude.{◌≡◌, ℕ, ℤ, List, map, Option, Ok}
use Rattle.rr_point.specs.Key.{key_text}
use Rattle.rr_point.specs.Point.{PointView}
use Rattle.rr_line.specs.declared.precision.Precision.{Precision}
use Rattle.rr_line.specs.Line.{point}
use Rattle.rr_line.specs.Reading.{reading}

-- the key text of a series, and a value
abbrev pub Sample : Type 0
Sample = List ℕ × ℤ

-- the samples of a point: one for each field
abbrev pub samples_of : PointView → List Sample
samples_of p = map (λ field. (key_text p field.0, field.1)) p.fields

-- a line says a point of these samples and this time
pub record SaysSamples (precision : Precision) (line : List ℕ) (samples : List Sample) (time : Option ℤ) : Type 0 where
  pub p : PointView
  pub read : reading precision line ≡ Ok (point p)
  pub are : samples_of p ≡ samples
  pub when : p.time ≡ time
