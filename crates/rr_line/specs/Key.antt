-- The series of what a line says.
use Rattle.std.specs.Prelude.{◌≤◌, length}
use Rattle.rr_text.specs.declared.limits.TheConstants.{MAX_FIELDS}
use Rattle.rr_point.specs.Key.{HasKeys}
use Rattle.rr_line.specs.Line.{LineView, nothing, point}

-- each field of what a line says has a key
abbrev pub LineHasKeys : LineView → Type 0
LineHasKeys nothing = Unit {0}
LineHasKeys (point p) = HasKeys p

-- the fields of what a line says are few
abbrev pub LineHasFewFields : LineView → Type 0
LineHasFewFields nothing = Unit {0}
LineHasFewFields (point p) = length p.fields ≤ MAX_FIELDS
