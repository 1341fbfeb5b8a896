-- What a line says, without where its parts lie in memory.
use Rattle.rr_point.specs.Point.{PointView, point_view}
use Rattle.rr_line.specs.declared.line.Line.{Line}
use Rattle.rr_line.specs.declared.line.Line.TheVariants as line

-- an empty line or a comment says nothing
pub data LineView : Type 0 where
  nothing : LineView
  point : PointView → LineView

-- a line, by the bytes of its point
abbrev pub line_view : Line → LineView
line_view line.Nothing = nothing
line_view (line.Point p) = point (point_view p)
