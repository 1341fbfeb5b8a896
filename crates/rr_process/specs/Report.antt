-- The report of the lines of a stream, and which of them are refused.
use Rattle.std.specs.Prelude.{ℕ, ◌+◌, ℤ, Bool, true, List, [], ◌∷◌, ◌++◌, codes, count_by, Result, Ok, Err, unwrap_or, is_err}
use Rattle.std.specs.Fmt.{signed_decimal}
use Rattle.std.specs.List.{flat_map}
use Rattle.rr_feed.specs.Items.{Item, Line, TooLong, items}
use Rattle.rr_line.specs.declared.fault.LineFault.{LineFault}
use Rattle.rr_line.specs.declared.precision.Precision.{Precision}
use Rattle.rr_line.specs.Fault.{line_fault_name}
use Rattle.rr_point.specs.Key.{key_text}
use Rattle.rr_point.specs.Point.{PointView}
use Rattle.rr_line.specs.Line.{LineView, nothing, point}
use Rattle.rr_line.specs.Reading.{reading}
use Rattle.rr_fetch.specs.Records.{record_text}
use Rattle.rr_text.specs.Refusal.{refusal_text}

-- the record of a sample: its key text, its value, and its time in nanoseconds
abbrev pub sample_text : List ℕ → ℤ → ℤ → List ℕ
sample_text key value time = record_text (key ∷ signed_decimal value ∷ signed_decimal time ∷ [])

-- a record for each field of a point; a point without a time has the time `now`
abbrev pub point_text : ℤ → PointView → List ℕ
point_text now p =
    flat_map (λ field. sample_text (key_text p field.0) field.1 (unwrap_or p.time now)) p.fields

-- the report of the line of this number, by what it says
abbrev pub line_text : ℤ → ℕ → Result LineView LineFault → List ℕ
line_text now number (Ok nothing) = []
line_text now number (Ok (point p)) = point_text now p
line_text now number (Err fault) = refusal_text number (line_fault_name fault)

-- the report of the item of this number
abbrev pub item_text : Precision → ℤ → ℕ → Item → List ℕ
item_text precision now number (Line bytes) = line_text now number (reading precision bytes)
item_text precision now number TooLong = refusal_text number (codes "LineTooLong")

-- the report of items, the first of which has this number
abbrev pub report_from : Precision → ℤ → ℕ → List Item → List ℕ
report_from precision now number [] = []
report_from precision now number (item ∷ later) =
    item_text precision now number item ++ report_from precision now (number + 1) later

-- the report of the lines of a stream, which are numbered from 1
abbrev pub report_of : Precision → ℤ → List ℕ → List ℕ
report_of precision now bytes = report_from precision now 1 (items true bytes)

-- whether an item is refused
abbrev pub is_refused : Precision → Item → Bool
is_refused precision (Line bytes) = is_err (reading precision bytes)
is_refused precision TooLong = true

-- how many lines of a stream are refused
abbrev pub refused_count : Precision → List ℕ → ℕ
refused_count precision bytes = count_by (is_refused precision) (items true bytes)
