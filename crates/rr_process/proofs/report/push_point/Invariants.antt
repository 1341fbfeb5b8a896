use Rattle.std.proofs.Common.{◌≡◌, ℕ, ℤ, List, ◌++◌, map, take}
use Rattle.std.specs.List.{flat_map}
use Rattle.rr_point.specs.Key.{key_text}
use Rattle.rr_point.specs.Point.{field_view, point_view}
use Rattle.rr_process.specs.Report.{sample_text}
use Rattle.rr_process.specs.Writing.{written, IsBetween}
use Rattle.rr_process.proofs.report.push_point.Given as goal

-- the samples of the fields so far are added
abbrev pub invariant-loop-field : goal.invariant-loop-field
invariant-loop-field l = record {
  between : IsBetween l.report;
  pushed : written l.report ≡ written l.initial.report ++ flat_map
      (λ (field : List ℕ × ℤ). sample_text (key_text (point_view l.point) field.0) field.1 l.time)
      (map field_view (take l.field-index l.field-items));
}
