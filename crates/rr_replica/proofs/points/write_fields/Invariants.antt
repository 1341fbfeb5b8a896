use Rattle.std.proofs.Common.{◌≡◌, map, take}
use Rattle.rr_point.specs.Point.{field_view, point_view}
use Rattle.rr_replica.specs.Writing.{all_put}
use Rattle.rr_replica.proofs.points.write_fields.Given as goal

-- the fields so far are put
abbrev pub invariant-loop-field : goal.invariant-loop-field
invariant-loop-field g l = record {
  counted : l.put ≡ l.field-index;
  put : g.S.Sink.state l.sink ≡ all_put g.S.Sink.with_put (g.S.Sink.state l.initial.sink) (point_view l.point) l.time
      (map field_view (take l.field-index l.field-items));
}
