-- What a point says, without where its parts lie in memory.
use Rattle.std.specs.Prelude.{ℕ, ℤ, List, map, Option}
use Rattle.rr_point.specs.declared.point.Field.{Field}
use Rattle.rr_point.specs.declared.point.Point.{Point}
pub use Rattle.rr_point.specs.Prefix.{tag_view, tags_view}

-- the samples of one moment: the time is in nanoseconds
pub record PointView : Type 0 where
  pub measurement : List ℕ
  pub tags : List (List ℕ × List ℕ)
  pub fields : List (List ℕ × ℤ)
  pub time : Option ℤ

-- a field, its key by its bytes
abbrev pub field_view : Field → List ℕ × ℤ
field_view field = (field.key.now, field.value)

abbrev pub fields_view : List Field → List (List ℕ × ℤ)
fields_view fields = map field_view fields

-- the names of a point are the bytes of their slices
abbrev pub point_view : Point → PointView
point_view p = record {
  measurement = p.measurement.now;
  tags = tags_view p.tags.items;
  fields = fields_view p.fields.items;
  time = p.time;
}
