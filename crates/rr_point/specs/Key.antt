-- The series of a point's fields.
use Rattle.std.specs.Prelude.{◌≡◌, ℕ, ◌≤◌, Bool, nat_lt, List, length, map, None}
use Rattle.std.specs.List.{list_any, AllByRecursion}
use Rattle.std.specs.declared.vec.Vec.{Vec}
use Rattle.std.specs.declared.alloc.Global.{Global}
use Rattle.rr_text.specs.declared.limits.TheConstants.{MAX_FIELDS, MAX_KEY_TEXT}
use Rattle.rr_key.specs.declared.class.Class.TheVariants.{Measurement, Other}
use Rattle.rr_key.specs.Making.{Names, series_of, making_fault}
use Rattle.rr_key.specs.Series as key
use Rattle.rr_key.specs.Unit.{unescape}
pub use Rattle.rr_point.specs.Prefix.{tags_unescaped}
use Rattle.rr_point.specs.Point.{PointView}

-- names that are held, by their bytes
abbrev pub tag_names : List (Vec ℕ Global × Vec ℕ Global) → List (List ℕ × List ℕ)
tag_names names = map (λ name. (name.0.items, name.1.items)) names

-- the names of a field's series, unescaped
abbrev pub names_of : PointView → List ℕ → Names
names_of p field = record {
  measurement = unescape Measurement p.measurement;
  tags = tags_unescaped p.tags;
  field = unescape Other field;
}

-- the key text of a field's series
abbrev pub key_text : PointView → List ℕ → List ℕ
key_text p field = key.key_text (series_of (names_of p field))

-- whether a field's key text is longer than a key text may be
abbrev pub has_long_key : PointView → Bool
has_long_key p = list_any (λ field. nat_lt MAX_KEY_TEXT (length (key_text p field.0))) p.fields

-- each field of a point has a key
abbrev pub HasKeys : PointView → Type 0
HasKeys p = AllByRecursion (λ field. making_fault (names_of p field.0) ≡ None) p.fields

-- a point that can be written: its fields are not too many, and each has a key
pub record IsWritable (p : PointView) : Type 0 where
  pub keyed : HasKeys p
  pub few : length p.fields ≤ MAX_FIELDS
