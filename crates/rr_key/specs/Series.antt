-- Series, and the texts of their keys.
use Rattle.std.specs.Prelude.{◌≡◌, ℕ, ◌≤◌, Bool, ◌&&◌, List, ◌∷◌, ◌++◌, length, IsTrue}
use Rattle.std.specs.FinMap.{FinMap, entries}
use Rattle.std.specs.List.{flat_map, list_all}
pub use Rattle.rr_text.specs.Bytes.{bytes_cmp}
use Rattle.rr_text.specs.declared.limits.TheConstants.{MAX_KEY_TEXT, MAX_TAGS}
use Rattle.rr_key.specs.declared.class.Class.TheVariants.{Measurement, Other}
use Rattle.rr_text.specs.declared.bytes.TheConstants.{COMMA, SPACE, EQUALS}
use Rattle.rr_key.specs.Name.{is_name}
use Rattle.rr_key.specs.Unit.{escape}

-- tags are a map from keys to values, both unescaped
abbrev pub Tags : Type 0
Tags = FinMap bytes_cmp (List ℕ)

-- a series is named by a measurement, tags and a field
pub record Series : Type 0 where
  pub measurement : List ℕ
  pub tags : Tags
  pub field : List ℕ

-- a tag is written as a comma, its key, an equals and its value
abbrev pub tag_text : List ℕ × List ℕ → List ℕ
tag_text tag = COMMA ∷ (escape Other tag.0 ++ EQUALS ∷ escape Other tag.1)

-- after the measurement: the tags, a space and the field
abbrev pub tail_text : List (List ℕ × List ℕ) → List ℕ → List ℕ
tail_text tags field = flat_map tag_text tags ++ SPACE ∷ escape Other field

-- the key text: the tags are in the order of their keys
abbrev pub key_text : Series → List ℕ
key_text series = escape Measurement series.measurement ++ tail_text (entries series.tags) series.field

-- a tag whose key and value are names
abbrev pub is_tag : List ℕ × List ℕ → Bool
is_tag tag = is_name tag.0 && is_name tag.1

-- a series that has a key: its parts are names, its tags not too many, and its text not too long
pub record IsSeries (series : Series) : Type 0 where
  pub measurement : IsTrue (is_name series.measurement)
  pub tags : IsTrue (list_all is_tag (entries series.tags))
  pub field : IsTrue (is_name series.field)
  pub few : length (entries series.tags) ≤ MAX_TAGS
  pub short : length (key_text series) ≤ MAX_KEY_TEXT

-- the text of some series
pub record IsKeyText (text : List ℕ) : Type 0 where
  pub series : Series
  pub named : IsSeries series
  pub whole : text ≡ key_text series
