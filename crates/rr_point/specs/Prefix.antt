-- What precedes the field in the key texts of a point.
use Rattle.std.specs.Prelude.{ℕ, List, ◌++◌, map}
use Rattle.std.specs.FinMap.{entries, from_entries}
use Rattle.std.specs.List.{flat_map}
use Rattle.rr_text.specs.Bytes.{bytes_cmp}
use Rattle.rr_key.specs.declared.class.Class.TheVariants.{Measurement, Other}
use Rattle.rr_key.specs.Series.{tag_text}
use Rattle.rr_key.specs.Unit.{escape, unescape}
use Rattle.rr_point.specs.declared.point.Tag.{Tag}

-- a tag, by its bytes
abbrev pub tag_view : Tag → List ℕ × List ℕ
tag_view tag = (tag.key.now, tag.value.now)

abbrev pub tags_view : List Tag → List (List ℕ × List ℕ)
tags_view tags = map tag_view tags

-- the names of tags, unescaped
abbrev pub tags_unescaped : List (List ℕ × List ℕ) → List (List ℕ × List ℕ)
tags_unescaped tags = map (λ tag. (unescape Other tag.0, unescape Other tag.1)) tags

-- the measurement and the tags, as a key text writes them
abbrev pub prefix_text : List ℕ → List (List ℕ × List ℕ) → List ℕ
prefix_text measurement tags =
    escape Measurement (unescape Measurement measurement)
    ++ flat_map tag_text (entries (from_entries {R = bytes_cmp} (tags_unescaped tags)))
