-- The reading of a line, as a function of its bytes: part by part, up to the first fault.
use Rattle.std.specs.Prelude.{ℕ, zero, suc, ◌+◌, nat_lt, ℤ, ◌||◌, not, ◌==◌, List, [], ◌∷◌, ◌++◌, length, take, drop, Option, None, Some, Result, Ok, Err, ok_or, if◌then◌else◌}
use Rattle.std.specs.List.{list_any}
use Rattle.rr_text.specs.Bytes.{strip, begins}
use Rattle.rr_text.specs.Results.{◌>>=◌, unless}
use Rattle.rr_text.specs.Text.{is_digits, unsigned, fits_i64}
use Rattle.rr_key.specs.declared.class.Class.{Class}
use Rattle.rr_key.specs.declared.class.Class.TheVariants.{Measurement, Other}
use Rattle.rr_text.specs.declared.limits.TheConstants.{MAX_TAGS, MAX_FIELDS, MAX_KEY_TEXT}
use Rattle.rr_key.specs.Unit.{name_len}
use Rattle.rr_text.specs.declared.bytes.TheConstants.{COMMA, EQUALS}
use Rattle.rr_line.specs.declared.mark.TheConstants.{QUOTE}
use Rattle.rr_line.specs.declared.fault.LineFault.{LineFault}
use Rattle.rr_line.specs.declared.fault.LineFault.TheVariants.{NoMeasurement, MissingTagKey, MissingTagValue, TooManyTags, DuplicateTag, NoFields, MissingFieldKey, MissingFieldValue, TooManyFields, DuplicateField, BadTime, TimeRange, KeyTooLong}
use Rattle.rr_line.specs.declared.precision.Precision.{Precision}
use Rattle.rr_line.specs.Field.{Field}
use Rattle.rr_line.specs.Grammar.{is_nothing}
use Rattle.rr_point.specs.Key.{has_long_key}
use Rattle.rr_point.specs.Point.{PointView}
use Rattle.rr_line.specs.Line.{LineView, nothing, point}
use Rattle.rr_line.specs.Part.{skip_spaces, content, cut_after}
use Rattle.rr_line.specs.Tag.{Tag, has_key}
use Rattle.rr_line.specs.Time.{word_len, nanoseconds}
use Rattle.rr_line.specs.Value.{value_of, value_len, quoted_fault}

-- the name at the beginning, and what follows it
abbrev pub name_at : Class → LineFault → List ℕ → Result (List ℕ × List ℕ) LineFault
name_at class missing text =
    unless missing (name_len class text == 0) (Ok (cut_after (name_len class text) text))

-- a tag, and what follows it
unfoldable pub tag_at : List ℕ → Result (Tag × List ℕ) LineFault
tag_at text = do
  key ← name_at Other MissingTagKey text
  value_text ← ok_or (strip EQUALS key.1) MissingTagValue
  value ← name_at Other MissingTagValue value_text
  unless MissingTagValue (begins EQUALS value.1) (Ok ((key.0, value.0), value.1))

-- what follows a comma, or the last part if there is none
abbrev pub after_comma : {A : Type 0} → Option (List ℕ) → A → (List ℕ → A) → A
after_comma None last more = last
after_comma (Some text) last more = more text

-- the tags after these, with room for this many more, and what follows them
abbrev pub tags_at : ℕ → List Tag → List ℕ → Result (List Tag × List ℕ) LineFault
tags_at zero before text = after_comma (strip COMMA text) (Ok (before, text)) (λ tag_text.
    tag_at tag_text >>= λ tag. Err TooManyTags)
tags_at (suc room) before text = after_comma (strip COMMA text) (Ok (before, text)) (λ tag_text.
    tag_at tag_text >>= λ tag.
    unless DuplicateTag (has_key before tag.0.0) (tags_at room (before ++ tag.0 ∷ []) tag.1))

-- the tags after a measurement, and what follows them
unfoldable pub all_tags_at : List ℕ → Result (List Tag × List ℕ) LineFault
all_tags_at text = tags_at MAX_TAGS [] text

-- the text of the fields, after the gap that precedes them
abbrev pub fields_text_of : List ℕ → Result (List ℕ) LineFault
fields_text_of gap = unless NoFields (length (skip_spaces gap) == 0) (Ok (skip_spaces gap))

-- a value, and what follows it
abbrev pub value_at : List ℕ → Result (ℤ × List ℕ) LineFault
value_at text = unless (quoted_fault text) (begins QUOTE text) (
    value_of (take (value_len text) text) >>= λ number. Ok (number, drop (value_len text) text))

-- a field, and what follows it
unfoldable pub field_at : List ℕ → Result (Field × List ℕ) LineFault
field_at text = do
  key ← name_at Other MissingFieldKey text
  value_text ← ok_or (strip EQUALS key.1) MissingFieldValue
  value ← value_at value_text
  Ok ((key.0, value.0), value.1)

-- the fields after these, with room for this many more, and what follows them
abbrev pub fields_at : ℕ → List Field → List ℕ → Result (List Field × List ℕ) LineFault
fields_at zero before text = field_at text >>= λ field. Err TooManyFields
fields_at (suc room) before text =
    field_at text >>= λ field.
    unless DuplicateField (has_key before field.0.0) (
    after_comma (strip COMMA field.1) (Ok (before ++ field.0 ∷ [], field.1)) (λ next.
    fields_at room (before ++ field.0 ∷ []) next))

-- the fields of a line, and what follows them
unfoldable pub all_fields_at : List ℕ → Result (List Field × List ℕ) LineFault
all_fields_at text = fields_at MAX_FIELDS [] text

-- a time in nanoseconds
abbrev pub time_at : Precision → List ℕ → Result ℤ LineFault
time_at precision word = unless TimeRange (not (fits_i64 (nanoseconds precision word)))
    (Ok (nanoseconds precision word))

-- the time of a word, with nothing but spaces after it
abbrev pub word_time : Precision → List ℕ → List ℕ → Result ℤ LineFault
word_time precision word rest =
    unless BadTime (not (is_digits (unsigned word)) || not (length (skip_spaces rest) == 0)) (time_at precision word)

-- the time of an ending without the spaces at its beginning, if it has one
abbrev pub ending_at : Precision → List ℕ → Result (Option ℤ) LineFault
ending_at precision text =
    if length text == 0 then Ok None
    else (word_time precision (take (word_len text) text) (drop (word_len text) text) >>= λ time. Ok (Some time))

-- the fields and the time after this many bytes, unless a key text is too long: it has these bytes, a space and the
-- field's key
unfoldable pub body_at : Precision → ℕ → List ℕ → Result (List Field × Option ℤ) LineFault
body_at precision prefix gap = do
  fields_text ← fields_text_of gap
  fields ← all_fields_at fields_text
  time ← ending_at precision (skip_spaces fields.1)
  unless KeyTooLong (list_any (λ field. nat_lt MAX_KEY_TEXT (prefix + 1 + length field.0)) fields.0)
      (Ok (fields.0, time))

-- a point, unless one of its keys is too long
abbrev pub unless_long : PointView → Result PointView LineFault
unless_long p = unless KeyTooLong (has_long_key p) (Ok p)

-- the point of a text that says something
unfoldable pub point_at : Precision → List ℕ → Result PointView LineFault
point_at precision text = do
  measurement ← name_at Measurement NoMeasurement text
  tags ← all_tags_at measurement.1
  fields_text ← fields_text_of tags.1
  fields ← all_fields_at fields_text
  time ← ending_at precision (skip_spaces fields.1)
  unless_long (record { measurement = measurement.0; tags = tags.0; fields = fields.0; time = time })

-- what a text says
abbrev pub text_at : Precision → List ℕ → Result LineView LineFault
text_at precision text =
    if is_nothing text then Ok nothing else (point_at precision text >>= λ p. Ok (point p))

-- what a line says
abbrev pub reading : Precision → List ℕ → Result LineView LineFault
reading precision line = text_at precision (content line)
