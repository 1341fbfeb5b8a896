-- The grammar, as a relation between the bytes of a line and what it says, or why it is refused.
--
-- line = spaces measurement { "," tag } spaces field { "," field } spaces [ time spaces ] [ CR ]
use Rattle.std.specs.Prelude.{◌≡◌, ℕ, ◌<◌, Bool, true, false, ◌==◌, List, [], ◌∷◌, length, Result, Ok, Err}
use Rattle.rr_text.specs.Bytes.{begins}
use Rattle.rr_key.specs.declared.class.Class.TheVariants.{Measurement}
use Rattle.rr_text.specs.declared.bytes.TheConstants.{COMMA, HASH}
use Rattle.rr_line.specs.declared.fault.LineFault.{LineFault}
use Rattle.rr_line.specs.declared.fault.LineFault.TheVariants.{NoMeasurement, NoFields, KeyTooLong}
use Rattle.rr_line.specs.declared.precision.Precision.{Precision}
use Rattle.rr_line.specs.Field.{Field, LeadTo, AreFields, FieldFault}
use Rattle.rr_point.specs.Key.{has_long_key}
use Rattle.rr_point.specs.Point.{PointView}
use Rattle.rr_line.specs.Line.{LineView, nothing, point}
use Rattle.rr_line.specs.Part.{skip_spaces, content, IsName, HasNoName}
use Rattle.rr_line.specs.Tag.{Tag, AreTags, TagFault}
use Rattle.rr_line.specs.Time.{IsEnding, EndingFault}

-- nothing is left of a line, or a comment
abbrev pub is_nothing : List ℕ → Bool
is_nothing [] = true
is_nothing (byte ∷ rest) = byte == HASH

-- text = measurement { "," tag } rest
pub record LeadsToTags (text measurement : List ℕ) (tags : List Tag) (rest : List ℕ) : Type 0 where
  pub present : is_nothing text ≡ false
  pub tags_text : List ℕ
  pub name : IsName Measurement text measurement tags_text
  pub are_tags : AreTags [] tags_text tags rest

-- text = measurement { "," tag } spaces fields_text
pub record LeadsToFields (text measurement : List ℕ) (tags : List Tag) (fields_text : List ℕ) : Type 0 where
  pub gap : List ℕ
  pub prefix : LeadsToTags text measurement tags gap
  pub ended : begins COMMA gap ≡ false
  pub skipped : skip_spaces gap ≡ fields_text
  pub some : 0 < length fields_text

-- text = measurement { "," tag } spaces field { "," field } ending
pub record HasParts (precision : Precision) (text : List ℕ) (p : PointView) : Type 0 where
  pub fields_text : List ℕ
  pub ending : List ℕ
  pub prefix : LeadsToFields text p.measurement p.tags fields_text
  pub are_fields : AreFields fields_text p.fields ending
  pub is_ending : IsEnding precision ending p.time

-- a line says a point
pub record IsPointOf (precision : Precision) (line : List ℕ) (p : PointView) : Type 0 where
  pub parts : HasParts precision (content line) p
  pub short : has_long_key p ≡ false

-- a line says nothing
abbrev pub IsNothing : List ℕ → Type 0
IsNothing line = is_nothing (content line) ≡ true

-- why a text is refused: good parts are followed by one that isn't good
pub data TextFault (precision : Precision) (text : List ℕ) (fault : LineFault) : Type 0 where
  no_measurement : is_nothing text ≡ false → HasNoName Measurement text → fault ≡ NoMeasurement
      → TextFault precision text fault
  at_tag : (measurement : List ℕ) (tags : List Tag) (tag_text : List ℕ)
      → LeadsToTags text measurement tags (COMMA ∷ tag_text) → TagFault tags tag_text fault
      → TextFault precision text fault
  no_fields : (measurement : List ℕ) (tags : List Tag) (gap : List ℕ) → LeadsToTags text measurement tags gap
      → begins COMMA gap ≡ false → skip_spaces gap ≡ [] → fault ≡ NoFields → TextFault precision text fault
  at_field : (measurement : List ℕ) (tags : List Tag) (fields_text : List ℕ) (fields : List Field) (field_text : List ℕ)
      → LeadsToFields text measurement tags fields_text → LeadTo [] fields_text fields field_text
      → FieldFault fields field_text fault → TextFault precision text fault
  at_time : (measurement : List ℕ) (tags : List Tag) (fields_text : List ℕ) (fields : List Field) (ending : List ℕ)
      → LeadsToFields text measurement tags fields_text → AreFields fields_text fields ending
      → EndingFault precision ending fault → TextFault precision text fault
  long_key : (p : PointView) → HasParts precision text p → has_long_key p ≡ true → fault ≡ KeyTooLong
      → TextFault precision text fault

-- a line has a fault
abbrev pub HasFault : Precision → List ℕ → LineFault → Type 0
HasFault precision line fault = TextFault precision (content line) fault

-- what a line says, or its fault: one of the three cases
abbrev pub IsLineOf : Precision → List ℕ → Result LineView LineFault → Type 0
IsLineOf precision line (Ok nothing) = IsNothing line
IsLineOf precision line (Ok (point p)) = IsPointOf precision line p
IsLineOf precision line (Err fault) = HasFault precision line fault
