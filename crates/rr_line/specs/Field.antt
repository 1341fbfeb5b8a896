-- Fields, separated by commas.
use Rattle.std.specs.Prelude.{◌≡◌, ℕ, ◌<◌, ℤ, true, false, List, [], ◌∷◌, ◌++◌, length}
use Rattle.rr_text.specs.Bytes.{begins}
use Rattle.rr_key.specs.declared.class.Class.TheVariants.{Other}
use Rattle.rr_text.specs.declared.bytes.TheConstants.{COMMA, EQUALS}
use Rattle.rr_line.specs.declared.fault.LineFault.{LineFault}
use Rattle.rr_line.specs.declared.fault.LineFault.TheVariants.{MissingFieldKey, MissingFieldValue, TooManyFields, DuplicateField}
use Rattle.rr_text.specs.declared.limits.TheConstants.{MAX_FIELDS}
use Rattle.rr_line.specs.Part.{IsName, HasNoName}
use Rattle.rr_line.specs.Tag.{has_key}
use Rattle.rr_line.specs.Value.{IsValue, ValueFault}

-- a key, as it is written, and a value
abbrev pub Field : Type 0
Field = List ℕ × ℤ

-- text = key "=" value rest
pub record IsField (text : List ℕ) (field : Field) (rest : List ℕ) : Type 0 where
  pub value_text : List ℕ
  pub key : IsName Other text field.0 (EQUALS ∷ value_text)
  pub value : IsValue value_text field.1 rest

-- a field may come after these
pub record MayComeAfter (before : List Field) (field : Field) : Type 0 where
  pub few : length before < MAX_FIELDS
  pub other : has_key before field.0 ≡ false

-- text = { field "," } rest, after the fields before
abbrev pub LeadTo : List Field → List ℕ → List Field → List ℕ → Type 0
LeadTo before text [] rest = text ≡ rest
LeadTo before text (field ∷ fields) rest =
    (next : List ℕ) × IsField text field (COMMA ∷ next) × MayComeAfter before field
    × LeadTo (before ++ field ∷ []) next fields rest

-- text = { field "," } field rest, and the rest doesn't begin with a comma
pub record AreFields (text : List ℕ) (fields : List Field) (rest : List ℕ) : Type 0 where
  pub prefix : List Field
  pub last : Field
  pub last_text : List ℕ
  pub leading : LeadTo [] text prefix last_text
  pub ends : IsField last_text last rest
  pub new : MayComeAfter prefix last
  pub ended : begins COMMA rest ≡ false
  pub all : fields ≡ prefix ++ last ∷ []

-- why no field is read after the fields before
pub data FieldFault (before : List Field) (text : List ℕ) (fault : LineFault) : Type 0 where
  no_key : HasNoName Other text → fault ≡ MissingFieldKey → FieldFault before text fault
  no_value : (key rest : List ℕ) → IsName Other text key rest → begins EQUALS rest ≡ false → fault ≡ MissingFieldValue
      → FieldFault before text fault
  bad_value : (key value_text : List ℕ) → IsName Other text key (EQUALS ∷ value_text) → ValueFault value_text fault
      → FieldFault before text fault
  too_many : (field : Field) (rest : List ℕ) → IsField text field rest → length before ≡ MAX_FIELDS
      → fault ≡ TooManyFields → FieldFault before text fault
  repeated : (field : Field) (rest : List ℕ) → IsField text field rest → length before < MAX_FIELDS
      → has_key before field.0 ≡ true → fault ≡ DuplicateField → FieldFault before text fault
