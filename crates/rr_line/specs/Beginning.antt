-- How a line begins, as far as it is read by the key texts of its samples.
use Rattle.std.specs.Prelude.{◌≡◌, ℕ, ℤ, true, false, List, ◌∷◌, ◌++◌, []}
use Rattle.std.specs.Ordering.{is_lt}
use Rattle.rr_text.specs.Bytes.{bytes_cmp}
use Rattle.rr_text.specs.declared.bytes.TheConstants.{EQUALS, SPACE}
use Rattle.rr_key.specs.declared.class.Class.TheVariants.{Other}
use Rattle.rr_key.specs.Unit.{escape}
use Rattle.rr_point.specs.Prefix.{prefix_text}
use Rattle.rr_point.specs.Key.{has_long_key}
use Rattle.rr_point.specs.Point.{PointView}
use Rattle.rr_line.specs.Field.{Field, IsField, MayComeAfter, LeadTo}
use Rattle.rr_line.specs.Grammar.{is_nothing, LeadsToFields}
use Rattle.rr_line.specs.Known.{Sample, samples_of}
use Rattle.rr_line.specs.Part.{content}
use Rattle.rr_line.specs.Tag.{has_key}
use Rattle.rr_line.specs.Value.{IsValue}

-- line = key "=" value rest, except for what the grammar drops at its ends, and it says something
pub record HasFirst (line key : List ℕ) (value : ℤ) (rest : List ℕ) : Type 0 where
  pub value_text : List ℕ
  pub present : is_nothing (content line) ≡ false
  pub whole : content line ≡ key ++ EQUALS ∷ value_text
  pub is_value : IsValue value_text value rest

-- if a key text is a text, a space and a name, these are the prefix and the field
abbrev pub IsCut : List ℕ → List ℕ → List ℕ → Type 0
IsCut key prefix field =
    (text name : List ℕ) → key ≡ text ++ SPACE ∷ escape Other name → (prefix ≡ text) × (field ≡ escape Other name)

-- line = measurement { "," tag } spaces field { "," field } rest, and these are the samples so far: the prefix is what
-- precedes the fields in their key texts, the key of the last field is this one, and no key so far is above it
pub record BeginsWith (line : List ℕ) (samples : List Sample) (prefix field rest : List ℕ) : Type 0 where
  pub p : PointView
  pub fields_text : List ℕ
  pub before : List Field
  pub last : Field
  pub last_text : List ℕ
  pub leads : LeadsToFields (content line) p.measurement p.tags fields_text
  pub leading : LeadTo [] fields_text before last_text
  pub ends : IsField last_text last rest
  pub new : MayComeAfter before last
  pub all : p.fields ≡ before ++ last ∷ []
  pub short : has_long_key p ≡ false
  pub are : samples_of p ≡ samples
  pub prefix_is : prefix ≡ prefix_text p.measurement p.tags
  pub field_is : field ≡ last.0
  pub rising : (key : List ℕ) → is_lt (bytes_cmp field key) ≡ true → has_key p.fields key ≡ false
