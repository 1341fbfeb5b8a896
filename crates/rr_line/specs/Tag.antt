-- Tags, each after a comma.
use Rattle.std.specs.Prelude.{◌≡◌, ℕ, ◌<◌, Bool, true, false, List, [], ◌∷◌, ◌++◌, length}
use Rattle.std.specs.Map.{keys_of}
use Rattle.rr_text.specs.Bytes.{begins, is_among}
use Rattle.rr_key.specs.declared.class.Class.TheVariants.{Other}
use Rattle.rr_text.specs.declared.limits.TheConstants.{MAX_TAGS}
use Rattle.rr_text.specs.declared.bytes.TheConstants.{COMMA, EQUALS}
use Rattle.rr_line.specs.declared.fault.LineFault.{LineFault}
use Rattle.rr_line.specs.declared.fault.LineFault.TheVariants.{MissingTagKey, MissingTagValue, TooManyTags, DuplicateTag}
use Rattle.rr_line.specs.Part.{IsName, HasNoName}

-- a key and a value, as they are written
abbrev pub Tag : Type 0
Tag = List ℕ × List ℕ

-- text = key "=" value rest, and the rest doesn't begin with "="
pub record IsTag (text : List ℕ) (tag : Tag) (rest : List ℕ) : Type 0 where
  pub value_text : List ℕ
  pub key : IsName Other text tag.0 (EQUALS ∷ value_text)
  pub value : IsName Other value_text tag.1 rest
  pub ended : begins EQUALS rest ≡ false

-- whether a key is among those of entries; each key is written in only one way
abbrev pub has_key : {V : Type 0} → List (List ℕ × V) → List ℕ → Bool
has_key entries key = is_among key (keys_of entries)

-- a tag may come after these
pub record MayComeAfter (before : List Tag) (tag : Tag) : Type 0 where
  pub few : length before < MAX_TAGS
  pub other : has_key before tag.0 ≡ false

-- text = { "," tag } rest, after the tags before
abbrev pub AreTags : List Tag → List ℕ → List Tag → List ℕ → Type 0
AreTags before text [] rest = text ≡ rest
AreTags before text (tag ∷ tags) rest =
    (tag_text next : List ℕ) × (text ≡ COMMA ∷ tag_text) × IsTag tag_text tag next × MayComeAfter before tag
    × AreTags (before ++ tag ∷ []) next tags rest

-- there is a key at the beginning, and no value follows it
pub data HasNoTagValue (text : List ℕ) : Type 0 where
  without_equals : (key rest : List ℕ) → IsName Other text key rest → begins EQUALS rest ≡ false → HasNoTagValue text
  without_name : (key value_text : List ℕ) → IsName Other text key (EQUALS ∷ value_text) → HasNoName Other value_text
      → HasNoTagValue text
  before_equals : (key value_text value rest : List ℕ) → IsName Other text key (EQUALS ∷ value_text)
      → IsName Other value_text value rest → begins EQUALS rest ≡ true → HasNoTagValue text

-- why no tag is read after a comma and the tags before
pub data TagFault (before : List Tag) (text : List ℕ) (fault : LineFault) : Type 0 where
  no_key : HasNoName Other text → fault ≡ MissingTagKey → TagFault before text fault
  no_value : HasNoTagValue text → fault ≡ MissingTagValue → TagFault before text fault
  too_many : (tag : Tag) (rest : List ℕ) → IsTag text tag rest → length before ≡ MAX_TAGS → fault ≡ TooManyTags
      → TagFault before text fault
  repeated : (tag : Tag) (rest : List ℕ) → IsTag text tag rest → length before < MAX_TAGS → has_key before tag.0 ≡ true
      → fault ≡ DuplicateTag → TagFault before text fault
