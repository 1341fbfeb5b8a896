-- What the steps before the fields say of the length of keys.
use Rattle.std.proofs.Common.{◌≡◌, ℕ, ◌+◌, ◌-◌, ◌≤◌, ℤ, false, ltb, eqb, List, [], length, take, Option, Result, Ok, refl, subst, arith}
use Rattle.std.specs.List.{list_any}
use Rattle.rr_text.specs.Bytes.{HasNoLineFeed}
use Rattle.rr_text.specs.declared.limits.TheConstants.{MAX_KEY_TEXT, MAX_TAGS, MAX_FIELDS}
use Rattle.rr_key.specs.declared.class.Class.TheVariants.{Measurement}
use Rattle.rr_line.specs.declared.fault.LineFault.{LineFault}
use Rattle.rr_line.specs.declared.fault.LineFault.TheVariants.{NoMeasurement, NoFields}
use Rattle.rr_line.specs.Field.{Field}
use Rattle.rr_point.specs.Prefix.{prefix_text}
use Rattle.rr_line.specs.Prefix.{IsPlain}
use Rattle.rr_line.specs.Grammar.{is_nothing, LeadsToTags}
use Rattle.rr_point.specs.Key.{has_long_key}
use Rattle.rr_line.specs.Part.{skip_spaces}
use Rattle.rr_line.specs.Reading.{name_at, all_tags_at, fields_text_of, all_fields_at}
use Rattle.rr_line.specs.Tag.{Tag}
use Rattle.rr_line.proofs.AgreeLemmas.{Agrees, Holds, Agrees-ok, Agrees-unless}
use Rattle.rr_line.proofs.FieldsLemmas.{HasFields, HasBadField, fields_agree}
use Rattle.rr_line.proofs.KeyPrefixLemmas.{prefix_is}
use Rattle.rr_line.proofs.KeyLemmas.{HasGoodNames, names_of_parts, prefix_size, tags_len, fields_good, long_by_size}
use Rattle.rr_line.proofs.PartLemmas.{name_agrees}
use Rattle.rr_line.proofs.PointLemmas.{leads_to_tags, leads_to_fields, are_fields}
use Rattle.rr_line.proofs.TagLemmas.{HasTags, HasBadTag, tags_agree}

-- what is read is in the relation
good_of : {A : Type 0} (read : Result A LineFault) (Good : A → Type 0) (Bad : LineFault → Type 0) (x : A)
    → Agrees read Good Bad → read ≡ Ok x → Good x
good_of read Good Bad x h e = subst (Holds Good Bad) e h.holds

tags_of_step : (text : List ℕ) (tags : List Tag × List ℕ) → all_tags_at text ≡ Ok tags → HasTags [] text tags
unfolding all_tags_at
tags_of_step text tags e = good_of (all_tags_at text) (HasTags [] text) (HasBadTag [] text) tags
    (tags_agree MAX_TAGS [] text refl) e

fields_of_step : (text : List ℕ) (fields : List Field × List ℕ) → all_fields_at text ≡ Ok fields
    → HasFields [] text fields
unfolding all_fields_at
fields_of_step text fields e = good_of (all_fields_at text) (HasFields [] text) (HasBadField [] text) fields
    (fields_agree MAX_FIELDS [] text refl) e

prefix_of_steps : (text : List ℕ) (measurement : List ℕ × List ℕ) (tags : List Tag × List ℕ) → is_nothing text ≡ false
    → name_at Measurement NoMeasurement text ≡ Ok measurement → all_tags_at measurement.1 ≡ Ok tags
    → LeadsToTags text measurement.0 tags.0 tags.1
prefix_of_steps text measurement tags parsed name are =
    leads_to_tags text parsed measurement (good_of (name_at Measurement NoMeasurement text) _ _ measurement
    (name_agrees Measurement NoMeasurement text) name) tags (tags_of_step measurement.1 tags are)

-- the tags leave a part of the text
pub gap_within : (text : List ℕ) (measurement : List ℕ × List ℕ) (tags : List Tag × List ℕ) → is_nothing text ≡ false
    → name_at Measurement NoMeasurement text ≡ Ok measurement → all_tags_at measurement.1 ≡ Ok tags
    → length tags.1 ≤ length text
gap_within text measurement tags parsed name are =
    let size = prefix_size text measurement.0 tags.0 tags.1 (prefix_of_steps text measurement tags parsed name are) in
    omega (arith, size)

-- the names before the fields are good
names_of_steps : (text : List ℕ) (measurement : List ℕ × List ℕ) (tags : List Tag × List ℕ) (fields_text : List ℕ)
    → HasNoLineFeed text → is_nothing text ≡ false
    → name_at Measurement NoMeasurement text ≡ Ok measurement → all_tags_at measurement.1 ≡ Ok tags
    → fields_text_of tags.1 ≡ Ok fields_text → HasGoodNames measurement.0 tags.0 × HasNoLineFeed fields_text
names_of_steps text measurement tags fields_text none parsed name are gap =
    let name_is = good_of (name_at Measurement NoMeasurement text) _ _ measurement
    (name_agrees Measurement NoMeasurement text) name in
    let gap_is = good_of (fields_text_of tags.1) (λ t. (eqb (length (skip_spaces tags.1)) 0 ≡ false)
    × (skip_spaces tags.1 ≡ t)) _ fields_text (Agrees-unless NoFields (eqb (length (skip_spaces tags.1)) 0)
    (Ok (skip_spaces tags.1)) (λ t. skip_spaces tags.1 ≡ t) (λ fault. ⊥) (λ some. Agrees-ok (skip_spaces tags.1)))
    gap in
    names_of_parts text measurement.0 tags.0 fields_text none
    (leads_to_fields text parsed measurement name_is tags (tags_of_step measurement.1 tags are) fields_text gap_is)

-- what precedes the fields is so in key texts, where it is plain
pub prefix_text_of_steps : (text : List ℕ) (measurement : List ℕ × List ℕ) (tags : List Tag × List ℕ)
    (fields_text : List ℕ) → HasNoLineFeed text → is_nothing text ≡ false
    → name_at Measurement NoMeasurement text ≡ Ok measurement → all_tags_at measurement.1 ≡ Ok tags
    → fields_text_of tags.1 ≡ Ok fields_text
    → IsPlain (take (length text - length tags.1) text) tags.0
    → take (length text - length tags.1) text ≡ prefix_text measurement.0 tags.0
prefix_text_of_steps text measurement tags fields_text none parsed name are gap plain =
    prefix_is text measurement.0 tags.0 tags.1 (prefix_of_steps text measurement tags parsed name are)
    (names_of_steps text measurement tags fields_text none parsed name are gap).0 plain

-- a key of the point is too long where one is by the length of what precedes the fields
pub long_of_steps : (text : List ℕ) (measurement : List ℕ × List ℕ) (tags : List Tag × List ℕ) (fields_text : List ℕ)
    (fields : List Field × List ℕ) (time : Option ℤ) (prefix : ℕ) → HasNoLineFeed text → is_nothing text ≡ false
    → name_at Measurement NoMeasurement text ≡ Ok measurement → all_tags_at measurement.1 ≡ Ok tags
    → fields_text_of tags.1 ≡ Ok fields_text → all_fields_at fields_text ≡ Ok fields
    → prefix ≡ length text - length tags.1
    → has_long_key (record { measurement = measurement.0; tags = tags.0; fields = fields.0; time = time })
    ≡ list_any (λ field. ltb MAX_KEY_TEXT (prefix + 1 + length field.0)) fields.0
long_of_steps text measurement tags fields_text fields time prefix none parsed name are gap have is =
    let size = prefix_size text measurement.0 tags.0 tags.1 (prefix_of_steps text measurement tags parsed name are) in
    let names = names_of_steps text measurement tags fields_text none parsed name are gap in
    let prefix_is : prefix ≡ length measurement.0 + tags_len tags.0 = omega (arith, is, size) in
    long_by_size (record { measurement = measurement.0; tags = tags.0; fields = fields.0; time = time }) prefix fields.0
    names.0 prefix_is
    (fields_good fields_text fields.0 fields.1 names.1
    (are_fields fields_text fields (fields_of_step fields_text fields have)))
