-- A line is read as the grammar has it, and as nothing else.
use Rattle.std.proofs.Common.{◌≡◌, ◌≢◌, ◌≤◌, ℕ, Bool, true, false, eqb, cond, List, [], ◌∷◌, ◌++◌, length, length-append, ℤ, Option, Some, None, option_map, Result, Ok, Err, refl, sym, ap, subst, ◌∙◌, inl, inr, arith}
use Rattle.std.specs.Prelude.{unwrap_or, ok_or, option_and_then}
use Rattle.std.proofs.lemmas.Bool.{cases_Bool}
use Rattle.rr_text.specs.Bytes.{HasNoLineFeed}
use Rattle.rr_text.specs.Text.{integer_at}
use Rattle.rr_text.specs.declared.bytes.TheConstants.{RETURN}
use Rattle.rr_text.specs.declared.limits.TheConstants.{MAX_FIELDS}
use Rattle.rr_line.specs.declared.mark.TheConstants.{INTEGER_MARK}
use Rattle.rr_line.specs.declared.fault.LineFault.{LineFault}
use Rattle.rr_line.specs.declared.fault.LineFault.TheVariants.{NoMeasurement, MissingTagKey, MissingTagValue, TooManyTags, DuplicateTag, NoFields, MissingFieldKey, MissingFieldValue, BooleanField, IntegerRange, UnsignedField, FloatField, TextField, BadField, TooManyFields, DuplicateField, BadTime, TimeRange, KeyTooLong, Memory}
use Rattle.rr_line.specs.declared.precision.Precision.{Precision}
use Rattle.rr_line.specs.Field.{Field, FieldFault}
use Rattle.rr_line.specs.Field as field
use Rattle.rr_line.specs.Grammar.{is_nothing, IsPointOf, TextFault, no_measurement, at_tag, no_fields, at_field, at_time, long_key, HasFault, IsLineOf}
use Rattle.rr_point.specs.Key.{HasKeys, IsWritable}
use Rattle.rr_point.specs.Point.{PointView}
use Rattle.rr_line.specs.Line.{LineView, nothing, point}
use Rattle.rr_line.specs.Part.{content, before_last}
use Rattle.rr_line.specs.Reading.{point_at, text_at, reading}
use Rattle.rr_line.specs.Tag.{Tag, TagFault}
use Rattle.rr_line.specs.Tag as tag
use Rattle.rr_line.specs.Time.{EndingFault}
use Rattle.rr_line.specs.Time as time
use Rattle.rr_line.specs.Value.{ValueFault, a_text, no_text, unquoted, is_integer, is_boolean, is_unsigned, is_float, kind_fault, value_of}
use Rattle.rr_line.proofs.AgreeLemmas.{Agrees, Agrees-as, Holds}
use Rattle.rr_line.proofs.KeyLemmas.{has_keys, none_skipped}
use Rattle.rr_line.proofs.NameLemmas.{none_in_parts}
use Rattle.rr_line.proofs.PointLemmas.{IsTextOf, text_agrees}

view_to : (precision : Precision) (line : List ℕ) (parsed : LineView) → IsTextOf precision (content line) parsed
    → IsLineOf precision line (Ok parsed)
view_to precision line nothing h = h
view_to precision line (point p) h = record { parts = h.0; short = h.1 }

view_from : (precision : Precision) (line : List ℕ) (parsed : LineView) → IsLineOf precision line (Ok parsed)
    → IsTextOf precision (content line) parsed
view_from precision line nothing h = h
view_from precision line (point p) h = (h.parts, h.short)

line_agrees : (precision : Precision) (line : List ℕ)
    → Agrees (reading precision line) (λ parsed. IsLineOf precision line (Ok parsed)) (HasFault precision line)
line_agrees precision line =
    Agrees-as (reading precision line) (IsTextOf precision (content line)) _ (TextFault precision (content line)) _
    (view_to precision line) (view_from precision line) (λ fault h. h) (λ fault h. h)
    (text_agrees precision (content line))

-- what is read is of the grammar
held : (precision : Precision) (line : List ℕ) (read : Result LineView LineFault)
    → Holds (λ parsed. IsLineOf precision line (Ok parsed)) (HasFault precision line) read
    → IsLineOf precision line read
held precision line (Ok parsed) h = h
held precision line (Err fault) h = h

pub line_found : (precision : Precision) (line : List ℕ) → IsLineOf precision line (reading precision line)
line_found precision line = held precision line (reading precision line) (line_agrees precision line).holds

-- what is of the grammar is read
pub line_only : (precision : Precision) (line : List ℕ) (parsed : Result LineView LineFault)
    → IsLineOf precision line parsed → reading precision line ≡ parsed
line_only precision line (Ok parsed) h = (line_agrees precision line).good parsed h
line_only precision line (Err fault) h = (line_agrees precision line).bad fault h

-- a text that says something is read as a point, or refused
pub point_parsed : (precision : Precision) (line text : List ℕ) (p : PointView) → text ≡ content line
    → false ≡ is_nothing text → point_at precision text ≡ Ok p → reading precision line ≡ Ok (point p)
point_parsed precision line text p e parsed read = ap (text_at precision) (sym e) ∙ rw (sym parsed, read) refl

pub point_refused : (precision : Precision) (line text : List ℕ) (fault : LineFault) → text ≡ content line
    → false ≡ is_nothing text → point_at precision text ≡ Err fault → reading precision line ≡ Err fault
point_refused precision line text fault e parsed read = ap (text_at precision) (sym e) ∙ rw (sym parsed, read) refl

-- no line feed is in what is left of a line without one
mapped_some : {A B : Type 0} (f : A → B) (o : Option A) (y : B) → option_map f o ≡ Some y
    → (x : A) × (o ≡ Some x) × (f x ≡ y)
mapped_some f None y e = absurd cc
mapped_some f (Some x) y e = (x, refl, cc)

before_last_is : (byte : ℕ) (text prefix : List ℕ) → before_last byte text ≡ Some prefix
    → (last : ℕ) × (text ≡ prefix ++ last ∷ [])
before_last_is byte [] prefix e = absurd cc
before_last_is byte (last ∷ []) prefix e =
    elim (cases_Bool (eqb last byte)) [
      | inl here ↦ let none : [] ≡ prefix = (let cut = rw here at e in cc) in
          (last, ap (λ (l : List ℕ). l ++ last ∷ []) none)
      | inr other ↦ absurd (let cut = rw other at e in cc)
    ]
before_last_is byte (first ∷ next ∷ rest) prefix e =
    let later = mapped_some (λ (l : List ℕ). first ∷ l) (before_last byte (next ∷ rest)) prefix e in
    let ends = before_last_is byte (next ∷ rest) later.0 later.1 in
    (ends.0, ap (λ (l : List ℕ). first ∷ l) ends.1 ∙ ap (λ (l : List ℕ). l ++ ends.0 ∷ []) later.2)

pub none_in_content : (line text : List ℕ) → HasNoLineFeed line → text ≡ content line → HasNoLineFeed text
none_in_content line text none e = subst HasNoLineFeed (sym e)
    (none_skipped (unwrap_or (before_last RETURN line) line) (at (before_last RETURN line) refl))
  where
    at : (o : Option (List ℕ)) → before_last RETURN line ≡ o → HasNoLineFeed (unwrap_or o line)
    at None cut = none
    at (Some prefix) cut = let ends = before_last_is RETURN line prefix cut in
        (none_in_parts prefix (ends.0 ∷ []) (subst HasNoLineFeed ends.1 none)).0

-- each field of a point that is read has a key
pub keys_of_point : (precision : Precision) (line : List ℕ) (p : PointView) → HasNoLineFeed line
    → IsPointOf precision line p → HasKeys p
keys_of_point precision line p none h = has_keys precision (content line) p
    (none_in_content line (content line) none refl) h.parts h.short

-- and few fields
pub few_of_point : (precision : Precision) (line : List ℕ) (p : PointView) → IsPointOf precision line p
    → length p.fields ≤ MAX_FIELDS
few_of_point precision line p h =
    let fields = h.parts.are_fields in
    omega (arith, ap length fields.all, length-append fields.prefix (fields.last ∷ []), fields.new.few)

pub writable_point : (precision : Precision) (line : List ℕ) (p : PointView) → HasNoLineFeed line
    → IsPointOf precision line p → IsWritable p
writable_point precision line p none h = record {
  keyed = keys_of_point precision line p none h;
  few =
      few_of_point precision line p h;
}

-- no fault of a line is running out of memory
either_is_no_memory : (test : Bool) (one other : LineFault) → one ≢ Memory → other ≢ Memory
    → cond test one other ≢ Memory
either_is_no_memory true one other first second = first
either_is_no_memory false one other first second = second

kind_is_no_memory : (text : List ℕ) → kind_fault text ≢ Memory
kind_is_no_memory text =
    either_is_no_memory (eqb (length text) 0) MissingFieldValue _ (λ e. absurd cc)
    (either_is_no_memory (is_boolean text) BooleanField _ (λ e. absurd cc)
    (either_is_no_memory (is_unsigned text) UnsignedField _ (λ e. absurd cc)
    (either_is_no_memory (is_float text) FloatField BadField (λ e. absurd cc) (λ e. absurd cc))))

integer_is_no_memory : (o : Option ℤ) → ok_or o IntegerRange ≢ Err Memory
integer_is_no_memory (Some number) e = absurd cc
integer_is_no_memory None e = absurd cc

value_is_no_memory : (text : List ℕ) → value_of text ≢ Err Memory
value_is_no_memory text = at (is_integer text)
  where
    at : (test : Bool) → cond test (ok_or (option_and_then integer_at (before_last INTEGER_MARK text)) IntegerRange)
        (Err (kind_fault text)) ≢ Err Memory
    at true e = integer_is_no_memory (option_and_then integer_at (before_last INTEGER_MARK text)) e
    at false e = kind_is_no_memory text (let same : kind_fault text ≡ Memory = cc in same)

-- a fault that is another one
is_no_memory : (fault other : LineFault) → fault ≡ other → other ≢ Memory → fault ≢ Memory
is_no_memory fault other e apart memory = apart (sym e ∙ memory)

tag_is_no_memory : (before : List Tag) (text : List ℕ) (fault : LineFault) → TagFault before text fault → fault ≢ Memory
tag_is_no_memory before text fault (tag.no_key none is) = is_no_memory fault MissingTagKey is (λ e. absurd cc)
tag_is_no_memory before text fault (tag.no_value none is) = is_no_memory fault MissingTagValue is (λ e. absurd cc)
tag_is_no_memory before text fault (tag.too_many t rest stands full is) =
    is_no_memory fault TooManyTags is (λ e. absurd cc)
tag_is_no_memory before text fault (tag.repeated t rest stands room twice is) =
    is_no_memory fault DuplicateTag is (λ e. absurd cc)

bad_value_is_no_memory : (text : List ℕ) (fault : LineFault) → ValueFault text fault → fault ≢ Memory
bad_value_is_no_memory text fault (a_text rest quoted ended is) = is_no_memory fault TextField is (λ e. absurd cc)
bad_value_is_no_memory text fault (no_text begins none is) = is_no_memory fault BadField is (λ e. absurd cc)
bad_value_is_no_memory text fault (unquoted value rest bare is) =
    λ memory. value_is_no_memory value (is ∙ ap (λ (f : LineFault). Err f) memory)

field_is_no_memory : (before : List Field) (text : List ℕ) (fault : LineFault) → FieldFault before text fault
    → fault ≢ Memory
field_is_no_memory before text fault (field.no_key none is) = is_no_memory fault MissingFieldKey is (λ e. absurd cc)
field_is_no_memory before text fault (field.no_value key rest name lacks is) =
    is_no_memory fault MissingFieldValue is (λ e. absurd cc)
field_is_no_memory before text fault (field.bad_value key value_text name bad) =
    bad_value_is_no_memory value_text fault bad
field_is_no_memory before text fault (field.too_many f rest stands full is) =
    is_no_memory fault TooManyFields is (λ e. absurd cc)
field_is_no_memory before text fault (field.repeated f rest stands room twice is) =
    is_no_memory fault DuplicateField is (λ e. absurd cc)

time_is_no_memory : (precision : Precision) (text : List ℕ) (fault : LineFault) → EndingFault precision text fault
    → fault ≢ Memory
time_is_no_memory precision text fault (time.bad_time word rest is why f) =
    is_no_memory fault BadTime f (λ e. absurd cc)
time_is_no_memory precision text fault (time.out_of_range word is why f) =
    is_no_memory fault TimeRange f (λ e. absurd cc)

pub fault_is_no_memory : (precision : Precision) (text : List ℕ) (fault : LineFault) → TextFault precision text fault
    → fault ≢ Memory
fault_is_no_memory precision text fault (no_measurement parsed none is) =
    is_no_memory fault NoMeasurement is (λ e. absurd cc)
fault_is_no_memory precision text fault (at_tag measurement tags tag_text prefix bad) =
    tag_is_no_memory tags tag_text fault bad
fault_is_no_memory precision text fault (no_fields measurement tags gap prefix ended left is) =
    is_no_memory fault NoFields is (λ e. absurd cc)
fault_is_no_memory precision text fault (at_field measurement tags fields_text fields field_text prefix leading bad) =
    field_is_no_memory fields field_text fault bad
fault_is_no_memory precision text fault (at_time measurement tags fields_text fields ending prefix are bad) =
    time_is_no_memory precision ending fault bad
fault_is_no_memory precision text fault (long_key p parts long is) = is_no_memory fault KeyTooLong is (λ e. absurd cc)
