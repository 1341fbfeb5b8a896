-- Lines, read and of the grammar.
use Rattle.std.proofs.Common.{◌≡◌, ℕ, ◌<◌, true, false, eqb, List, [], ◌∷◌, length, Option, Result, Ok, ℤ, refl, sym, ap, subst, ◌∙◌, inl, inr, arith}
use Rattle.std.specs.Prelude.{◌⊎◌}
use Rattle.std.proofs.lemmas.Bool.{cases_Bool, false≢true}
use Rattle.std.proofs.Math.Dec.{eqb-suc-zero}
use Rattle.rr_text.specs.Bytes.{begins}
use Rattle.rr_text.specs.Results.{◌>>=◌}
use Rattle.rr_key.specs.declared.class.Class.TheVariants.{Measurement}
use Rattle.rr_text.specs.declared.limits.TheConstants.{MAX_TAGS, MAX_FIELDS}
use Rattle.rr_text.specs.declared.bytes.TheConstants.{COMMA}
use Rattle.rr_line.specs.declared.fault.LineFault.{LineFault}
use Rattle.rr_line.specs.declared.fault.LineFault.TheVariants.{NoMeasurement, NoFields, KeyTooLong}
use Rattle.rr_line.specs.declared.precision.Precision.{Precision}
use Rattle.rr_line.specs.Field.{Field, AreFields}
use Rattle.rr_line.specs.Grammar.{is_nothing, LeadsToTags, LeadsToFields, HasParts, TextFault, no_measurement, at_tag, no_fields, at_field, at_time, long_key}
use Rattle.rr_point.specs.Key.{has_long_key}
use Rattle.rr_point.specs.Point.{PointView}
use Rattle.rr_line.specs.Line.{LineView, nothing, point}
use Rattle.rr_line.specs.Part.{skip_spaces, IsName, HasNoName}
use Rattle.rr_line.specs.Reading.{name_at, all_tags_at, fields_text_of, all_fields_at, ending_at, unless_long, point_at, text_at}
use Rattle.rr_line.specs.Tag.{Tag, AreTags}
use Rattle.rr_line.specs.Time.{IsEnding, EndingFault}
use Rattle.rr_line.proofs.AgreeLemmas.{Agrees, Agrees-as, Agrees-bind, Agrees-unless, Agrees-ok, just_read}
use Rattle.rr_line.proofs.FieldsLemmas.{HasFields, HasBadField, fields_agree}
use Rattle.rr_line.proofs.PartLemmas.{name_agrees}
use Rattle.rr_line.proofs.TagLemmas.{HasTags, HasBadTag, tags_agree}
use Rattle.rr_line.proofs.TimeLemmas.{ending_agrees, none_left, some_left}

-- the point of these parts
abbrev point_of : List ℕ → List Tag → List Field → Option ℤ → PointView
point_of measurement tags fields time = record { measurement = measurement; tags = tags; fields = fields; time = time }

-- the steps of a point, the last one first, with what holds of their answers and faults
abbrev IsShort : PointView → PointView → Type 0
IsShort p q = (has_long_key p ≡ false) × (p ≡ q)

abbrev IsLong : PointView → LineFault → Type 0
IsLong p fault = ((has_long_key p ≡ true) × (fault ≡ KeyTooLong)) ⊎ ((has_long_key p ≡ false) × ⊥)

short_agrees : (p : PointView) → Agrees (unless_long p) (IsShort p) (IsLong p)
short_agrees p = Agrees-unless KeyTooLong (has_long_key p) (Ok p) (λ q. p ≡ q) (λ fault. ⊥) (λ short. Agrees-ok p)

abbrev time_step : Precision → List ℕ → List Tag → List Field × List ℕ → Result PointView LineFault
time_step precision measurement tags fields =
    ending_at precision (skip_spaces fields.1) >>= λ time. unless_long (point_of measurement tags fields.0 time)

abbrev EndsWell : Precision → List ℕ → List Tag → List Field × List ℕ → PointView → Type 0
EndsWell precision measurement tags fields p =
    (time : Option ℤ) × IsEnding precision fields.1 time × IsShort (point_of measurement tags fields.0 time) p

abbrev EndsBadly : Precision → List ℕ → List Tag → List Field × List ℕ → LineFault → Type 0
EndsBadly precision measurement tags fields fault =
    EndingFault precision fields.1 fault ⊎ ((time : Option ℤ) × IsEnding precision fields.1 time
    × IsLong (point_of measurement tags fields.0 time) fault)

time_agrees : (precision : Precision) (measurement : List ℕ) (tags : List Tag) (fields : List Field × List ℕ)
    → Agrees (time_step precision measurement tags fields) (EndsWell precision measurement tags fields)
    (EndsBadly precision measurement tags fields)
time_agrees precision measurement tags fields =
    Agrees-bind (ending_at precision (skip_spaces fields.1))
    (λ time. unless_long (point_of measurement tags fields.0 time)) _ _ _ _ (ending_agrees precision fields.1)
    (λ time is. short_agrees (point_of measurement tags fields.0 time))

abbrev fields_step : Precision → List ℕ → List Tag → List ℕ → Result PointView LineFault
fields_step precision measurement tags text = all_fields_at text >>= time_step precision measurement tags

abbrev FieldsThen : Precision → List ℕ → List Tag → List ℕ → PointView → Type 0
FieldsThen precision measurement tags text p =
    (fields : List Field × List ℕ) × HasFields [] text fields × EndsWell precision measurement tags fields p

abbrev FieldsOr : Precision → List ℕ → List Tag → List ℕ → LineFault → Type 0
FieldsOr precision measurement tags text fault =
    HasBadField [] text fault ⊎ ((fields : List Field × List ℕ) × HasFields [] text fields
    × EndsBadly precision measurement tags fields fault)

fields_step_agrees : (precision : Precision) (measurement : List ℕ) (tags : List Tag) (text : List ℕ)
    → Agrees (fields_step precision measurement tags text) (FieldsThen precision measurement tags text)
    (FieldsOr precision measurement tags text)
unfolding all_fields_at
fields_step_agrees precision measurement tags text =
    Agrees-bind (all_fields_at text) (time_step precision measurement tags) _ _ _ _
    (fields_agree MAX_FIELDS [] text refl) (λ fields is. time_agrees precision measurement tags fields)

abbrev IsGap : List ℕ → List ℕ → Type 0
IsGap gap text = (eqb (length (skip_spaces gap)) 0 ≡ false) × (skip_spaces gap ≡ text)

abbrev IsEnd : List ℕ → LineFault → Type 0
IsEnd gap fault = ((eqb (length (skip_spaces gap)) 0 ≡ true) × (fault ≡ NoFields))
    ⊎ ((eqb (length (skip_spaces gap)) 0 ≡ false) × ⊥)

abbrev gap_step : Precision → List ℕ → List Tag × List ℕ → Result PointView LineFault
gap_step precision measurement tags = fields_text_of tags.1 >>= fields_step precision measurement tags.0

abbrev GapThen : Precision → List ℕ → List Tag × List ℕ → PointView → Type 0
GapThen precision measurement tags p = (text : List ℕ) × IsGap tags.1 text
    × FieldsThen precision measurement tags.0 text p

abbrev GapOr : Precision → List ℕ → List Tag × List ℕ → LineFault → Type 0
GapOr precision measurement tags fault = IsEnd tags.1 fault
    ⊎ ((text : List ℕ) × IsGap tags.1 text × FieldsOr precision measurement tags.0 text fault)

gap_agrees : (precision : Precision) (measurement : List ℕ) (tags : List Tag × List ℕ)
    → Agrees (gap_step precision measurement tags) (GapThen precision measurement tags)
    (GapOr precision measurement tags)
gap_agrees precision measurement tags =
    Agrees-bind (fields_text_of tags.1) (fields_step precision measurement tags.0) (IsGap tags.1) (IsEnd tags.1) _ _
    (Agrees-unless NoFields (eqb (length (skip_spaces tags.1)) 0) (Ok (skip_spaces tags.1))
    (λ text. skip_spaces tags.1 ≡ text) (λ fault. ⊥) (λ some. Agrees-ok (skip_spaces tags.1)))
    (λ text is. fields_step_agrees precision measurement tags.0 text)

abbrev tags_step : Precision → List ℕ × List ℕ → Result PointView LineFault
tags_step precision measurement = all_tags_at measurement.1 >>= gap_step precision measurement.0

abbrev TagsThen : Precision → List ℕ × List ℕ → PointView → Type 0
TagsThen precision measurement p = (tags : List Tag × List ℕ) × HasTags [] measurement.1 tags
    × GapThen precision measurement.0 tags p

abbrev TagsOr : Precision → List ℕ × List ℕ → LineFault → Type 0
TagsOr precision measurement fault = HasBadTag [] measurement.1 fault
    ⊎ ((tags : List Tag × List ℕ) × HasTags [] measurement.1 tags × GapOr precision measurement.0 tags fault)

tags_step_agrees : (precision : Precision) (measurement : List ℕ × List ℕ)
    → Agrees (tags_step precision measurement) (TagsThen precision measurement) (TagsOr precision measurement)
unfolding all_tags_at
tags_step_agrees precision measurement =
    Agrees-bind (all_tags_at measurement.1) (gap_step precision measurement.0) _ _ _ _
    (tags_agree MAX_TAGS [] measurement.1 refl) (λ tags is. gap_agrees precision measurement.0 tags)

abbrev Steps : Precision → List ℕ → PointView → Type 0
Steps precision text p = (measurement : List ℕ × List ℕ) × IsName Measurement text measurement.0 measurement.1
    × TagsThen precision measurement p

abbrev Stops : Precision → List ℕ → LineFault → Type 0
Stops precision text fault =
    (HasNoName Measurement text × (fault ≡ NoMeasurement))
    ⊎ ((measurement : List ℕ × List ℕ) × IsName Measurement text measurement.0 measurement.1
    × TagsOr precision measurement fault)

steps_agree : (precision : Precision) (text : List ℕ)
    → Agrees (point_at precision text) (Steps precision text) (Stops precision text)
unfolding point_at
steps_agree precision text =
    Agrees-bind (name_at Measurement NoMeasurement text) (tags_step precision) _ _ _ _
    (name_agrees Measurement NoMeasurement text) (λ measurement is. tags_step_agrees precision measurement)

-- the parts that the steps find are those of the grammar
pub leads_to_tags : (text : List ℕ) → is_nothing text ≡ false → (measurement : List ℕ × List ℕ)
    → IsName Measurement text measurement.0 measurement.1 → (tags : List Tag × List ℕ) → HasTags [] measurement.1 tags
    → LeadsToTags text measurement.0 tags.0 tags.1
leads_to_tags text parsed measurement name tags (more, are, ended, all) =
    record {
      present = parsed;
      tags_text = measurement.1;
      name = name;
      are_tags =
          subst (λ (ts : List Tag). AreTags [] measurement.1 ts tags.1) (sym all) are;
    }

pub leads_to_fields : (text : List ℕ) → is_nothing text ≡ false → (measurement : List ℕ × List ℕ)
    → IsName Measurement text measurement.0 measurement.1 → (tags : List Tag × List ℕ) → HasTags [] measurement.1 tags
    → (fields_text : List ℕ) → IsGap tags.1 fields_text → LeadsToFields text measurement.0 tags.0 fields_text
leads_to_fields text parsed measurement name tags has fields_text gap = record {
  gap = tags.1;
  prefix = leads_to_tags text parsed measurement name tags has;
  ended = has.2;
  skipped = gap.1;
  some = subst (λ (t : List ℕ). 0 < length t) gap.1 (some_left (skip_spaces tags.1) gap.0);
}

pub are_fields : (text : List ℕ) (fields : List Field × List ℕ) → HasFields [] text fields
    → AreFields text fields.0 fields.1
are_fields text fields (prefix, last, last_text, leading, ends, new, ended, all) =
    record {
      prefix = prefix;
      last = last;
      last_text = last_text;
      leading = leading;
      ends = ends;
      new = new;
      ended =
          ended;
      all = all;
    }

fields_are : (text : List ℕ) (fields : List Field) (rest : List ℕ) → AreFields text fields rest
    → HasFields [] text (fields, rest)
fields_are text fields rest h = (h.prefix, h.last, h.last_text, h.leading, h.ends, h.new, h.ended, h.all)

has_parts : (precision : Precision) (text : List ℕ) → is_nothing text ≡ false → (measurement : List ℕ × List ℕ)
    → IsName Measurement text measurement.0 measurement.1 → (tags : List Tag × List ℕ) → HasTags [] measurement.1 tags
    → (fields_text : List ℕ) → IsGap tags.1 fields_text → (fields : List Field × List ℕ)
    → HasFields [] fields_text fields → (time : Option ℤ) → IsEnding precision fields.1 time
    → HasParts precision text (point_of measurement.0 tags.0 fields.0 time)
has_parts precision text parsed measurement name tags has fields_text gap fields has_fields time is_ending = record {
  fields_text = fields_text;
  ending = fields.1;
  prefix = leads_to_fields text parsed measurement name tags has fields_text gap;
  are_fields = are_fields fields_text fields has_fields;
  is_ending = is_ending;
}

-- a point that is read, and one of the grammar
abbrev pub IsTextPoint : Precision → List ℕ → PointView → Type 0
IsTextPoint precision text p = HasParts precision text p × (has_long_key p ≡ false)

point_to : (precision : Precision) (text : List ℕ) → is_nothing text ≡ false → (p : PointView) → Steps precision text p
    → IsTextPoint precision text p
point_to precision text parsed p (
  measurement,
  name,
  (tags, has, (fields_text, gap, (fields, has_fields, (time, is_ending, (short, is))))),
) =
    subst (IsTextPoint precision text) is (
      has_parts precision text parsed measurement name tags has fields_text gap
          fields has_fields time is_ending,
      short,
    )

tags_are : (text measurement : List ℕ) (tags : List Tag) (rest : List ℕ) → (h : LeadsToTags text measurement tags rest)
    → begins COMMA rest ≡ false → HasTags [] h.tags_text (tags, rest)
tags_are text measurement tags rest h ended = (tags, h.are_tags, ended, refl)

gap_is : (gap fields_text : List ℕ) → skip_spaces gap ≡ fields_text → 0 < length fields_text → IsGap gap fields_text
gap_is gap fields_text skipped some = (
  ap (λ (t : List ℕ). eqb (length t) 0) skipped
      ∙ not_empty fields_text some,
  skipped,
)
  where
    not_empty : (text : List ℕ) → 0 < length text → eqb (length text) 0 ≡ false
    not_empty [] lt = absurd (omega arith)
    not_empty (byte ∷ text) lt = eqb-suc-zero (length text)

point_from : (precision : Precision) (text : List ℕ) (p : PointView) → IsTextPoint precision text p
    → Steps precision text p
point_from precision text p (h, short) =
    let prefix = h.prefix.prefix in (
      (p.measurement, prefix.tags_text),
      prefix.name,
      (
        (p.tags, h.prefix.gap),
        tags_are text p.measurement p.tags h.prefix.gap prefix h.prefix.ended,
        (
          h.fields_text,
          gap_is h.prefix.gap h.fields_text h.prefix.skipped h.prefix.some,
          (
            (p.fields, h.ending),
            fields_are h.fields_text p.fields h.ending h.are_fields,
            (p.time, h.is_ending, (short, refl)),
          ),
        ),
      ),
    )

-- a fault that is read, and one of the grammar
fault_to : (precision : Precision) (text : List ℕ) → is_nothing text ≡ false → (fault : LineFault)
    → Stops precision text fault → TextFault precision text fault
fault_to precision text parsed fault (inl h) = no_measurement parsed h.0 h.1
fault_to precision text parsed fault (inr (measurement, name, inl (tags, tag_text, are, bad))) =
    at_tag measurement.0 tags tag_text
    (record { present = parsed; tags_text = measurement.1; name = name; are_tags = are })
    bad
fault_to precision text parsed fault (inr (measurement, name, inr (tags, has, inl (inl h)))) =
    no_fields measurement.0 tags.0 tags.1 (leads_to_tags text parsed measurement name tags has) has.2
    (none_left (skip_spaces tags.1) h.0) h.1
fault_to precision text parsed fault (inr (measurement, name, inr (tags, has, inl (inr h)))) = absurd h.1
fault_to precision text parsed fault (inr (
  measurement,
  name,
  inr (tags, has, inr (fields_text, gap, inl (fields, field_text, leading, bad))),
)) =
    at_field measurement.0 tags.0 fields_text fields field_text
    (leads_to_fields text parsed measurement name tags has fields_text gap) leading bad
fault_to precision text parsed fault (inr (
  measurement,
  name,
  inr (tags, has, inr (fields_text, gap, inr (fields, has_fields, inl bad))),
)) =
    at_time measurement.0 tags.0 fields_text fields.0 fields.1
    (leads_to_fields text parsed measurement name tags has fields_text gap) (are_fields fields_text fields has_fields)
    bad
fault_to precision text parsed fault (inr (
  measurement,
  name,
  inr (tags, has, inr (fields_text, gap, inr (fields, has_fields, inr (time, is_ending, inl h)))),
)) =
    long_key (point_of measurement.0 tags.0 fields.0 time)
    (has_parts precision text parsed measurement name tags has fields_text gap fields has_fields time is_ending) h.0
    h.1
fault_to precision text parsed fault (inr (
  measurement,
  name,
  inr (tags, has, inr (fields_text, gap, inr (fields, has_fields, inr (time, is_ending, inr h)))),
)) = absurd h.1

-- a fault of the fields, or after them, of a text that leads to them
fault_in_fields : (precision : Precision) (text measurement : List ℕ) (tags : List Tag) (fields_text : List ℕ)
    (fault : LineFault) → LeadsToFields text measurement tags fields_text
    → FieldsOr precision measurement tags fields_text fault → Stops precision text fault
fault_in_fields precision text measurement tags fields_text fault h bad =
    inr (
      (measurement, h.prefix.tags_text),
      h.prefix.name,
      inr (
        (tags, h.gap),
        tags_are text measurement tags h.gap h.prefix h.ended,
        inr (fields_text, gap_is h.gap fields_text h.skipped h.some, bad),
      ),
    )

fault_from : (precision : Precision) (text : List ℕ) (fault : LineFault) → TextFault precision text fault
    → Stops precision text fault
fault_from precision text fault (no_measurement parsed none is) = inl (none, is)
fault_from precision text fault (at_tag measurement tags tag_text prefix bad) =
    inr ((measurement, prefix.tags_text), prefix.name, inl (tags, tag_text, prefix.are_tags, bad))
fault_from precision text fault (no_fields measurement tags gap prefix ended left is) =
    inr (
      (measurement, prefix.tags_text),
      prefix.name,
      inr (
        (tags, gap),
        tags_are text measurement tags gap prefix ended,
        inl (inl (ap (λ (t : List ℕ). eqb (length t) 0) left, is)),
      ),
    )
fault_from precision text fault (at_field measurement tags fields_text fields field_text h leading bad) =
    fault_in_fields precision text measurement tags fields_text fault h (inl (fields, field_text, leading, bad))
fault_from precision text fault (at_time measurement tags fields_text fields ending h are bad) =
    fault_in_fields precision text measurement tags fields_text fault h
    (inr ((fields, ending), fields_are fields_text fields ending are, inl bad))
fault_from precision text fault (long_key p h long is) =
    fault_in_fields precision text p.measurement p.tags h.fields_text fault h.prefix
    (inr (
      (p.fields, h.ending),
      fields_are h.fields_text p.fields h.ending h.are_fields,
      inr (p.time, h.is_ending, inl (long, is)),
    ))

-- what a text says
abbrev pub IsTextOf : Precision → List ℕ → LineView → Type 0
IsTextOf precision text nothing = is_nothing text ≡ true
IsTextOf precision text (point p) = IsTextPoint precision text p

parsed_by_parts : (precision : Precision) (text : List ℕ) (p : PointView) → HasParts precision text p
    → is_nothing text ≡ false
parsed_by_parts precision text p h = h.prefix.prefix.present

parsed_by_fault : (precision : Precision) (text : List ℕ) (fault : LineFault) → TextFault precision text fault
    → is_nothing text ≡ false
parsed_by_fault precision text fault (no_measurement parsed none is) = parsed
parsed_by_fault precision text fault (at_tag measurement tags tag_text prefix bad) = prefix.present
parsed_by_fault precision text fault (no_fields measurement tags gap prefix ended left is) = prefix.present
parsed_by_fault precision text fault (at_field measurement tags fields_text fields field_text h leading bad) =
    h.prefix.present
parsed_by_fault precision text fault (at_time measurement tags fields_text fields ending h are bad) = h.prefix.present
parsed_by_fault precision text fault (long_key p h long is) = h.prefix.prefix.present

nothing_agrees : (precision : Precision) (text : List ℕ) → is_nothing text ≡ true
    → Agrees {A = LineView} (Ok nothing) (IsTextOf precision text) (TextFault precision text)
nothing_agrees precision text e = record {
  holds = e;
  good = only;
  bad =
      λ fault h. absurd (false≢true (sym (parsed_by_fault precision text fault h) ∙ e));
}
  where
    only : (parsed : LineView) → IsTextOf precision text parsed → just_read nothing ≡ Ok parsed
    only nothing h = refl
    only (point p) h = absurd (false≢true (sym (parsed_by_parts precision text p h.0) ∙ e))

point_of_text : (precision : Precision) (text : List ℕ) → is_nothing text ≡ false → (parsed : LineView)
    → (p : PointView) × Steps precision text p × (point p ≡ parsed) → IsTextOf precision text parsed
point_of_text precision text parsed view (p, steps, is) =
    subst (IsTextOf precision text) is (point_to precision text parsed p steps)

text_point : (precision : Precision) (text : List ℕ) → is_nothing text ≡ false → (parsed : LineView)
    → IsTextOf precision text parsed → (p : PointView) × Steps precision text p × (point p ≡ parsed)
text_point precision text parsed nothing h = absurd (false≢true (sym parsed ∙ h))
text_point precision text parsed (point p) h = (p, point_from precision text p h, refl)

stops_of : (precision : Precision) (text : List ℕ) → is_nothing text ≡ false → (fault : LineFault)
    → Stops precision text fault ⊎ ((p : PointView) × Steps precision text p × ⊥) → TextFault precision text fault
stops_of precision text parsed fault (inl h) = fault_to precision text parsed fault h
stops_of precision text parsed fault (inr h) = absurd h.2

pub text_agrees : (precision : Precision) (text : List ℕ)
    → Agrees (text_at precision text) (IsTextOf precision text) (TextFault precision text)
text_agrees precision text =
    elim (cases_Bool (is_nothing text)) [
      | inl none ↦ rw none (nothing_agrees precision text none)
      | inr parsed ↦ rw parsed (
          Agrees-as (point_at precision text >>= λ p. Ok (point p)) _ _ _ _ (point_of_text precision text parsed)
          (text_point precision text parsed) (stops_of precision text parsed)
          (λ fault h. inl (fault_from precision text fault h))
          (Agrees-bind (point_at precision text) (λ p. Ok (point p)) (Steps precision text) (Stops precision text)
          (λ p view. point p ≡ view) (λ p fault. ⊥) (steps_agree precision text) (λ p is. Agrees-ok (point p))))
    ]
