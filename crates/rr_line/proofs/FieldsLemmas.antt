-- Several fields, found by the reading and of the grammar.
use Rattle.std.proofs.Common.{◌≡◌, ℕ, zero, suc, ◌+◌, ◌<◌, true, false, List, [], ◌∷◌, ◌++◌, length, length-append, Option, Some, None, Result, Ok, Err, refl, sym, ap, subst, ◌∙◌, inl, inr, arith}
use Rattle.std.specs.Prelude.{◌⊎◌}
use Rattle.std.proofs.lemmas.List.{append-nil, append_assoc}
use Rattle.rr_text.specs.Bytes.{strip, begins}
use Rattle.rr_text.specs.Results.{◌>>=◌, unless}
use Rattle.rr_key.specs.declared.class.Class.TheVariants.{Other}
use Rattle.rr_text.specs.declared.bytes.TheConstants.{EQUALS, COMMA}
use Rattle.rr_line.specs.declared.fault.LineFault.{LineFault}
use Rattle.rr_line.specs.declared.fault.LineFault.TheVariants.{TooManyFields, DuplicateField}
use Rattle.rr_text.specs.declared.limits.TheConstants.{MAX_FIELDS}
use Rattle.rr_line.specs.Field.{Field, IsField, MayComeAfter, LeadTo, FieldFault, no_key, no_value, bad_value, too_many, repeated}
use Rattle.rr_line.specs.Part.{IsName}
use Rattle.rr_line.specs.Reading.{field_at, fields_at, after_comma}
use Rattle.rr_line.specs.Tag.{has_key}
use Rattle.rr_line.proofs.AgreeLemmas.{Agrees, Agrees-as, Agrees-bind, Agrees-unless, Agrees-err, just_read}
use Rattle.rr_line.proofs.FieldLemmas.{NoField, field_agrees}
use Rattle.rr_line.proofs.PartLemmas.{first_is, strip_some, strip_none}
use Rattle.rr_line.proofs.TagLemmas.{comma_is, no_comma}

-- the fields that are read after others, and what follows them
abbrev pub HasFields : List Field → List ℕ → List Field × List ℕ → Type 0
HasFields before text fields =
    (prefix : List Field) × (last : Field) × (last_text : List ℕ) × LeadTo before text prefix last_text
    × IsField last_text last fields.1
    × MayComeAfter (before ++ prefix) last × (begins COMMA fields.1 ≡ false)
    × (fields.0 ≡ before ++ (prefix ++ last ∷ []))

-- good fields, and then one that is not
abbrev pub HasBadField : List Field → List ℕ → LineFault → Type 0
HasBadField before text fault =
    (more : List Field) × (field_text : List ℕ) × LeadTo before text more field_text
    × FieldFault (before ++ more) field_text fault

-- what follows a field: the end of the fields, or more of them
abbrev Follows : List Field → Field × List ℕ → List Field × List ℕ → Type 0
Follows before field fields =
    ((begins COMMA field.1 ≡ false) × ((before ++ field.0 ∷ [], field.1) ≡ fields))
    ⊎ ((next : List ℕ) × (field.1 ≡ COMMA ∷ next) × HasFields (before ++ field.0 ∷ []) next fields)

abbrev FollowsBad : List Field → Field × List ℕ → LineFault → Type 0
FollowsBad before field fault = (next : List ℕ) × (field.1 ≡ COMMA ∷ next)
    × HasBadField (before ++ field.0 ∷ []) next fault

follows_agrees : (room : ℕ) (before : List Field) (field : Field × List ℕ) (o : Option (List ℕ))
    → strip COMMA field.1 ≡ o
    → ((next : List ℕ) → Agrees (fields_at room (before ++ field.0 ∷ []) next) (HasFields (before ++ field.0 ∷ []) next)
    (HasBadField (before ++ field.0 ∷ []) next))
    → Agrees (after_comma o (Ok (before ++ field.0 ∷ [], field.1))
    (λ next. fields_at room (before ++ field.0 ∷ []) next)) (Follows before field) (FollowsBad before field)
follows_agrees room before field None e later = record {
  holds = inl (strip_none COMMA field.1 e, refl);
  good = ends;
  bad = λ fault h. absurd (no_comma field.1 h.0 h.1 (strip_none COMMA field.1 e));
}
  where
    ends : (fields : List Field × List ℕ) → Follows before field fields
        → just_read (before ++ field.0 ∷ [], field.1) ≡ Ok fields
    ends fields (inl h) = ap (λ (f : List Field × List ℕ). just_read f) h.1
    ends fields (inr h) = absurd (no_comma field.1 h.0 h.1 (strip_none COMMA field.1 e))
follows_agrees room before field (Some next) e later =
    let whole = strip_some COMMA field.1 next e in
    Agrees-as (fields_at room (before ++ field.0 ∷ []) next) _ _ _ _ (λ fields h. inr (next, whole, h)) (back whole)
    (λ fault h. (next, whole, h)) (λ fault h. subst (λ (t : List ℕ). HasBadField (before ++ field.0 ∷ []) t fault)
    (comma_is field.1 next h.0 whole h.1) h.2) (later next)
  where
    back : field.1 ≡ COMMA ∷ next → (fields : List Field × List ℕ) → Follows before field fields
        → HasFields (before ++ field.0 ∷ []) next fields
    back whole fields (inl h) = absurd (no_comma field.1 next whole h.0)
    back whole fields (inr h) = subst (λ (t : List ℕ). HasFields (before ++ field.0 ∷ []) t fields)
        (comma_is field.1 next h.0 whole h.1) h.2

abbrev Then : List Field → Field × List ℕ → List Field × List ℕ → Type 0
Then before field fields = (has_key before field.0.0 ≡ false) × Follows before field fields

abbrev Fails : List Field → Field × List ℕ → LineFault → Type 0
Fails before field fault = ((has_key before field.0.0 ≡ true) × (fault ≡ DuplicateField))
    ⊎ ((has_key before field.0.0 ≡ false) × FollowsBad before field fault)

fields_to : (before : List Field) (text : List ℕ) (fields : List Field × List ℕ) → length before < MAX_FIELDS
    → (field : Field × List ℕ) × IsField text field.0 field.1 × Then before field fields → HasFields before text fields
fields_to before text fields few ((field, rest), is, (other, inl (ended, all))) =
    let parts = first_is (before ++ field ∷ [], rest) fields all in (
      [],
      field,
      text,
      refl,
      subst (λ (r : List ℕ). IsField text field r) parts.1 is,
      subst (λ (fs : List Field). MayComeAfter fs field) (sym (append-nil before))
          (record { few = few; other = other }),
      subst (λ (r : List ℕ). begins COMMA r ≡ false) parts.1 ended,
      sym parts.0,
    )
fields_to before text fields few (
  (field, rest),
  is,
  (other, inr (next, whole, (prefix, last, last_text, leading, ends, new, ended, all))),
) = (
  field ∷ prefix,
  last,
  last_text,
  (next, subst (λ (r : List ℕ). IsField text field r) whole is, record { few = few; other = other }, leading),
  ends,
  subst (λ (fs : List Field). MayComeAfter fs last) (append_assoc before (field ∷ []) prefix) new,
  ended,
  all ∙ append_assoc before (field ∷ []) (prefix ++ last ∷ []),
)

fields_from : (before : List Field) (text : List ℕ) (fields : List Field × List ℕ) → HasFields before text fields
    → (field : Field × List ℕ) × IsField text field.0 field.1 × Then before field fields
fields_from before text (fields, rest) ([], last, last_text, leading, ends, new, ended, all) =
    let may = subst (λ (fs : List Field). MayComeAfter fs last) (append-nil before) new in (
      (last, rest),
      subst (λ (t : List ℕ). IsField t last rest) (sym leading) ends,
      (may.other, inl (ended, rw all refl)),
    )
fields_from before text (fields, rest) (field ∷ prefix, last, last_text, leading, ends, new, ended, all) = (
  (field, COMMA ∷ leading.0),
  leading.1,
  (
    leading.2.other,
    inr (
      leading.0,
      refl,
      (
        prefix,
        last,
        last_text,
        leading.3,
        ends,
        subst (λ (fs : List Field). MayComeAfter fs last) (sym (append_assoc before (field ∷ []) prefix)) new,
        ended,
        all ∙ sym (append_assoc before (field ∷ []) (prefix ++ last ∷ [])),
      ),
    ),
  ),
)

no_field_is : (before : List Field) (text : List ℕ) (fault : LineFault) → NoField text fault
    → FieldFault before text fault
no_field_is before text fault (inl h) = no_key h.0 h.1
no_field_is before text fault (inr (key, name, inl h)) = no_value key.0 key.1 name h.0 h.1
no_field_is before text fault (inr (key, name, inr (value_text, whole, bad))) =
    bad_value key.0 value_text (subst (λ (r : List ℕ). IsName Other text key.0 r) whole name) bad

first_bad : (before : List Field) (text : List ℕ) (fault : LineFault) → FieldFault before text fault
    → HasBadField before text fault
first_bad before text fault bad = (
  [],
  text,
  refl,
  subst (λ (fields : List Field). FieldFault fields text fault) (sym (append-nil before)) bad,
)

bad_to : (before : List Field) (text : List ℕ) (fault : LineFault) → length before < MAX_FIELDS
    → NoField text fault ⊎ ((field : Field × List ℕ) × IsField text field.0 field.1 × Fails before field fault)
    → HasBadField before text fault
bad_to before text fault few (inl none) = first_bad before text fault (no_field_is before text fault none)
bad_to before text fault few (inr ((field, rest), is, inl twice)) =
    first_bad before text fault (repeated field rest is few twice.0 twice.1)
bad_to before text fault few (inr ((field, rest), is, inr (other, (next, whole, (more, bad_text, leading, bad))))) = (
  field ∷ more,
  bad_text,
  (
    next,
    subst (λ (r : List ℕ). IsField text field r) whole is,
    record { few = few; other = other },
    leading,
  ),
  subst (λ (fields : List Field). FieldFault fields bad_text fault) (append_assoc before (field ∷ []) more) bad,
)

bad_first : (before : List Field) (text : List ℕ) (fault : LineFault) → length before < MAX_FIELDS
    → FieldFault before text fault → NoField text fault
    ⊎ ((field : Field × List ℕ) × IsField text field.0 field.1 × Fails before field fault)
bad_first before text fault few (no_key none is) = inl (inl (none, is))
bad_first before text fault few (no_value key rest name lacks is) = inl (inr ((key, rest), name, inl (lacks, is)))
bad_first before text fault few (bad_value key value_text name bad) =
    inl (inr ((key, EQUALS ∷ value_text), name, inr (value_text, refl, bad)))
bad_first before text fault few (too_many field rest stands full is) = absurd (omega (arith, few, full))
bad_first before text fault few (repeated field rest stands room twice is) =
    inr ((field, rest), stands, inl (twice, is))

bad_at : (before : List Field) (text bad_text : List ℕ) (fault : LineFault) → text ≡ bad_text
    → FieldFault (before ++ []) bad_text fault → FieldFault before text fault
bad_at before text bad_text fault e bad = subst (λ (t : List ℕ). FieldFault before t fault) (sym e)
    (subst (λ (fields : List Field). FieldFault fields bad_text fault) (append-nil before) bad)

bad_from : (before : List Field) (text : List ℕ) (fault : LineFault) → length before < MAX_FIELDS
    → HasBadField before text fault → NoField text fault
    ⊎ ((field : Field × List ℕ) × IsField text field.0 field.1 × Fails before field fault)
bad_from before text fault few ([], bad_text, leading, bad) =
    bad_first before text fault few (bad_at before text bad_text fault leading bad)
bad_from before text fault few (field ∷ more, bad_text, leading, bad) =
    inr (
      (field, COMMA ∷ leading.0),
      leading.1,
      inr (
        leading.2.other,
        (
          leading.0,
          refl,
          (
            more,
            bad_text,
            leading.3,
            subst (λ (fields : List Field). FieldFault fields bad_text fault)
                (sym (append_assoc before (field ∷ []) more))
                bad,
          ),
        ),
      ),
    )

-- no room is left
full_good : (before : List Field) (text : List ℕ) (fields : List Field × List ℕ) → length before ≡ MAX_FIELDS
    → HasFields before text fields → ⊥
full_good before text fields full ([], last, last_text, leading, ends, new, ended, all) =
    let few = (subst (λ (fs : List Field). MayComeAfter fs last) (append-nil before) new).few in
    omega (arith, few, full)
full_good before text fields full (field ∷ prefix, last, last_text, leading, ends, new, ended, all) =
    omega (arith, leading.2.few, full)

full_to : (before : List Field) (text : List ℕ) (fault : LineFault) → length before ≡ MAX_FIELDS
    → NoField text fault ⊎ ((field : Field × List ℕ) × IsField text field.0 field.1 × (fault ≡ TooManyFields))
    → HasBadField before text fault
full_to before text fault full (inl none) = first_bad before text fault (no_field_is before text fault none)
full_to before text fault full (inr (field, is, fails)) =
    first_bad before text fault (too_many field.0 field.1 is full fails)

full_first : (before : List Field) (text : List ℕ) (fault : LineFault) → length before ≡ MAX_FIELDS
    → FieldFault before text fault → NoField text fault
    ⊎ ((field : Field × List ℕ) × IsField text field.0 field.1 × (fault ≡ TooManyFields))
full_first before text fault full (no_key none is) = inl (inl (none, is))
full_first before text fault full (no_value key rest name lacks is) = inl (inr ((key, rest), name, inl (lacks, is)))
full_first before text fault full (bad_value key value_text name bad) =
    inl (inr ((key, EQUALS ∷ value_text), name, inr (value_text, refl, bad)))
full_first before text fault full (too_many field rest stands room is) = inr ((field, rest), stands, is)
full_first before text fault full (repeated field rest stands room twice is) = absurd (omega (arith, full, room))

full_from : (before : List Field) (text : List ℕ) (fault : LineFault) → length before ≡ MAX_FIELDS
    → HasBadField before text fault → NoField text fault
    ⊎ ((field : Field × List ℕ) × IsField text field.0 field.1 × (fault ≡ TooManyFields))
full_from before text fault full ([], bad_text, leading, bad) =
    full_first before text fault full (bad_at before text bad_text fault leading bad)
full_from before text fault full (field ∷ more, bad_text, leading, bad) = absurd (omega (arith, leading.2.few, full))

pub fields_agree : (room : ℕ) (before : List Field) (text : List ℕ) → room + length before ≡ MAX_FIELDS
    → Agrees (fields_at room before text) (HasFields before text) (HasBadField before text)
fields_agree zero before text left =
    let full : length before ≡ MAX_FIELDS = omega (arith, left) in
    Agrees-as (field_at text >>= λ field. Err TooManyFields) _ _ _ _ (λ fields h. absurd h.2)
    (λ fields h. absurd (full_good before text fields full h)) (λ fault. full_to before text fault full)
    (λ fault. full_from before text fault full)
    (Agrees-bind (field_at text) (λ field. Err TooManyFields) (λ field. IsField text field.0 field.1) (NoField text)
    (λ field fields. ⊥) (λ field fault. fault ≡ TooManyFields) (field_agrees text)
    (λ field is. Agrees-err TooManyFields))
fields_agree (suc room) before text left =
    let few : length before < MAX_FIELDS = omega (arith, left) in
    let ending : Field × List ℕ → Result (List Field × List ℕ) LineFault =
    λ field. after_comma (strip COMMA field.1) (Ok (before ++ field.0 ∷ [], field.1))
    (λ next. fields_at room (before ++ field.0 ∷ []) next) in
    let rest_of : Field × List ℕ → Result (List Field × List ℕ) LineFault =
    λ field. unless DuplicateField (has_key before field.0.0) (ending field) in
    Agrees-as (field_at text >>= rest_of) _ _ _ _ (λ fields. fields_to before text fields few)
    (λ fields. fields_from before text fields) (λ fault. bad_to before text fault few)
    (λ fault. bad_from before text fault few)
    (Agrees-bind (field_at text) rest_of (λ field. IsField text field.0 field.1) (NoField text) (Then before)
    (Fails before) (field_agrees text) (λ field is.
    Agrees-unless DuplicateField (has_key before field.0.0) (ending field) (Follows before field)
    (FollowsBad before field) (λ other.
    follows_agrees room before field (strip COMMA field.1) refl
    (λ next. fields_agree room (before ++ field.0 ∷ []) next
    (omega (arith, left, length-append before (field.0 ∷ [])))))))
