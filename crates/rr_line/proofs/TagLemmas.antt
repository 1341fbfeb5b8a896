-- Tags, found by the reading and of the grammar.
use Rattle.std.proofs.Common.{◌≡◌, ℕ, zero, suc, ◌+◌, ◌<◌, true, false, List, [], ◌∷◌, ◌++◌, length, drop, length-append, Option, Some, None, Result, Ok, Err, refl, sym, ap, subst, ◌∙◌, inl, inr, arith}
use Rattle.std.proofs.lemmas.Bool.{false≢true}
use Rattle.std.proofs.lemmas.List.{append-nil, append_assoc}
use Rattle.std.specs.Prelude.{ok_or, ◌⊎◌}
use Rattle.rr_text.specs.Bytes.{strip, begins}
use Rattle.rr_text.specs.Results.{◌>>=◌, unless}
use Rattle.rr_key.specs.declared.class.Class.TheVariants.{Other}
use Rattle.rr_text.specs.declared.limits.TheConstants.{MAX_TAGS}
use Rattle.rr_text.specs.declared.bytes.TheConstants.{EQUALS, COMMA}
use Rattle.rr_line.specs.declared.fault.LineFault.{LineFault}
use Rattle.rr_line.specs.declared.fault.LineFault.TheVariants.{MissingTagKey, MissingTagValue, TooManyTags, DuplicateTag}
use Rattle.rr_line.specs.Part.{IsName, HasNoName}
use Rattle.rr_line.specs.Reading.{name_at, tag_at, tags_at, after_comma}
use Rattle.rr_line.specs.Tag.{Tag, IsTag, HasNoTagValue, without_equals, without_name, before_equals, has_key, AreTags, TagFault, no_key, no_value, too_many, repeated}
use Rattle.rr_line.proofs.AgreeLemmas.{Agrees, Agrees-as, Agrees-bind, Agrees-unless, Agrees-ok, Agrees-ok_or, Agrees-err, just_read}
use Rattle.rr_line.proofs.PartLemmas.{name_agrees, first_is, strip_some, strip_there, strip_none, strip_lacks, begins_there}

-- a tag, or why there is none: the first two faults
abbrev pub NoTag : List ℕ → LineFault → Type 0
NoTag text fault = (HasNoName Other text × (fault ≡ MissingTagKey)) ⊎ (HasNoTagValue text × (fault ≡ MissingTagValue))

-- the steps of a tag, after its key and after its equals
abbrev value_step : List ℕ → List ℕ → Result (Tag × List ℕ) LineFault
value_step key value_text =
    name_at Other MissingTagValue value_text >>= λ value.
    unless MissingTagValue (begins EQUALS value.1) (Ok ((key, value.0), value.1))

abbrev equals_step : List ℕ × List ℕ → Result (Tag × List ℕ) LineFault
equals_step key = ok_or (strip EQUALS key.1) MissingTagValue >>= value_step key.0

abbrev EndsTag : List ℕ → List ℕ × List ℕ → Tag × List ℕ → Type 0
EndsTag key value tag = (begins EQUALS value.1 ≡ false) × (((key, value.0), value.1) ≡ tag)

abbrev EndsInEquals : List ℕ × List ℕ → LineFault → Type 0
EndsInEquals value fault = ((begins EQUALS value.1 ≡ true) × (fault ≡ MissingTagValue))
    ⊎ ((begins EQUALS value.1 ≡ false) × ⊥)

value_agrees : (key value_text : List ℕ) → Agrees (value_step key value_text)
    (λ tag. (value : List ℕ × List ℕ) × IsName Other value_text value.0 value.1 × EndsTag key value tag)
    (λ fault. (HasNoName Other value_text × (fault ≡ MissingTagValue))
    ⊎ ((value : List ℕ × List ℕ) × IsName Other value_text value.0 value.1 × EndsInEquals value fault))
value_agrees key value_text =
    Agrees-bind (name_at Other MissingTagValue value_text) _ _ _ (EndsTag key) EndsInEquals
    (name_agrees Other MissingTagValue value_text) (λ value is.
    Agrees-unless MissingTagValue (begins EQUALS value.1) (Ok ((key, value.0), value.1))
    (λ tag. ((key, value.0), value.1) ≡ tag) (λ fault. ⊥) (λ e. Agrees-ok ((key, value.0), value.1)))

abbrev HasValue : List ℕ × List ℕ → Tag × List ℕ → Type 0
HasValue key tag = (value_text : List ℕ) × (strip EQUALS key.1 ≡ Some value_text)
    × ((value : List ℕ × List ℕ) × IsName Other value_text value.0 value.1 × EndsTag key.0 value tag)

abbrev LacksValue : List ℕ × List ℕ → LineFault → Type 0
LacksValue key fault = ((strip EQUALS key.1 ≡ None) × (fault ≡ MissingTagValue))
    ⊎ ((value_text : List ℕ) × (strip EQUALS key.1 ≡ Some value_text)
    × ((HasNoName Other value_text × (fault ≡ MissingTagValue))
    ⊎ ((value : List ℕ × List ℕ) × IsName Other value_text value.0 value.1 × EndsInEquals value fault)))

equals_agrees : (key : List ℕ × List ℕ) → Agrees (equals_step key) (HasValue key) (LacksValue key)
equals_agrees key =
    Agrees-bind (ok_or (strip EQUALS key.1) MissingTagValue) (value_step key.0) _ _ _ _
    (Agrees-ok_or (strip EQUALS key.1) MissingTagValue) (λ value_text is. value_agrees key.0 value_text)

tag_to : (text : List ℕ) (tag : Tag × List ℕ) → (key : List ℕ × List ℕ) × IsName Other text key.0 key.1
    × HasValue key tag → IsTag text tag.0 tag.1
tag_to text tag ((key, after), name, (value_text, there, (value, is_value, (ended, is)))) =
    let parts = first_is ((key, value.0), value.1) tag is in
    let names = first_is (key, value.0) tag.0 parts.0 in
    record {
      value_text = value_text;
      key = subst (λ (k : List ℕ). IsName Other text k (EQUALS ∷ value_text)) names.0
          (subst (λ (rest : List ℕ). IsName Other text key rest) (strip_some EQUALS after value_text there) name);
      value = subst (λ (v : List ℕ). IsName Other value_text v tag.1) names.1
          (subst (λ (rest : List ℕ). IsName Other value_text value.0 rest) parts.1 is_value);
      ended = subst (λ (rest : List ℕ). begins EQUALS rest ≡ false) parts.1 ended;
    }

tag_from : (text : List ℕ) (tag : Tag × List ℕ) → IsTag text tag.0 tag.1
    → (key : List ℕ × List ℕ) × IsName Other text key.0 key.1 × HasValue key tag
tag_from text (tag, rest) h = (
  (tag.0, EQUALS ∷ h.value_text),
  h.key,
  (h.value_text, strip_there EQUALS h.value_text, ((tag.1, rest), h.value, (h.ended, refl))),
)

no_tag_to : (text : List ℕ) (fault : LineFault) → (HasNoName Other text × (fault ≡ MissingTagKey))
    ⊎ ((key : List ℕ × List ℕ) × IsName Other text key.0 key.1 × LacksValue key fault) → NoTag text fault
no_tag_to text fault (inl none) = inl none
no_tag_to text fault (inr ((key, after), name, inl lacks)) =
    inr (without_equals key after name (strip_none EQUALS after lacks.0), lacks.1)
no_tag_to text fault (inr ((key, after), name, inr (value_text, there, inl none))) =
    inr (
      without_name key value_text (subst (λ (rest : List ℕ). IsName Other text key rest)
          (strip_some EQUALS after value_text there) name) none.0,
      none.1,
    )
no_tag_to text fault (inr ((key, after), name, inr (value_text, there, inr (value, is_value, inl ends)))) =
    inr (
      before_equals key value_text value.0 value.1
          (subst (λ (rest : List ℕ). IsName Other text key rest) (strip_some EQUALS after value_text there) name)
          is_value
          ends.0,
      ends.1,
    )
no_tag_to text fault (inr ((key, after), name, inr (value_text, there, inr (value, is_value, inr never)))) =
    absurd never.1

no_tag_from : (text : List ℕ) (fault : LineFault) → NoTag text fault
    → (HasNoName Other text × (fault ≡ MissingTagKey))
    ⊎ ((key : List ℕ × List ℕ) × IsName Other text key.0 key.1 × LacksValue key fault)
no_tag_from text fault (inl none) = inl none
no_tag_from text fault (inr (without_equals key rest name lacks, is)) =
    inr ((key, rest), name, inl (strip_lacks EQUALS rest lacks, is))
no_tag_from text fault (inr (without_name key value_text name none, is)) =
    inr ((key, EQUALS ∷ value_text), name, inr (value_text, strip_there EQUALS value_text, inl (none, is)))
no_tag_from text fault (inr (before_equals key value_text value rest name is_value ends, is)) =
    inr (
      (key, EQUALS ∷ value_text),
      name,
      inr (
        value_text,
        strip_there EQUALS value_text,
        inr ((value, rest), is_value, inl (ends, is)),
      ),
    )

pub tag_agrees : (text : List ℕ) → Agrees (tag_at text) (λ tag. IsTag text tag.0 tag.1) (NoTag text)
unfolding tag_at
tag_agrees text =
    Agrees-as (tag_at text) _ _ _ _ (tag_to text) (tag_from text) (no_tag_to text) (no_tag_from text)
    (Agrees-bind (name_at Other MissingTagKey text) equals_step _ _ HasValue LacksValue
    (name_agrees Other MissingTagKey text) (λ key is. equals_agrees key))

-- the tags that are read, and what follows them
abbrev pub HasTags : List Tag → List ℕ → List Tag × List ℕ → Type 0
HasTags before text tags =
    (more : List Tag) × AreTags before text more tags.1 × (begins COMMA tags.1 ≡ false) × (tags.0 ≡ before ++ more)

-- good tags, and then one that is not
abbrev pub HasBadTag : List Tag → List ℕ → LineFault → Type 0
HasBadTag before text fault =
    (more : List Tag) × (tag_text : List ℕ) × AreTags before text more (COMMA ∷ tag_text)
    × TagFault (before ++ more) tag_text fault

-- a text of commas has one after the first
pub comma_is : (text one two : List ℕ) → text ≡ COMMA ∷ one → text ≡ COMMA ∷ two → two ≡ one
comma_is text one two e f = ap (drop 1) (sym f ∙ e)

pub no_comma : (text rest : List ℕ) → text ≡ COMMA ∷ rest → begins COMMA text ≡ false → ⊥
no_comma text rest e none = false≢true (sym none ∙ ap (begins COMMA) e ∙ begins_there COMMA rest)

-- where no comma follows
no_more : (before : List Tag) (text : List ℕ) → strip COMMA text ≡ None
    → Agrees {A = List Tag × List ℕ} (Ok (before, text)) (HasTags before text) (HasBadTag before text)
no_more before text e =
    let none = strip_none COMMA text e in
    record {
      holds = ([], refl, none, sym (append-nil before));
      good = last;
      bad = λ fault h. absurd (never fault h);
    }
  where
    last : (tags : List Tag × List ℕ) → HasTags before text tags → just_read (before, text) ≡ Ok tags
    last (tags, rest) ([], are, ended, is) = rw (is, append-nil before, are) refl
    last (tags, rest) (tag ∷ more, are, ended, is) = absurd (no_comma text are.0 are.2 (strip_none COMMA text e))

    never : (fault : LineFault) → HasBadTag before text fault → ⊥
    never fault ([], tag_text, are, bad) = no_comma text tag_text are (strip_none COMMA text e)
    never fault (tag ∷ more, tag_text, are, bad) = no_comma text are.0 are.2 (strip_none COMMA text e)

-- what may follow a tag, and why nothing does
abbrev Then : List Tag → Tag × List ℕ → List Tag × List ℕ → Type 0
Then before tag tags = (has_key before tag.0.0 ≡ false) × HasTags (before ++ tag.0 ∷ []) tag.1 tags

abbrev Fails : List Tag → Tag × List ℕ → LineFault → Type 0
Fails before tag fault = ((has_key before tag.0.0 ≡ true) × (fault ≡ DuplicateTag))
    ⊎ ((has_key before tag.0.0 ≡ false) × HasBadTag (before ++ tag.0 ∷ []) tag.1 fault)

tags_to : (before : List Tag) (text tag_text : List ℕ) (tags : List Tag × List ℕ) → length before < MAX_TAGS
    → text ≡ COMMA ∷ tag_text → (tag : Tag × List ℕ) × IsTag tag_text tag.0 tag.1 × Then before tag tags
    → HasTags before text tags
tags_to before text tag_text tags few whole ((tag, next), is, (other, (more, are, ended, all))) = (
  tag ∷ more,
  (tag_text, next, whole, is, record { few = few; other = other }, are),
  ended,
  all
      ∙ append_assoc before (tag ∷ []) more,
)

tags_from : (before : List Tag) (text tag_text : List ℕ) (tags : List Tag × List ℕ) → text ≡ COMMA ∷ tag_text
    → HasTags before text tags → (tag : Tag × List ℕ) × IsTag tag_text tag.0 tag.1 × Then before tag tags
tags_from before text tag_text tags whole ([], are, ended, all) =
    absurd (no_comma text tag_text whole (ap (begins COMMA) are ∙ ended))
tags_from before text tag_text tags whole (tag ∷ more, are, ended, all) = (
  (tag, are.1),
  subst (λ (t : List ℕ). IsTag t tag are.1) (comma_is text tag_text are.0 whole are.2) are.3,
  (are.4.other, (more, are.5, ended, all ∙ sym (append_assoc before (tag ∷ []) more))),
)

no_tag_is : (before : List Tag) (text : List ℕ) (fault : LineFault) → NoTag text fault → TagFault before text fault
no_tag_is before text fault (inl h) = no_key h.0 h.1
no_tag_is before text fault (inr h) = no_value h.0 h.1

-- the first tag is bad
first_bad : (before : List Tag) (text tag_text : List ℕ) (fault : LineFault) → text ≡ COMMA ∷ tag_text
    → TagFault before tag_text fault → HasBadTag before text fault
first_bad before text tag_text fault whole bad =
    ([], tag_text, whole, subst (λ (tags : List Tag). TagFault tags tag_text fault) (sym (append-nil before)) bad)

bad_to : (before : List Tag) (text tag_text : List ℕ) (fault : LineFault) → length before < MAX_TAGS
    → text ≡ COMMA ∷ tag_text → NoTag tag_text fault
    ⊎ ((tag : Tag × List ℕ) × IsTag tag_text tag.0 tag.1 × Fails before tag fault) → HasBadTag before text fault
bad_to before text tag_text fault few whole (inl none) =
    first_bad before text tag_text fault whole (no_tag_is before tag_text fault none)
bad_to before text tag_text fault few whole (inr ((tag, next), is, inl twice)) =
    first_bad before text tag_text fault whole (repeated tag next is few twice.0 twice.1)
bad_to before text tag_text fault few whole (inr ((tag, next), is, inr (other, (more, bad_text, are, bad)))) = (
  tag ∷ more,
  bad_text,
  (tag_text, next, whole, is, record { few = few; other = other }, are),
  subst (λ (tags : List Tag). TagFault tags bad_text fault) (append_assoc before (tag ∷ []) more) bad,
)

bad_first : (before : List Tag) (text : List ℕ) (fault : LineFault) → length before < MAX_TAGS
    → TagFault before text fault → NoTag text fault
    ⊎ ((tag : Tag × List ℕ) × IsTag text tag.0 tag.1 × Fails before tag fault)
bad_first before text fault few (no_key none is) = inl (inl (none, is))
bad_first before text fault few (no_value none is) = inl (inr (none, is))
bad_first before text fault few (too_many tag rest stands full is) = absurd (omega (arith, few, full))
bad_first before text fault few (repeated tag rest stands room twice is) = inr ((tag, rest), stands, inl (twice, is))

bad_from : (before : List Tag) (text tag_text : List ℕ) (fault : LineFault) → length before < MAX_TAGS
    → text ≡ COMMA ∷ tag_text → HasBadTag before text fault
    → NoTag tag_text fault ⊎ ((tag : Tag × List ℕ) × IsTag tag_text tag.0 tag.1 × Fails before tag fault)
bad_from before text tag_text fault few whole ([], bad_text, are, bad) =
    bad_first before tag_text fault few (subst (λ (t : List ℕ). TagFault before t fault)
    (comma_is text tag_text bad_text whole are) (subst (λ (tags : List Tag). TagFault tags bad_text fault)
    (append-nil before) bad))
bad_from before text tag_text fault few whole (tag ∷ more, bad_text, are, bad) =
    inr (
      (tag, are.1),
      subst (λ (t : List ℕ). IsTag t tag are.1) (comma_is text tag_text are.0 whole are.2) are.3,
      inr (
        are.4.other,
        (
          more,
          bad_text,
          are.5,
          subst (λ (tags : List Tag). TagFault tags bad_text fault)
              (sym (append_assoc before (tag ∷ []) more)) bad,
        ),
      ),
    )

-- no room is left
full_good : (before : List Tag) (text : List ℕ) (tags : List Tag × List ℕ) (tag_text : List ℕ)
    → length before ≡ MAX_TAGS → text ≡ COMMA ∷ tag_text → HasTags before text tags → ⊥
full_good before text tags tag_text full whole ([], are, ended, all) =
    no_comma text tag_text whole (ap (begins COMMA) are ∙ ended)
full_good before text tags tag_text full whole (tag ∷ more, are, ended, all) = absurd (omega (arith, are.4.few, full))

full_to : (before : List Tag) (text tag_text : List ℕ) (fault : LineFault) → length before ≡ MAX_TAGS
    → text ≡ COMMA ∷ tag_text → NoTag tag_text fault
    ⊎ ((tag : Tag × List ℕ) × IsTag tag_text tag.0 tag.1 × (fault ≡ TooManyTags)) → HasBadTag before text fault
full_to before text tag_text fault full whole (inl none) =
    first_bad before text tag_text fault whole (no_tag_is before tag_text fault none)
full_to before text tag_text fault full whole (inr (tag, is, fails)) =
    first_bad before text tag_text fault whole (too_many tag.0 tag.1 is full fails)

full_first : (before : List Tag) (text : List ℕ) (fault : LineFault) → length before ≡ MAX_TAGS
    → TagFault before text fault → NoTag text fault
    ⊎ ((tag : Tag × List ℕ) × IsTag text tag.0 tag.1 × (fault ≡ TooManyTags))
full_first before text fault full (no_key none is) = inl (inl (none, is))
full_first before text fault full (no_value none is) = inl (inr (none, is))
full_first before text fault full (too_many tag rest stands room is) = inr ((tag, rest), stands, is)
full_first before text fault full (repeated tag rest stands room twice is) = absurd (omega (arith, full, room))

full_from : (before : List Tag) (text tag_text : List ℕ) (fault : LineFault) → length before ≡ MAX_TAGS
    → text ≡ COMMA ∷ tag_text → HasBadTag before text fault
    → NoTag tag_text fault ⊎ ((tag : Tag × List ℕ) × IsTag tag_text tag.0 tag.1 × (fault ≡ TooManyTags))
full_from before text tag_text fault full whole ([], bad_text, are, bad) =
    full_first before tag_text fault full (subst (λ (t : List ℕ). TagFault before t fault)
    (comma_is text tag_text bad_text whole are) (subst (λ (tags : List Tag). TagFault tags bad_text fault)
    (append-nil before) bad))
full_from before text tag_text fault full whole (tag ∷ more, bad_text, are, bad) =
    absurd (omega (arith, are.4.few, full))

pub tags_agree : (room : ℕ) (before : List Tag) (text : List ℕ) → room + length before ≡ MAX_TAGS
    → Agrees (tags_at room before text) (HasTags before text) (HasBadTag before text)
tags_agree zero before text left = at (strip COMMA text) refl
  where
    full : length before ≡ MAX_TAGS
    full = omega (arith, left)

    at : (o : Option (List ℕ)) → strip COMMA text ≡ o
        → Agrees (after_comma o (Ok (before, text)) (λ tag_text. tag_at tag_text >>= λ tag. Err TooManyTags))
        (HasTags before text) (HasBadTag before text)
    at None e = no_more before text e
    at (Some tag_text) e =
        let whole = strip_some COMMA text tag_text e in
        Agrees-as (tag_at tag_text >>= λ tag. Err TooManyTags) _ _ _ _ (λ tags h. absurd h.2)
        (λ tags h. absurd (full_good before text tags tag_text full whole h))
        (λ fault. full_to before text tag_text fault full whole)
        (λ fault. full_from before text tag_text fault full whole)
        (Agrees-bind (tag_at tag_text) (λ tag. Err TooManyTags) (λ tag. IsTag tag_text tag.0 tag.1) (NoTag tag_text)
        (λ tag tags. ⊥) (λ tag fault. fault ≡ TooManyTags) (tag_agrees tag_text) (λ tag is. Agrees-err TooManyTags))
tags_agree (suc room) before text left = at (strip COMMA text) refl
    (λ tag rest. tags_agree room (before ++ tag ∷ []) rest (omega (arith, left, length-append before (tag ∷ []))))
  where
    few : length before < MAX_TAGS
    few = omega (arith, left)

    rest_of : Tag × List ℕ → Result (List Tag × List ℕ) LineFault
    rest_of tag = unless DuplicateTag (has_key before tag.0.0) (tags_at room (before ++ tag.0 ∷ []) tag.1)

    at : (o : Option (List ℕ)) → strip COMMA text ≡ o
        → ((tag : Tag) (rest : List ℕ) → Agrees (tags_at room (before ++ tag ∷ []) rest)
        (HasTags (before ++ tag ∷ []) rest) (HasBadTag (before ++ tag ∷ []) rest))
        → Agrees (after_comma o (Ok (before, text)) (λ tag_text. tag_at tag_text >>= rest_of)) (HasTags before text)
        (HasBadTag before text)
    at None e later = no_more before text e
    at (Some tag_text) e later =
        let whole = strip_some COMMA text tag_text e in
        Agrees-as (tag_at tag_text >>= rest_of) _ _ _ _ (λ tags. tags_to before text tag_text tags few whole)
        (λ tags. tags_from before text tag_text tags whole) (λ fault. bad_to before text tag_text fault few whole)
        (λ fault. bad_from before text tag_text fault few whole)
        (Agrees-bind (tag_at tag_text) rest_of (λ tag. IsTag tag_text tag.0 tag.1) (NoTag tag_text) (Then before)
        (Fails before) (tag_agrees tag_text) (λ tag is.
        Agrees-unless DuplicateTag (has_key before tag.0.0) (tags_at room (before ++ tag.0 ∷ []) tag.1) _ _
        (λ other. later tag.0 tag.1)))
