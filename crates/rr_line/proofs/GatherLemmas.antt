-- Repeated keys may be looked for once, after the last part that is good.
use Rattle.std.proofs.Common.{◌≡◌, ℕ, zero, suc, true, false, List, [], ◌∷◌, ◌++◌, Option, Some, None, Result, Ok, Err, refl, sym, ap, ◌∙◌, inl, inr}
use Rattle.std.proofs.lemmas.Bool.{cases_Bool}
use Rattle.std.proofs.lemmas.List.{append-nil, append_assoc}
use Rattle.rr_text.specs.Bytes.{strip}
use Rattle.rr_text.specs.Results.{◌>>=◌, unless}
use Rattle.rr_text.specs.declared.bytes.TheConstants.{COMMA}
use Rattle.rr_line.specs.declared.fault.LineFault.{LineFault}
use Rattle.rr_line.specs.declared.fault.LineFault.TheVariants.{TooManyTags, DuplicateTag, TooManyFields, DuplicateField}
use Rattle.rr_line.specs.Field.{Field}
use Rattle.rr_line.specs.Gathering.{Gathered, gather, repeats_key, gathered_tags, gathered_fields, without_repeat}
use Rattle.rr_line.specs.Reading.{after_comma, tag_at, tags_at, field_at, fields_at}
use Rattle.rr_line.specs.Tag.{Tag, has_key}
use Rattle.rr_line.proofs.AgreeLemmas.{just_refused}
use Rattle.rr_line.proofs.RepeatLemmas.{repeats_key-again, repeats_key-new}

-- what is gathered begins with what was there
abbrev Begins : {A : Type 0} → List A → List A → Type 0
Begins {A} before all = (more : List A) × (all ≡ before ++ more)

tags_grow : (room : ℕ) (before : List Tag) (text : List ℕ) → Begins before (gathered_tags room before text).0
tags_grow zero before text = at (strip COMMA text)
  where
    one : (read : Result (Tag × List ℕ) LineFault)
        → Begins before (gather before read (λ tag rest. (before, Err TooManyTags))).0
    one (Ok tag) = ([], sym (append-nil before))
    one (Err fault) = ([], sym (append-nil before))

    at : (o : Option (List ℕ)) → Begins before (after_comma o (before, Ok text)
        (λ tag_text. gather before (tag_at tag_text) (λ tag rest. (before, Err TooManyTags)))).0
    at None = ([], sym (append-nil before))
    at (Some tag_text) = one (tag_at tag_text)
tags_grow (suc room) before text = at (strip COMMA text) (λ tag rest. tags_grow room (before ++ tag ∷ []) rest)
  where
    one : (read : Result (Tag × List ℕ) LineFault)
        → ((tag : Tag) (rest : List ℕ) → Begins (before ++ tag ∷ []) (gathered_tags room (before ++ tag ∷ []) rest).0)
        → Begins before (gather before read (λ tag rest. gathered_tags room (before ++ tag ∷ []) rest)).0
    one (Ok (tag, rest)) later = let grown = later tag rest in
        (tag ∷ grown.0, grown.1 ∙ append_assoc before (tag ∷ []) grown.0)
    one (Err fault) later = ([], sym (append-nil before))

    at : (o : Option (List ℕ)) → ((tag : Tag) (rest : List ℕ)
        → Begins (before ++ tag ∷ []) (gathered_tags room (before ++ tag ∷ []) rest).0)
        → Begins before (after_comma o (before, Ok text)
        (λ tag_text. gather before (tag_at tag_text) (λ tag rest. gathered_tags room (before ++ tag ∷ []) rest))).0
    at None later = ([], sym (append-nil before))
    at (Some tag_text) later = one (tag_at tag_text) later

-- a repeat among what was gathered is the fault
twice : {X : Type 0} (fault : LineFault) (gathered : Gathered (List ℕ × X)) → repeats_key gathered.0 ≡ true
    → without_repeat fault gathered ≡ Err fault
twice fault gathered h = rw h refl

twice_of : {X : Type 0} (fault : LineFault) (before : List (List ℕ × X)) (entry : List ℕ × X)
    (gathered : Gathered (List ℕ × X)) → has_key before entry.0 ≡ true → Begins (before ++ entry ∷ []) gathered.0
    → without_repeat fault gathered ≡ Err fault
twice_of fault before entry gathered h grown = twice fault gathered
    (ap repeats_key grown.1 ∙ repeats_key-again before grown.0 entry h)

-- the tags that are read are those that are gathered, unless a key occurs twice
pub tags_gathered : (room : ℕ) (before : List Tag) (text : List ℕ) → repeats_key before ≡ false
    → tags_at room before text ≡ without_repeat DuplicateTag (gathered_tags room before text)
tags_gathered zero before text h = at (strip COMMA text)
  where
    one : (read : Result (Tag × List ℕ) LineFault)
        → (read >>= λ tag. just_refused {A = List Tag × List ℕ} TooManyTags)
        ≡ without_repeat DuplicateTag (gather before read (λ tag rest. (before, Err TooManyTags)))
    one (Ok tag) = rw h refl
    one (Err fault) = rw h refl

    at : (o : Option (List ℕ)) → after_comma o (Ok (before, text))
        (λ tag_text. tag_at tag_text >>= λ tag. just_refused TooManyTags)
        ≡ without_repeat DuplicateTag (after_comma o (before, Ok text)
        (λ tag_text. gather before (tag_at tag_text) (λ tag rest. (before, Err TooManyTags))))
    at None = rw h refl
    at (Some tag_text) = one (tag_at tag_text)
tags_gathered (suc room) before text h = at (strip COMMA text)
    (λ tag rest none. tags_gathered room (before ++ tag ∷ []) rest none)
  where
    Later : Type 0
    Later = (tag : Tag) (rest : List ℕ) → repeats_key (before ++ tag ∷ []) ≡ false
        → tags_at room (before ++ tag ∷ []) rest ≡ without_repeat DuplicateTag
        (gathered_tags room (before ++ tag ∷ []) rest)

    one : (read : Result (Tag × List ℕ) LineFault) → Later
        → (read >>= λ tag. unless DuplicateTag (has_key before tag.0.0) (tags_at room (before ++ tag.0 ∷ []) tag.1))
        ≡ without_repeat DuplicateTag (gather before read (λ tag rest. gathered_tags room (before ++ tag ∷ []) rest))
    one (Err fault) later = rw h refl
    one (Ok (tag, rest)) later =
        elim (cases_Bool (has_key before tag.0)) [
          | inl stood ↦ rw stood (sym (twice_of DuplicateTag before tag (gathered_tags room (before ++ tag ∷ []) rest)
              stood (tags_grow room (before ++ tag ∷ []) rest)))
          | inr new ↦ rw new (later tag rest (repeats_key-new before tag h new))
        ]

    at : (o : Option (List ℕ)) → Later → after_comma o (Ok (before, text))
        (λ tag_text. tag_at tag_text >>= λ tag. unless DuplicateTag (has_key before tag.0.0)
        (tags_at room (before ++ tag.0 ∷ []) tag.1))
        ≡ without_repeat DuplicateTag (after_comma o (before, Ok text)
        (λ tag_text. gather before (tag_at tag_text) (λ tag rest. gathered_tags room (before ++ tag ∷ []) rest)))
    at None later = rw h refl
    at (Some tag_text) later = one (tag_at tag_text) later

fields_grow : (room : ℕ) (before : List Field) (text : List ℕ) → Begins before (gathered_fields room before text).0
fields_grow zero before text = one (field_at text)
  where
    one : (read : Result (Field × List ℕ) LineFault)
        → Begins before (gather before read (λ field rest. (before, Err TooManyFields))).0
    one (Ok field) = ([], sym (append-nil before))
    one (Err fault) = ([], sym (append-nil before))
fields_grow (suc room) before text = one (field_at text) (λ field rest. fields_grow room (before ++ field ∷ []) rest)
  where
    Later : Type 0
    Later = (field : Field) (rest : List ℕ) → Begins (before ++ field ∷ [])
        (gathered_fields room (before ++ field ∷ []) rest).0

    end : (field : Field) (rest : List ℕ) (o : Option (List ℕ)) → Later
        → Begins before (after_comma o (before ++ field ∷ [], Ok rest)
        (λ next. gathered_fields room (before ++ field ∷ []) next)).0
    end field rest None later = (field ∷ [], refl)
    end field rest (Some next) later = let grown = later field next in
        (field ∷ grown.0, grown.1 ∙ append_assoc before (field ∷ []) grown.0)

    one : (read : Result (Field × List ℕ) LineFault) → Later
        → Begins before (gather before read (λ field rest. after_comma (strip COMMA rest)
        (before ++ field ∷ [], Ok rest) (λ next. gathered_fields room (before ++ field ∷ []) next))).0
    one (Ok (field, rest)) later = end field rest (strip COMMA rest) later
    one (Err fault) later = ([], sym (append-nil before))

-- the fields after one that is good
abbrev gathered_behind : ℕ → List Field → Field → List ℕ → Gathered Field
gathered_behind room before field rest = after_comma (strip COMMA rest) (before ++ field ∷ [], Ok rest)
    (λ next. gathered_fields room (before ++ field ∷ []) next)

abbrev read_behind : ℕ → List Field → Field → List ℕ → Result (List Field × List ℕ) LineFault
read_behind room before field rest = after_comma (strip COMMA rest) (Ok (before ++ field ∷ [], rest))
    (λ next. fields_at room (before ++ field ∷ []) next)

behind_grows : (room : ℕ) (before : List Field) (field : Field) (rest : List ℕ)
    → Begins (before ++ field ∷ []) (gathered_behind room before field rest).0
behind_grows room before field rest = at (strip COMMA rest)
  where
    at : (o : Option (List ℕ)) → Begins (before ++ field ∷ [])
        (after_comma o (before ++ field ∷ [], Ok rest) (λ next. gathered_fields room (before ++ field ∷ []) next)).0
    at None = ([], sym (append-nil (before ++ field ∷ [])))
    at (Some next) = fields_grow room (before ++ field ∷ []) next

-- the fields that are read are those that are gathered, unless a key occurs twice
pub fields_gathered : (room : ℕ) (before : List Field) (text : List ℕ) → repeats_key before ≡ false
    → fields_at room before text ≡ without_repeat DuplicateField (gathered_fields room before text)
fields_gathered zero before text h = one (field_at text)
  where
    one : (read : Result (Field × List ℕ) LineFault)
        → (read >>= λ field. just_refused {A = List Field × List ℕ} TooManyFields)
        ≡ without_repeat DuplicateField (gather before read (λ field rest. (before, Err TooManyFields)))
    one (Ok field) = rw h refl
    one (Err fault) = rw h refl
fields_gathered (suc room) before text h = one (field_at text)
    (λ field next none. fields_gathered room (before ++ field ∷ []) next none)
  where
    Later : Type 0
    Later = (field : Field) (next : List ℕ) → repeats_key (before ++ field ∷ []) ≡ false
        → fields_at room (before ++ field ∷ []) next
        ≡ without_repeat DuplicateField (gathered_fields room (before ++ field ∷ []) next)

    at : (field : Field) (rest : List ℕ) (o : Option (List ℕ)) → repeats_key (before ++ field ∷ []) ≡ false → Later
        → after_comma o (Ok (before ++ field ∷ [], rest)) (λ next. fields_at room (before ++ field ∷ []) next)
        ≡ without_repeat DuplicateField (after_comma o (before ++ field ∷ [], Ok rest)
        (λ next. gathered_fields room (before ++ field ∷ []) next))
    at field rest None none later = rw none refl
    at field rest (Some next) none later = later field next none

    one : (read : Result (Field × List ℕ) LineFault) → Later
        → (read >>= λ field. unless DuplicateField (has_key before field.0.0) (read_behind room before field.0 field.1))
        ≡ without_repeat DuplicateField (gather before read (gathered_behind room before))
    one (Err fault) later = rw h refl
    one (Ok (field, rest)) later =
        elim (cases_Bool (has_key before field.0)) [
          | inl stood ↦ rw stood (sym (twice_of DuplicateField before field (gathered_behind room before field rest)
              stood (behind_grows room before field rest)))
          | inr new ↦ rw new (at field rest (strip COMMA rest) (repeats_key-new before field h new) later)
        ]
