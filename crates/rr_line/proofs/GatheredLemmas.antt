-- What a loop has gathered, and what it still will.
use Rattle.std.proofs.Common.{◌≡◌, ℕ, zero, suc, ◌+◌, ◌-◌, ◌<◌, true, false, List, [], ◌∷◌, ◌++◌, length, map, length-append, Some, None, Result, Ok, Err, refl, sym, ap, ◌∙◌, arith}
use Rattle.std.proofs.lemmas.List.{map-append}
use Rattle.std.specs.Borrow.{Bor}
use Rattle.std.specs.Map.{keys_of}
use Rattle.rr_text.specs.Bytes.{strip, has_repeat}
use Rattle.rr_text.specs.Results.{◌>>=◌, unless}
use Rattle.rr_text.specs.declared.limits.TheConstants.{MAX_TAGS, MAX_FIELDS}
use Rattle.rr_text.specs.declared.bytes.TheConstants.{COMMA}
use Rattle.rr_line.specs.declared.fault.LineFault.{LineFault}
use Rattle.rr_line.specs.declared.fault.LineFault.TheVariants.{TooManyTags, DuplicateTag, TooManyFields, DuplicateField}
use Rattle.rr_point.specs.declared.point.Field as line_field
use Rattle.rr_point.specs.declared.point.Tag as line_tag
use Rattle.rr_line.specs.Field.{Field}
use Rattle.rr_line.specs.Answer.{rest_view}
use Rattle.rr_line.specs.Gathering.{without_repeat, gathered_tags, gathered_fields, all_gathered_tags, all_gathered_fields}
use Rattle.rr_point.specs.Point.{tag_view, tags_view, field_view, fields_view}
use Rattle.rr_line.specs.Reading.{tag_at, all_tags_at, field_at, all_fields_at}
use Rattle.rr_line.specs.Tag.{Tag}
use Rattle.rr_line.proofs.GatherLemmas.{tags_gathered, fields_gathered}

-- tags and fields as they are held
abbrev HeldTag : Type 0
HeldTag = line_tag.Tag

abbrev HeldField : Type 0
HeldField = line_field.Field

-- why nothing follows what is gathered, and what follows it
abbrev pub the_fault : LineFault → Result (List ℕ) LineFault
the_fault fault = Err fault

abbrev pub the_rest : List ℕ → Result (List ℕ) LineFault
the_rest rest = Ok rest

-- after these tags as many more are gathered as there is room for
abbrev pub GathersTags : List HeldTag → List ℕ → List ℕ → Type 0
GathersTags tags left text = (room : ℕ) × (room + length tags ≡ MAX_TAGS)
    × (gathered_tags room (tags_view tags) left ≡ all_gathered_tags text)

abbrev pub GathersFields : List HeldField → List ℕ → List ℕ → Type 0
GathersFields fields left text = (room : ℕ) × (room + length fields ≡ MAX_FIELDS)
    × (gathered_fields room (fields_view fields) left ≡ all_gathered_fields text)

pub tags_begin : (tags : List HeldTag) (text : List ℕ) → tags ≡ [] → GathersTags tags text text
unfolding all_gathered_tags
tags_begin tags text none = (
  MAX_TAGS,
  rw none refl,
  ap (λ (held : List HeldTag). gathered_tags MAX_TAGS (tags_view held) text) none,
)

pub tags_stop : (tags : List HeldTag) (left text tag_text : List ℕ) (fault : LineFault) → GathersTags tags left text
    → strip COMMA left ≡ Some tag_text → tag_at tag_text ≡ Err fault
    → (tags_view tags, the_fault fault) ≡ all_gathered_tags text
tags_stop tags left text tag_text fault (zero, room, same) there bad = sym (rw (there, bad) refl) ∙ same
tags_stop tags left text tag_text fault (suc room, some, same) there bad = sym (rw (there, bad) refl) ∙ same

pub tags_full : (tags : List HeldTag) (left text tag_text : List ℕ) (tag : Tag × List ℕ) → GathersTags tags left text
    → strip COMMA left ≡ Some tag_text → tag_at tag_text ≡ Ok tag → length tags ≡ MAX_TAGS
    → (tags_view tags, the_fault TooManyTags) ≡ all_gathered_tags text
tags_full tags left text tag_text tag (zero, room, same) there good full = sym (rw (there, good) refl) ∙ same
tags_full tags left text tag_text tag (suc room, some, same) there good full = absurd (omega (arith, some, full))

pub tags_go_on : (tags more : List HeldTag) (left text tag_text : List ℕ) (held : HeldTag) (rest : List ℕ)
    → GathersTags tags left text → strip COMMA left ≡ Some tag_text → tag_at tag_text ≡ Ok (tag_view held, rest)
    → (length tags ≡ MAX_TAGS → ⊥) → more ≡ tags ++ held ∷ [] → GathersTags more rest text
tags_go_on tags more left text tag_text held rest (zero, room, same) there good room_left is =
    absurd (room_left (omega (arith, room)))
tags_go_on tags more left text tag_text held rest (suc room, some, same) there good room_left is =
    let grown : tags_view more ≡ tags_view tags ++ tag_view held ∷ [] = ap tags_view is
    ∙ map-append tag_view tags (held ∷ []) in (
      room,
      omega (arith, some, ap length is, length-append tags (held ∷ [])),
      ap (λ (before : List Tag). gathered_tags room before rest) grown ∙ sym (rw (there, good) refl) ∙ same,
    )

pub tags_end : (tags : List HeldTag) (left text : List ℕ) → GathersTags tags left text → strip COMMA left ≡ None
    → (tags_view tags, the_rest left) ≡ all_gathered_tags text
tags_end tags left text (zero, room, same) none = sym (rw none refl) ∙ same
tags_end tags left text (suc room, some, same) none = sym (rw none refl) ∙ same

pub fields_begin : (fields : List HeldField) (text : List ℕ) → fields ≡ [] → GathersFields fields text text
unfolding all_gathered_fields
fields_begin fields text none = (
  MAX_FIELDS,
  rw none refl,
  ap (λ (held : List HeldField). gathered_fields MAX_FIELDS (fields_view held) text) none,
)

pub fields_stop : (fields : List HeldField) (left text : List ℕ) (fault : LineFault) → GathersFields fields left text
    → field_at left ≡ Err fault → (fields_view fields, the_fault fault) ≡ all_gathered_fields text
fields_stop fields left text fault (zero, room, same) bad = sym (rw bad refl) ∙ same
fields_stop fields left text fault (suc room, some, same) bad = sym (rw bad refl) ∙ same

pub fields_full : (fields : List HeldField) (left text : List ℕ) (field : Field × List ℕ)
    → GathersFields fields left text → field_at left ≡ Ok field → length fields ≡ MAX_FIELDS
    → (fields_view fields, the_fault TooManyFields) ≡ all_gathered_fields text
fields_full fields left text field (zero, room, same) good full = sym (rw good refl) ∙ same
fields_full fields left text field (suc room, some, same) good full = absurd (omega (arith, some, full))

fields_grown : (fields more : List HeldField) (held : HeldField) → more ≡ fields ++ held ∷ []
    → fields_view more ≡ fields_view fields ++ field_view held ∷ []
fields_grown fields more held is = ap fields_view is ∙ map-append field_view fields (held ∷ [])

pub fields_go_on : (fields more : List HeldField) (left text : List ℕ) (held : HeldField) (rest next : List ℕ)
    → GathersFields fields left text → field_at left ≡ Ok (field_view held, rest) → (length fields ≡ MAX_FIELDS → ⊥)
    → more ≡ fields ++ held ∷ [] → strip COMMA rest ≡ Some next → GathersFields more next text
fields_go_on fields more left text held rest next (zero, room, same) good room_left is there =
    absurd (room_left (omega (arith, room)))
fields_go_on fields more left text held rest next (suc room, some, same) good room_left is there = (
  room,
  omega (arith, some, ap length is, length-append fields (held ∷ [])),
  ap (λ (before : List Field). gathered_fields room before next) (fields_grown fields more held is)
      ∙ sym (rw (good, there) refl) ∙ same,
)

pub fields_end : (fields more : List HeldField) (left text : List ℕ) (held : HeldField) (rest : List ℕ)
    → GathersFields fields left text → field_at left ≡ Ok (field_view held, rest) → (length fields ≡ MAX_FIELDS → ⊥)
    → more ≡ fields ++ held ∷ [] → strip COMMA rest ≡ None
    → (fields_view more, the_rest rest) ≡ all_gathered_fields text
fields_end fields more left text held rest (zero, room, same) good room_left is none =
    absurd (room_left (omega (arith, room)))
fields_end fields more left text held rest (suc room, some, same) good room_left is none =
    ap (λ (held : List Field). (held, the_rest rest)) (fields_grown fields more held is) ∙ sym (rw (good, none) refl)
    ∙ same

-- one part more leaves less room
pub fewer_left : {A : Type 0} (most : ℕ) (parts more : List A) (part : A) (room : ℕ) → room + length parts ≡ most
    → (length parts ≡ most → ⊥) → more ≡ parts ++ part ∷ [] → most - length more < most - length parts
fewer_left most parts more part zero left some is = absurd (some (omega (arith, left)))
fewer_left most parts more part (suc room) left some is =
    omega (arith, left, ap length is, length-append parts (part ∷ []))

tag_keys : (tags : List HeldTag) → keys_of (tags_view tags) ≡ map (λ (tag : HeldTag). tag.key.now) tags
tag_keys [] = refl
tag_keys (tag ∷ tags) = ap (λ (keys : List (List ℕ)). tag.key.now ∷ keys) (tag_keys tags)

field_keys : (fields : List HeldField) → keys_of (fields_view fields)
    ≡ map (λ (field : HeldField). field.key.now) fields
field_keys [] = refl
field_keys (field ∷ fields) = ap (λ (keys : List (List ℕ)). field.key.now ∷ keys) (field_keys fields)

-- what is read of tags that are gathered, by whether a key occurs twice among those that are held
tags_read : (tags : List HeldTag) (rest : Result (List ℕ) LineFault) (text : List ℕ)
    → (tags_view tags, rest) ≡ all_gathered_tags text
    → all_tags_at text ≡ unless DuplicateTag (has_repeat (map (λ (tag : HeldTag). tag.key.now) tags))
    (rest >>= λ r. Ok (tags_view tags, r))
unfolding all_gathered_tags all_tags_at
tags_read tags rest text e =
    tags_gathered MAX_TAGS [] text refl ∙ ap (without_repeat DuplicateTag) (sym e)
    ∙ ap (λ (keys : List (List ℕ)). unless DuplicateTag (has_repeat keys) (rest >>= λ r. Ok (tags_view tags, r)))
    (tag_keys tags)

fields_read : (fields : List HeldField) (rest : Result (List ℕ) LineFault) (text : List ℕ)
    → (fields_view fields, rest) ≡ all_gathered_fields text
    → all_fields_at text ≡ unless DuplicateField (has_repeat (map (λ (field : HeldField). field.key.now) fields))
    (rest >>= λ r. Ok (fields_view fields, r))
unfolding all_gathered_fields all_fields_at
fields_read fields rest text e =
    fields_gathered MAX_FIELDS [] text refl ∙ ap (without_repeat DuplicateField) (sym e)
    ∙ ap (λ (keys : List (List ℕ)). unless DuplicateField (has_repeat keys) (rest >>= λ r. Ok (fields_view fields, r)))
    (field_keys fields)

-- the three cases: a key occurs twice, the rest is refused, or it is not
pub tags_repeat : (tags held : List HeldTag) (rest : Result (Bor (List ℕ)) LineFault) (text : List ℕ)
    → (tags_view tags, rest_view rest) ≡ all_gathered_tags text → held ≡ tags
    → true ≡ has_repeat (map (λ (tag : HeldTag). tag.key.now) held) → all_tags_at text ≡ Err DuplicateTag
tags_repeat tags held rest text e is twice = tags_read tags (rest_view rest) text e ∙ rw (sym is, sym twice) refl

pub tags_refused : (tags held : List HeldTag) (rest : Result (Bor (List ℕ)) LineFault) (fault : LineFault)
    (text : List ℕ) → (tags_view tags, rest_view rest) ≡ all_gathered_tags text → held ≡ tags
    → false ≡ has_repeat (map (λ (tag : HeldTag). tag.key.now) held) → rest ≡ Err fault → all_tags_at text ≡ Err fault
tags_refused tags held rest fault text e is once refused = tags_read tags (rest_view rest) text e
    ∙ rw (refused, ap (λ (l : List HeldTag). has_repeat (map (λ (tag : HeldTag). tag.key.now) l)) (sym is), sym once)
    refl

pub tags_good : (tags held : List HeldTag) (rest : Result (Bor (List ℕ)) LineFault) (left : Bor (List ℕ))
    (text : List ℕ) → (tags_view tags, rest_view rest) ≡ all_gathered_tags text → held ≡ tags
    → false ≡ has_repeat (map (λ (tag : HeldTag). tag.key.now) held) → rest ≡ Ok left
    → all_tags_at text ≡ Ok (tags_view tags, left.now)
tags_good tags held rest left text e is once good = tags_read tags (rest_view rest) text e
    ∙ rw (good, ap (λ (l : List HeldTag). has_repeat (map (λ (tag : HeldTag). tag.key.now) l)) (sym is), sym once) refl

pub fields_repeat : (fields held : List HeldField) (rest : Result (Bor (List ℕ)) LineFault) (text : List ℕ)
    → (fields_view fields, rest_view rest) ≡ all_gathered_fields text → held ≡ fields
    → true ≡ has_repeat (map (λ (field : HeldField). field.key.now) held) → all_fields_at text ≡ Err DuplicateField
fields_repeat fields held rest text e is twice = fields_read fields (rest_view rest) text e
    ∙ rw (sym is, sym twice) refl

pub fields_refused : (fields held : List HeldField) (rest : Result (Bor (List ℕ)) LineFault) (fault : LineFault)
    (text : List ℕ) → (fields_view fields, rest_view rest) ≡ all_gathered_fields text → held ≡ fields
    → false ≡ has_repeat (map (λ (field : HeldField). field.key.now) held) → rest ≡ Err fault
    → all_fields_at text ≡ Err fault
fields_refused fields held rest fault text e is once refused = fields_read fields (rest_view rest) text e
    ∙ rw (
      refused,
      ap (λ (l : List HeldField). has_repeat (map (λ (field : HeldField). field.key.now) l)) (sym is),
      sym once,
    ) refl

pub fields_good : (fields held : List HeldField) (rest : Result (Bor (List ℕ)) LineFault) (left : Bor (List ℕ))
    (text : List ℕ) → (fields_view fields, rest_view rest) ≡ all_gathered_fields text → held ≡ fields
    → false ≡ has_repeat (map (λ (field : HeldField). field.key.now) held) → rest ≡ Ok left
    → all_fields_at text ≡ Ok (fields_view fields, left.now)
fields_good fields held rest left text e is once good = fields_read fields (rest_view rest) text e
    ∙ rw (
      good,
      ap (λ (l : List HeldField). has_repeat (map (λ (field : HeldField). field.key.now) l)) (sym is),
      sym once,
    ) refl
