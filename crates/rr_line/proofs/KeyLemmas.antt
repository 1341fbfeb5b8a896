-- The names of a point make keys, and how long these are.
use Rattle.std.proofs.Common.{◌≡◌, ℕ, suc, ◌+◌, ◌<◌, ◌≤◌, Bool, true, false, not, eqb, ltb, ◌||◌, List, [], ◌∷◌, ◌++◌, length, length-append, map, None, refl, sym, ap, ap₂, subst, ◌∙◌, inl, inr, arith}
use Rattle.std.proofs.lemmas.Bool.{cases_Bool, or_parts, and_parts, not-true, false≢true, le-ltb}
use Rattle.std.proofs.lemmas.Cmp.{nat_list_cmp_total, eq_by_cmp_equiv}
use Rattle.std.proofs.lemmas.List.{append-nil, append_assoc}
use Rattle.std.specs.FinMap.{entries, from_entries}
use Rattle.std.specs.List.{flat_map, list_any, AllByRecursion}
use Rattle.std.specs.Map.{keys_of}
use Rattle.std.specs.Ordering.{is_eq}
use Rattle.std.specs.declared.cmp.Ordering.{Ordering}
use Rattle.std.specs.declared.cmp.Ordering.TheVariants.{Less, Equal, Greater}
use Rattle.rr_text.proofs.RepeatLemmas.{same_turned}
use Rattle.rr_text.specs.Bytes.{has_repeat, bytes_cmp, HasNoLineFeed, is_among}
use Rattle.rr_text.specs.declared.limits.TheConstants.{MAX_KEY_TEXT, MAX_TAGS}
use Rattle.rr_key.specs.declared.class.Class.TheVariants.{Measurement, Other}
use Rattle.rr_key.specs.Making as making
use Rattle.rr_key.specs.Name.{is_empty, is_bad, is_name}
use Rattle.rr_key.specs.Series.{tag_text}
use Rattle.rr_key.specs.Unit.{escape, unescape}
use Rattle.rr_key.proofs.OrderLemmas.{same_key}
use Rattle.rr_text.specs.declared.bytes.TheConstants.{EQUALS, COMMA, SPACE}
use Rattle.rr_line.specs.declared.precision.Precision.{Precision}
use Rattle.rr_line.specs.Field.{Field, IsField, LeadTo, AreFields}
use Rattle.rr_line.specs.Gathering.{repeats_key}
use Rattle.rr_line.specs.Grammar.{LeadsToTags, LeadsToFields, HasParts}
use Rattle.rr_point.specs.Key.{names_of, key_text, has_long_key, HasKeys}
use Rattle.rr_point.specs.Point.{PointView}
use Rattle.rr_line.specs.Part.{skip_spaces}
use Rattle.rr_line.specs.Tag.{Tag, AreTags}
use Rattle.rr_line.proofs.NameLemmas.{IsGood, name_is_good, none_in_parts}
use Rattle.rr_line.proofs.RepeatLemmas.{repeats_key-new}
use Rattle.rr_line.proofs.SizeLemmas.{size, size-entries}

-- the tags of a series, unescaped
abbrev unescaped : List Tag → List Tag
unescaped tags = map (λ tag. (unescape Other tag.0, unescape Other tag.1)) tags

-- how many bytes tags take
abbrev pub tags_len : List Tag → ℕ
tags_len [] = 0
tags_len (tag ∷ tags) = length tag.0 + length tag.1 + 2 + tags_len tags

abbrev pub AreGood : List Tag → Type 0
AreGood tags = AllByRecursion (λ tag. IsGood Other tag.0 × IsGood Other tag.1) tags

-- what tags leave of a text
pub tags_leave : (before : List Tag) (text : List ℕ) (tags : List Tag) (rest : List ℕ) → AreTags before text tags rest
    → length text ≡ tags_len tags + length rest
tags_leave before text [] rest are = omega (arith, ap length are)
tags_leave before text (tag ∷ tags) rest (inner, next, whole, is, may, later) =
    omega (
      arith,
      ap length whole,
      ap length is.key.whole,
      length-append tag.0 (EQUALS ∷ is.value_text),
      ap length is.value.whole,
      length-append tag.1 next,
      tags_leave (before ++ tag ∷ []) next tags rest later,
    )

-- no line feed is after a tag either
none_behind_first : (first : ℕ) (text rest : List ℕ) → HasNoLineFeed text → text ≡ first ∷ rest → HasNoLineFeed rest
none_behind_first first text rest none whole = (none_in_parts (first ∷ []) rest (subst HasNoLineFeed whole none)).1

tags_good : (before : List Tag) (text : List ℕ) (tags : List Tag) (rest : List ℕ) → HasNoLineFeed text
    → AreTags before text tags rest → 0 < length rest → AreGood tags × HasNoLineFeed rest
tags_good before text [] rest none are some = (tt, subst HasNoLineFeed are none)
tags_good before text (tag ∷ tags) rest none (inner, next, whole, is, may, later) some =
    let none_here = none_behind_first COMMA text inner none whole in
    let key = name_is_good Other inner tag.0 (EQUALS ∷ is.value_text) none_here is.key (omega arith) in
    let none_value = none_behind_first EQUALS (EQUALS ∷ is.value_text) is.value_text key.1 refl in
    let left : 0 < length next = omega (arith, some, tags_leave (before ++ tag ∷ []) next tags rest later) in
    let value = name_is_good Other is.value_text tag.1 next none_value is.value left in
    let others = tags_good (before ++ tag ∷ []) next tags rest value.1 later some in
    (((key.0, value.0), others.0), others.1)

-- tags that follow one another differ
tags_once : (before : List Tag) (text : List ℕ) (tags : List Tag) (rest : List ℕ) → AreTags before text tags rest
    → repeats_key before ≡ false → repeats_key (before ++ tags) ≡ false
tags_once before text [] rest are h = ap repeats_key (append-nil before) ∙ h
tags_once before text (tag ∷ tags) rest (inner, next, whole, is, may, later) h =
    ap repeats_key (sym (append_assoc before (tag ∷ []) tags))
    ∙ tags_once (before ++ tag ∷ []) next tags rest later (repeats_key-new before tag h may.other)

tags_few : (before : List Tag) (text : List ℕ) (tags : List Tag) (rest : List ℕ) → AreTags before text tags rest
    → length before ≤ MAX_TAGS → length before + length tags ≤ MAX_TAGS
tags_few before text [] rest are few = omega (arith, few)
tags_few before text (tag ∷ tags) rest (inner, next, whole, is, may, later) few =
    let one = length-append before (tag ∷ []) in
    let rest_few = tags_few (before ++ tag ∷ []) next tags rest later (omega (arith, may.few, one)) in
    omega (arith, rest_few, one)

equal : (o : Ordering) → is_eq o ≡ true → o ≡ Equal
equal Less e = absurd cc
equal Equal e = refl
equal Greater e = absurd cc

-- names that are one unescaped are one
one_written : (name other : List ℕ) → IsGood Other name → IsGood Other other
    → is_eq (bytes_cmp (unescape Other name) (unescape Other other)) ≡ true → is_eq (bytes_cmp other name) ≡ true
one_written name other good fine e =
    let same : unescape Other name ≡ unescape Other other =
    same_key (unescape Other name) (unescape Other other) (equal _ e) in
    let spelled : other ≡ name = sym fine.written ∙ ap (escape Other) (sym same) ∙ good.written in
    ap (λ (n : List ℕ). is_eq (bytes_cmp n name)) spelled ∙ (eq_by_cmp_equiv nat_list_cmp_total).refl name

still_new : (name : List ℕ) (tags : List Tag) → IsGood Other name → AreGood tags → is_among name (keys_of tags) ≡ false
    → is_among (unescape Other name) (keys_of (unescaped tags)) ≡ false
still_new name [] good others h = refl
still_new name (tag ∷ tags) good others h =
    let parts = or_parts (is_eq (bytes_cmp tag.0 name)) (is_among name (keys_of tags)) h in
    elim (cases_Bool (is_eq (bytes_cmp (unescape Other tag.0) (unescape Other name)))) [
      | inl same ↦ absurd (false≢true (sym parts.0 ∙ one_written name tag.0 good others.0.0
          (same_turned (unescape Other tag.0) (unescape Other name) same)))
      | inr apart ↦ rw (apart, still_new name tags good others.1 parts.1) refl
    ]

once_unescaped : (tags : List Tag) → AreGood tags → repeats_key tags ≡ false
    → has_repeat (keys_of (unescaped tags)) ≡ false
once_unescaped [] good h = refl
once_unescaped (tag ∷ tags) good h =
    let parts = or_parts (is_among tag.0 (keys_of tags)) (repeats_key tags) h in
    rw (still_new tag.0 tags good.0.0 good.1 parts.0, once_unescaped tags good.1 parts.1) refl

tags_size : (tags : List Tag) → AreGood tags → size (unescaped tags) ≡ tags_len tags
tags_size [] good = refl
tags_size (tag ∷ tags) good =
    let key = ap length good.0.0.written in
    let value = ap length good.0.1.written in
    let unescaped_key = escape Other (unescape Other tag.0) in
    let unescaped_value = escape Other (unescape Other tag.1) in
    omega (
      arith,
      length-append (COMMA ∷ (unescaped_key ++ EQUALS ∷ unescaped_value))
          (flat_map tag_text (unescaped tags)),
      length-append unescaped_key (EQUALS ∷ unescaped_value),
      key,
      value,
      tags_size tags good.1,
    )

-- the names of a point but for its fields' keys
pub record HasGoodNames (measurement : List ℕ) (tags : List Tag) : Type 0 where
  pub measurement_good : IsGood Measurement measurement
  pub tags_are_good : AreGood tags
  pub once : has_repeat (keys_of (unescaped tags)) ≡ false
  pub few : length tags ≤ MAX_TAGS

pub good_names : (text measurement : List ℕ) (tags : List Tag) (rest : List ℕ) → HasNoLineFeed text
    → LeadsToTags text measurement tags rest → 0 < length rest → HasGoodNames measurement tags × HasNoLineFeed rest
good_names text measurement tags rest none h some =
    let left : 0 < length h.tags_text = omega (arith, some, tags_leave [] h.tags_text tags rest h.are_tags) in
    let name = name_is_good Measurement text measurement h.tags_text none h.name left in
    let good = tags_good [] h.tags_text tags rest name.1 h.are_tags some in (
      record {
        measurement_good = name.0;
        tags_are_good = good.0;
        once = once_unescaped tags good.0 (tags_once [] h.tags_text tags rest h.are_tags refl);
        few = omega (arith, tags_few [] h.tags_text tags rest h.are_tags (omega arith));
      },
      good.1,
    )

-- how many bytes precede what follows the tags
pub prefix_size : (text measurement : List ℕ) (tags : List Tag) (rest : List ℕ) → LeadsToTags text measurement tags rest
    → length text ≡ length measurement + tags_len tags + length rest
prefix_size text measurement tags rest h =
    omega (
      arith,
      ap length h.name.whole,
      length-append measurement h.tags_text,
      tags_leave [] h.tags_text tags rest h.are_tags,
    )

-- the length of a key text is that of its parts as the line writes them
pub key_size : (p : PointView) (field : List ℕ) → HasGoodNames p.measurement p.tags → IsGood Other field
    → length (key_text p field) ≡ length p.measurement + tags_len p.tags + 1 + length field
key_size p field names good =
    let m = escape Measurement (unescape Measurement p.measurement) in
    let f = escape Other (unescape Other field) in
    let tail = flat_map tag_text (entries (from_entries {R = bytes_cmp} (unescaped p.tags))) in
    omega (
      arith,
      length-append m (tail ++ 32 ∷ f),
      length-append tail (32 ∷ f),
      ap length names.measurement_good.written,
      ap length good.written,
      size-entries (unescaped p.tags) names.once,
      tags_size p.tags names.tags_are_good,
    )

-- the keys of fields
abbrev pub FieldsGood : List Field → Type 0
FieldsGood fields = AllByRecursion (λ field. IsGood Other field.0) fields

field_good : (text : List ℕ) (field : Field) (rest : List ℕ) → HasNoLineFeed text → IsField text field rest
    → IsGood Other field.0 × HasNoLineFeed rest
field_good text field rest none is =
    let key = name_is_good Other text field.0 (EQUALS ∷ is.value_text) none is.key (omega arith) in
    let none_value = none_behind_first EQUALS (EQUALS ∷ is.value_text) is.value_text key.1 refl in
    (key.0, (none_in_parts is.value.0 rest (subst HasNoLineFeed is.value.1.whole none_value)).1)

lead_good : (before : List Field) (text : List ℕ) (fields : List Field) (rest : List ℕ) → HasNoLineFeed text
    → LeadTo before text fields rest → FieldsGood fields × HasNoLineFeed rest
lead_good before text [] rest none leading = (tt, subst HasNoLineFeed leading none)
lead_good before text (field ∷ fields) rest none (next, is, may, later) =
    let first = field_good text field (COMMA ∷ next) none is in
    let others = lead_good (before ++ field ∷ []) next fields rest
    (none_behind_first COMMA (COMMA ∷ next) next first.1 refl) later in
    ((first.0, others.0), others.1)

one_more_good : (fields : List Field) (last : Field) → FieldsGood fields → IsGood Other last.0
    → FieldsGood (fields ++ last ∷ [])
one_more_good [] last good fine = (fine, tt)
one_more_good (field ∷ fields) last good fine = (good.0, one_more_good fields last good.1 fine)

pub fields_good : (text : List ℕ) (fields : List Field) (rest : List ℕ) → HasNoLineFeed text
    → AreFields text fields rest → FieldsGood fields
fields_good text fields rest none h =
    let prefix = lead_good [] text h.prefix h.last_text none h.leading in
    subst FieldsGood (sym h.all) (one_more_good h.prefix h.last prefix.0
    (field_good h.last_text h.last rest prefix.1 h.ends).0)

-- whether a key is too long, by what precedes the fields
pub long_by_size : (p : PointView) (prefix : ℕ) (fields : List Field) → HasGoodNames p.measurement p.tags
    → prefix ≡ length p.measurement + tags_len p.tags → FieldsGood fields
    → list_any (λ field. ltb MAX_KEY_TEXT (length (key_text p field.0))) fields
    ≡ list_any (λ field. ltb MAX_KEY_TEXT (prefix + 1 + length field.0)) fields
long_by_size p prefix [] names is good = refl
long_by_size p prefix (field ∷ fields) names is good =
    let len : length (key_text p field.0) ≡ prefix + 1 + length field.0 = key_size p field.0 names good.0
    ∙ omega (arith, is) in
    ap₂ (λ (n : ℕ) (b : Bool). ltb MAX_KEY_TEXT n || b) len (long_by_size p prefix fields names is good.1)

-- why a name of a good one is neither empty nor bad
filled : (name : List ℕ) → is_name name ≡ true → is_empty name ≡ false
filled name h = not-true _ (and_parts (not (is_empty name)) (not (is_bad name)) h).0

fine : (name : List ℕ) → is_name name ≡ true → is_bad name ≡ false
fine name h = not-true _ (and_parts (not (is_empty name)) (not (is_bad name)) h).1

no_tag_is : (test : List ℕ → Bool) → ((name : List ℕ) → is_name name ≡ true → test name ≡ false) → (tags : List Tag)
    → AreGood tags → making.any_tag test (unescaped tags) ≡ false
no_tag_is test passes [] good = refl
no_tag_is test passes (tag ∷ tags) good = rw (
  passes _ good.0.0.named,
  passes _ good.0.1.named,
  no_tag_is test passes tags good.1,
) refl

unescaped_few : (tags : List Tag) → length (unescaped tags) ≡ length tags
unescaped_few [] = refl
unescaped_few (tag ∷ tags) = ap suc (unescaped_few tags)

-- a field of a point has a key, unless that is too long
has_key_of : (p : PointView) (field : List ℕ) → HasGoodNames p.measurement p.tags → IsGood Other field
    → ltb MAX_KEY_TEXT (length (key_text p field)) ≡ false → making.making_fault (names_of p field) ≡ None
has_key_of p field names good short =
    let few : ltb MAX_TAGS (length (unescaped p.tags)) ≡ false =
    le-ltb _ _ (subst (λ (n : ℕ). n ≤ MAX_TAGS) (sym (unescaped_few p.tags)) names.few) in
    rw (
      filled _ names.measurement_good.named,
      no_tag_is is_empty filled p.tags names.tags_are_good,
      filled _ good.named,
      fine _ names.measurement_good.named,
      no_tag_is is_bad fine p.tags names.tags_are_good,
      fine _ good.named,
      names.once,
      few,
      short,
    ) refl

has_keys_of : (p : PointView) (fields : List Field) → HasGoodNames p.measurement p.tags → FieldsGood fields
    → list_any (λ field. ltb MAX_KEY_TEXT (length (key_text p field.0))) fields ≡ false
    → AllByRecursion (λ field. making.making_fault (names_of p field.0) ≡ None) fields
has_keys_of p [] names good short = tt
has_keys_of p (field ∷ fields) names good short =
    let parts = or_parts (ltb MAX_KEY_TEXT (length (key_text p field.0)))
    (list_any (λ field. ltb MAX_KEY_TEXT (length (key_text p field.0))) fields) short in
    (has_key_of p field.0 names good.0 parts.0, has_keys_of p fields names good.1 parts.1)

-- what follows the spaces at the beginning has no line feed either
pub none_skipped : (text : List ℕ) → HasNoLineFeed text → HasNoLineFeed (skip_spaces text)
none_skipped [] none = refl
none_skipped (byte ∷ text) none =
    elim (cases_Bool (eqb byte SPACE)) [
      | inl space ↦ rw space (none_skipped text (or_parts (eqb byte 10) (list_any (λ byte. eqb byte 10) text) none).1)
      | inr other ↦ rw other none
    ]

longer_skipped : (text : List ℕ) → length (skip_spaces text) ≤ length text
longer_skipped [] = omega arith
longer_skipped (byte ∷ text) =
    elim (cases_Bool (eqb byte SPACE)) [
      | inl space ↦ rw space (omega (arith, longer_skipped text))
      | inr other ↦ rw other (omega arith)
    ]

-- the names of a line's parts are good
pub names_of_parts : (text measurement : List ℕ) (tags : List Tag) (fields_text : List ℕ) → HasNoLineFeed text
    → LeadsToFields text measurement tags fields_text → HasGoodNames measurement tags × HasNoLineFeed fields_text
names_of_parts text measurement tags fields_text none h =
    let gap : 0 < length h.gap = omega (arith, h.some, ap length h.skipped, longer_skipped h.gap) in
    let good = good_names text measurement tags h.gap none h.prefix gap in
    (good.0, subst HasNoLineFeed h.skipped (none_skipped h.gap good.1))

pub has_keys : (precision : Precision) (text : List ℕ) (p : PointView) → HasNoLineFeed text → HasParts precision text p
    → has_long_key p ≡ false → HasKeys p
has_keys precision text p none h short =
    let names = names_of_parts text p.measurement p.tags h.fields_text none h.prefix in
    has_keys_of p p.fields names.0 (fields_good h.fields_text p.fields h.ending names.1 h.are_fields) short
