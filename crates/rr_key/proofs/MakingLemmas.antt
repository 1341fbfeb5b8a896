-- The series that names make.
use Rattle.std.proofs.Common.{◌≡◌, ℕ, ◌+◌, ◌≤◌, Bool, true, false, cond, ltb, ◌&&◌, ◌||◌, List, [], ◌∷◌, ◌++◌, length, Option, None, Some, Ok, Err, ◌<◌, refl, sym, ap, subst, ◌∙◌, inl, inr, arith}
use Rattle.std.specs.List.{list_all}
use Rattle.std.specs.List.Sorted.{IsPermutation}
use Rattle.std.specs.declared.cmp.Ordering.TheVariants.{Less, Equal, Greater}
use Rattle.std.specs.FinMap.{entries, empty, from_entries, entries-insert, len-empty, len-entries, put}
use Rattle.std.specs.FinMap.Entries.{by_order}
use Rattle.std.proofs.lemmas.Bool.{cases_Bool, ltb-false, ltb-true, le-ltb, lt-ltb}
use Rattle.std.proofs.lemmas.Cmp.{nat_list_cmp_total}
use Rattle.rr_key.specs.declared.fault.KeyFault.{KeyFault}
use Rattle.rr_key.specs.declared.fault.KeyFault.TheVariants.{EmptyName, BadName, DuplicateTag, TooManyTags, KeyTooLong}
use Rattle.rr_key.specs.declared.class.Class.TheVariants.{Measurement}
use Rattle.rr_key.specs.Reading.{rises}
use Rattle.rr_key.specs.Room.{IsRoomAfter}
use Rattle.std.specs.Prelude.{is_some}
use Rattle.rr_key.specs.Unit.{escape}
use Rattle.rr_key.specs.Making.{Names, names_of, tags_of, series_of, any_tag, any_name, naming_fault, making_fault, key_of}
use Rattle.rr_text.specs.Results.{first_fault, unless_faulty}
use Rattle.rr_text.specs.declared.limits.TheConstants.{MAX_KEY_TEXT, MAX_TAGS}
use Rattle.std.specs.Map.{keys_of}
use Rattle.rr_text.specs.Bytes.{has_repeat}
use Rattle.rr_key.specs.Name.{is_empty, is_bad, is_name}
use Rattle.rr_key.specs.Series.{bytes_cmp, is_tag, key_text, tail_text, IsSeries, IsKeyText}
use Rattle.rr_key.proofs.EscapeLemmas.{both_true}
use Rattle.rr_key.proofs.NameLemmas.{or_false}
use Rattle.rr_key.proofs.OrderLemmas.{Tag, Slices, length-tags_of, rising_entries}

name_if : (name : List ℕ) → is_empty name ≡ false → is_bad name ≡ false → is_name name ≡ true
name_if name e b = rw (e, b) refl

tags_if : (tags : List Tag) → any_tag is_empty tags ≡ false → any_tag is_bad tags ≡ false → list_all is_tag tags ≡ true
tags_if [] e b = refl
tags_if (tag ∷ tags) e b =
    let empty = or_false (is_empty tag.0 || is_empty tag.1) (any_tag is_empty tags) e in
    let bad = or_false (is_bad tag.0 || is_bad tag.1) (any_tag is_bad tags) b in
    let none = or_false (is_empty tag.0) (is_empty tag.1) empty.0 in
    let good = or_false (is_bad tag.0) (is_bad tag.1) bad.0 in
    rw (none.0, good.0, none.1, good.1) (tags_if tags empty.1 bad.1)

-- a map has the tags that are put into it
tags_put : (key value : List ℕ) (tags : List Tag) → is_name key ≡ true → is_name value ≡ true
    → list_all is_tag tags ≡ true → list_all is_tag (put bytes_cmp key value tags) ≡ true
tags_put key value [] k v h = rw (k, v) refl
tags_put key value (tag ∷ tags) k v h =
    let parts = both_true (is_tag tag) (list_all is_tag tags) h in
    let first = both_true (is_name tag.0) (is_name tag.1) parts.0 in
    let whole : is_tag (key, value) && (is_tag tag && list_all is_tag tags) ≡ true = rw (k, v, parts.0, parts.1) refl in
    let changed : is_tag (tag.0, value) && list_all is_tag tags ≡ true = rw (first.0, v, parts.1) refl in
    let later : is_tag tag && list_all is_tag (put bytes_cmp key value tags) ≡ true =
    rw (parts.0) (tags_put key value tags k v parts.1) in
    elim (bytes_cmp key tag.0) as (λ o. list_all is_tag
    (by_order o ((key, value) ∷ tag ∷ tags) ((tag.0, value) ∷ tags) (tag ∷ put bytes_cmp key value tags)) ≡ true) [
      | Less ↦ whole
      | Equal ↦ changed
      | Greater ↦ later
    ]

length-put : (key value : List ℕ) (tags : List Tag) → length (put bytes_cmp key value tags) ≤ length tags + 1
length-put key value [] = omega arith
length-put key value (tag ∷ tags) =
    let later = length-put key value tags in
    elim (bytes_cmp key tag.0) as (λ o. length (by_order o ((key, value) ∷ tag ∷ tags) ((tag.0, value) ∷ tags)
    (tag ∷ put bytes_cmp key value tags)) ≤ length (tag ∷ tags) + 1) [
      | Less ↦ omega arith
      | Equal ↦ omega arith
      | Greater ↦ omega arith
    ]

no_items : (tags : List Tag) → length tags ≡ 0 → tags ≡ []
no_items [] e = refl
no_items (tag ∷ tags) e = absurd (omega arith)

no_entries : entries (empty {X = List ℕ} {R = bytes_cmp}) ≡ []
no_entries = no_items _ (sym (len-entries empty) ∙ len-empty bytes_cmp (List ℕ))

tags_of_map : (tags : List Tag) → list_all is_tag tags ≡ true
    → list_all is_tag (entries (from_entries {R = bytes_cmp} tags)) ≡ true
tags_of_map [] h = ap (list_all is_tag) no_entries
tags_of_map (tag ∷ tags) h =
    let parts = both_true (is_tag tag) (list_all is_tag tags) h in
    let first = both_true (is_name tag.0) (is_name tag.1) parts.0 in
    ap (list_all is_tag) (entries-insert nat_list_cmp_total (from_entries tags) tag.0 tag.1)
    ∙ tags_put tag.0 tag.1 (entries (from_entries tags)) first.0 first.1 (tags_of_map tags parts.1)

length_of_map : (tags : List Tag) → length (entries (from_entries {R = bytes_cmp} tags)) ≤ length tags
length_of_map [] = omega (arith, ap length no_entries)
length_of_map (tag ∷ tags) =
    let e = ap length (entries-insert nat_list_cmp_total (from_entries tags) tag.0 tag.1) in
    omega (arith, e, length-put tag.0 tag.1 (entries (from_entries {R = bytes_cmp} tags)), length_of_map tags)

-- a test that is passed gives a fault
passed : (b : Bool) (fault : KeyFault) (rest : Option KeyFault) → cond b (Some fault) rest ≡ None
    → (b ≡ false) × (rest ≡ None)
passed true fault rest e = absurd cc
passed false fault rest e = (refl, e)

passed_both : (first last : Option KeyFault) → first_fault first last ≡ None → (first ≡ None) × (last ≡ None)
passed_both None last e = (refl, e)
passed_both (Some fault) last e = absurd cc

-- names with no fault make a series
pub IsSeries-making_fault : (names : Names) → making_fault names ≡ None → IsSeries (series_of names)
IsSeries-making_fault names e =
    let both = passed_both (naming_fault names) _ e in
    let filled = passed (any_name is_empty names) EmptyName _ both.0 in
    let good = passed (any_name is_bad names) BadName _ filled.1 in
    let unique = passed (has_repeat (keys_of names.tags)) DuplicateTag _ good.1 in
    let few = passed (ltb 32 (length names.tags)) TooManyTags _ unique.1 in
    let short = passed (ltb 1024 (length (key_text (series_of names)))) KeyTooLong _ both.1 in
    let empty_parts = or_false (is_empty names.measurement || any_tag is_empty names.tags) (is_empty names.field)
    filled.0 in
    let bad_parts = or_false (is_bad names.measurement || any_tag is_bad names.tags) (is_bad names.field) good.0 in
    let empty_prefix = or_false (is_empty names.measurement) (any_tag is_empty names.tags) empty_parts.0 in
    let bad_prefix = or_false (is_bad names.measurement) (any_tag is_bad names.tags) bad_parts.0 in
    record {
      measurement = name_if names.measurement empty_prefix.0 bad_prefix.0;
      tags = tags_of_map names.tags (tags_if names.tags empty_prefix.1 bad_prefix.1);
      field = name_if names.field empty_parts.1 bad_parts.1;
      few = omega (arith, length_of_map names.tags, ltb-false 32 (length names.tags) few.0);
      short = ltb-false 1024 (length (key_text (series_of names))) short.0;
    }

pub IsKeyText-made : (names : Names) (text : List ℕ) → making_fault names ≡ None → text ≡ key_text (series_of names)
    → IsKeyText text
IsKeyText-made names text e is = record { series = series_of names; named = IsSeries-making_fault names e; whole = is }

-- what names make whose tags repeat a key
pub repeated_key : (names : Names) → any_name is_empty names ≡ false → any_name is_bad names ≡ false
    → has_repeat (keys_of names.tags) ≡ true → key_of names ≡ Err DuplicateTag
repeated_key names filled good twice = rw (filled, good, twice) refl

no_naming_fault : (names : Names) → any_name is_empty names ≡ false → any_name is_bad names ≡ false
    → has_repeat (keys_of names.tags) ≡ false → length names.tags ≤ MAX_TAGS → naming_fault names ≡ None
no_naming_fault names filled good once few = let tested : ltb MAX_TAGS (length names.tags) ≡ false = le-ltb _ _ few in
    rw (filled, good, once, tested) refl

-- what names make that have no fault, by the length of their key
key_of_named : (names : Names) → naming_fault names ≡ None
    → key_of names ≡ cond (ltb MAX_KEY_TEXT (length (key_text (series_of names)))) (Err KeyTooLong)
    (Ok (key_text (series_of names)))
key_of_named names named =
    elim (cases_Bool (ltb MAX_KEY_TEXT (length (key_text (series_of names))))) [
      | inl long ↦ ap (λ (o : Option KeyFault). unless_faulty
          (first_fault o (cond (ltb MAX_KEY_TEXT (length (key_text (series_of names)))) (Some KeyTooLong) None))
          (key_text (series_of names))) named ∙ rw long refl
      | inr short ↦ ap (λ (o : Option KeyFault). unless_faulty
          (first_fault o (cond (ltb MAX_KEY_TEXT (length (key_text (series_of names)))) (Some KeyTooLong) None))
          (key_text (series_of names))) named ∙ rw short refl
    ]

-- names that make a key have no fault
pub made_of : (names : Names) (text : List ℕ) → key_of names ≡ Ok text
    → (making_fault names ≡ None) × (key_text (series_of names) ≡ text)
made_of names text e = at (making_fault names) e
  where
    at : (o : Option KeyFault) → unless_faulty o (key_text (series_of names)) ≡ Ok text
        → (o ≡ None) × (key_text (series_of names) ≡ text)
    at None e = (refl, cc)
    at (Some fault) e = absurd cc

-- no name of the tags is empty
pub tags_filled : (names : Names) → any_name is_empty names ≡ false → any_tag is_empty names.tags ≡ false
tags_filled names filled =
    let parts = or_false (is_empty names.measurement || any_tag is_empty names.tags) (is_empty names.field) filled in
    (or_false (is_empty names.measurement) (any_tag is_empty names.tags) parts.0).1

-- what names without such a fault make, by the length of the text that is written for them
pub long_key : (names : Names) (text : List ℕ) → naming_fault names ≡ None → text ≡ key_text (series_of names)
    → MAX_KEY_TEXT < length text → key_of names ≡ Err KeyTooLong
long_key names text named is long =
    let tested : ltb MAX_KEY_TEXT (length (key_text (series_of names))) ≡ true =
    lt-ltb _ _ (subst (λ (n : ℕ). MAX_KEY_TEXT < n) (ap length is) long) in
    key_of_named names named ∙ rw tested refl

pub short_key : (names : Names) (text : List ℕ) → naming_fault names ≡ None → text ≡ key_text (series_of names)
    → length text ≤ MAX_KEY_TEXT → key_of names ≡ Ok text
short_key names text named is short =
    let tested : ltb MAX_KEY_TEXT (length (key_text (series_of names))) ≡ false =
    le-ltb _ _ (subst (λ (n : ℕ). n ≤ MAX_KEY_TEXT) (ap length is) short) in
    key_of_named names named ∙ rw tested (ap (λ (t : List ℕ). Ok t) (sym is))

-- names without such a fault whose text is short make a key
pub no_making_fault : (names : Names) (text : List ℕ) → naming_fault names ≡ None → text ≡ key_text (series_of names)
    → length text ≤ MAX_KEY_TEXT → making_fault names ≡ None
no_making_fault names text named is short =
    let tested : ltb MAX_KEY_TEXT (length (key_text (series_of names))) ≡ false =
    le-ltb _ _ (subst (λ (n : ℕ). n ≤ MAX_KEY_TEXT) (ap length is) short) in
    ap (λ (o : Option KeyFault). first_fault o (cond (ltb MAX_KEY_TEXT (length (key_text (series_of names))))
    (Some KeyTooLong) None)) named ∙ rw tested refl

-- a text has no room where nothing is left, and has room where something is
pub no_room : (text : List ℕ) (room : ℕ) (left : Option ℕ) → IsRoomAfter text room left → is_some left ≡ false
    → room < length text
no_room text room None h e =
    elim (cases_Bool (ltb room (length text))) [
      | inl long ↦ ltb-true room (length text) long
      | inr short ↦ absurd (h (ltb-false room (length text) short))
    ]
no_room text room (Some n) h e = absurd cc

pub some_room : (text : List ℕ) (room : ℕ) (left : Option ℕ) → IsRoomAfter text room left → is_some left ≡ true
    → length text ≤ room
some_room text room None h e = absurd cc
some_room text room (Some n) h e = h.0

-- sorted tags that rise: the names have no such fault, and the text is written in the order of the sorted tags
pub record IsInOrder (measurement field : List ℕ) (tags sorted : List Slices) : Type 0 where
  pub named : naming_fault (names_of measurement tags field) ≡ None
  pub written : escape Measurement measurement ++ tail_text (tags_of sorted) field
      ≡ key_text (series_of (names_of measurement tags field))

pub in_order : (measurement field : List ℕ) (tags sorted : List Slices)
    → any_name is_empty (names_of measurement tags field) ≡ false
    → any_name is_bad (names_of measurement tags field) ≡ false → length tags ≤ MAX_TAGS → IsPermutation tags sorted
    → rises [] (tags_of sorted) ≡ true → IsInOrder measurement field tags sorted
in_order measurement field tags sorted filled good few moved up =
    let parts = rising_entries tags sorted moved up in
    record {
      named = no_naming_fault (names_of measurement tags field) filled good parts.0
          (omega (arith, length-tags_of tags, few));
      written = ap (λ (order : List Tag). escape Measurement measurement ++ tail_text order field) parts.1;
    }
