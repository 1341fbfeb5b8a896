-- Where a line has no backslash before its fields and its tags are in order, key texts begin as the line does.
use Rattle.std.proofs.Common.{◌≡◌, ℕ, ◌-◌, false, List, [], ◌∷◌, ◌++◌, ◌==◌, length, length-append, take, refl, sym, ap, ap₂, subst, ◌∙◌, arith}
use Rattle.std.proofs.Math.Seq.{take-append_seam}
use Rattle.std.proofs.lemmas.Bool.{or_parts}
use Rattle.std.proofs.lemmas.List.{append_assoc}
use Rattle.std.proofs.lemmas.List.Folds.{list_any-append}
use Rattle.std.proofs.lemmas.List.Sorted.{IsPermutation-refl}
use Rattle.std.specs.FinMap.{entries, from_entries}
use Rattle.std.specs.List.{flat_map}
use Rattle.std.specs.Map.{keys_of}
use Rattle.rr_text.specs.Bytes.{bytes_cmp, has_repeat}
use Rattle.rr_text.specs.declared.bytes.TheConstants.{COMMA, EQUALS, BACKSLASH}
use Rattle.rr_key.specs.declared.class.Class.{Class}
use Rattle.rr_key.specs.declared.class.Class.TheVariants.{Other}
use Rattle.rr_key.specs.Series.{tag_text}
use Rattle.rr_key.specs.Unit.{escape}
use Rattle.rr_key.proofs.OrderLemmas.{entries_rise}
use Rattle.rr_key.proofs.PlainLemmas.{unescape_plain}
use Rattle.rr_point.specs.Prefix.{prefix_text, tags_unescaped}
use Rattle.rr_line.specs.Prefix.{has_backslash, IsPlain}
use Rattle.rr_line.specs.Grammar.{LeadsToTags}
use Rattle.rr_line.specs.Tag.{Tag, AreTags}
use Rattle.rr_line.proofs.KeyLemmas.{AreGood, HasGoodNames}
use Rattle.rr_line.proofs.NameLemmas.{IsGood}

-- a tag as a line has it
abbrev raw_tag : Tag → List ℕ
raw_tag tag = COMMA ∷ (tag.0 ++ EQUALS ∷ tag.1)

abbrev raw_tags : List Tag → List ℕ
raw_tags tags = flat_map raw_tag tags

-- tags are written one after the other
tags_written : (before : List Tag) (text : List ℕ) (tags : List Tag) (rest : List ℕ) → AreTags before text tags rest
    → text ≡ raw_tags tags ++ rest
tags_written before text [] rest are = are
tags_written before text (tag ∷ tags) rest (inner, next, whole, is, may, later) =
    let others = tags_written (before ++ tag ∷ []) next tags rest later in
    let value : is.value_text ≡ tag.1 ++ (raw_tags tags ++ rest) = is.value.whole
    ∙ ap (λ (t : List ℕ). tag.1 ++ t) others in
    let key : inner ≡ tag.0 ++ EQUALS ∷ (tag.1 ++ (raw_tags tags ++ rest)) = is.key.whole
    ∙ ap (λ (t : List ℕ). tag.0 ++ EQUALS ∷ t) value in
    whole ∙ ap (λ (t : List ℕ). COMMA ∷ t) (
    key ∙ ap (λ (t : List ℕ). tag.0 ++ EQUALS ∷ t) (sym (append_assoc tag.1 (raw_tags tags) rest))
    ∙ sym (append_assoc tag.0 (EQUALS ∷ (tag.1 ++ raw_tags tags)) rest)
    ∙ ap (λ (t : List ℕ). t ++ rest) (sym (append_assoc tag.0 (EQUALS ∷ tag.1) (raw_tags tags)))
    )

-- a name without a backslash is spelled as it is unescaped
plain_name : (class : Class) (name : List ℕ) → IsGood class name → has_backslash name ≡ false → escape class name ≡ name
plain_name class name good plain = ap (escape class) (sym (unescape_plain class name plain)) ∙ good.written

-- of a text without a backslash, its parts have none
parts_plain : (prefix rest : List ℕ) → has_backslash (prefix ++ rest) ≡ false
    → (has_backslash prefix ≡ false) × (has_backslash rest ≡ false)
parts_plain prefix rest plain =
    or_parts (has_backslash prefix) (has_backslash rest)
    (sym (list_any-append (λ byte. byte == BACKSLASH) prefix rest) ∙ plain)

record IsTagPlain (tag : Tag) (tags : List Tag) : Type 0 where
  pub key : has_backslash tag.0 ≡ false
  pub value : has_backslash tag.1 ≡ false
  pub others : has_backslash (raw_tags tags) ≡ false

tag_plain : (tag : Tag) (tags : List Tag) → has_backslash (raw_tags (tag ∷ tags)) ≡ false → IsTagPlain tag tags
tag_plain tag tags plain =
    let both = parts_plain (raw_tag tag) (raw_tags tags) plain in
    let names = parts_plain tag.0 (EQUALS ∷ tag.1) both.0 in
    record { key = names.0; value = names.1; others = both.1 }

tags_plain : (tags : List Tag) → has_backslash (raw_tags tags) ≡ false → tags_unescaped tags ≡ tags
tags_plain [] plain = refl
tags_plain (tag ∷ tags) plain =
    let is = tag_plain tag tags plain in
    ap₂ (λ (t : Tag) (ts : List Tag). t ∷ ts) (ap₂ (λ (k v : List ℕ). (k, v)) (unescape_plain Other tag.0 is.key)
    (unescape_plain Other tag.1 is.value)) (tags_plain tags is.others)

tags_spelled : (tags : List Tag) → AreGood tags → has_backslash (raw_tags tags) ≡ false
    → flat_map tag_text tags ≡ raw_tags tags
tags_spelled [] good plain = refl
tags_spelled (tag ∷ tags) good plain =
    let is = tag_plain tag tags plain in
    ap₂ (λ (t ts : List ℕ). t ++ ts)
    (ap₂ (λ (k v : List ℕ). COMMA ∷ (k ++ EQUALS ∷ v)) (plain_name Other tag.0 good.0.0 is.key)
    (plain_name Other tag.1 good.0.1 is.value))
    (tags_spelled tags good.1 is.others)

-- what precedes the rest
pub prefix_taken : (text prefix rest : List ℕ) → text ≡ prefix ++ rest → take (length text - length rest) text ≡ prefix
prefix_taken text prefix rest whole =
    let len : length text - length rest ≡ length prefix = omega (arith, ap length whole, length-append prefix rest) in
    ap₂ (λ (n : ℕ) (t : List ℕ). take n t) len whole ∙ take-append_seam prefix rest

pub prefix_is : (text measurement : List ℕ) (tags : List Tag) (rest : List ℕ) → LeadsToTags text measurement tags rest
    → HasGoodNames measurement tags → IsPlain (take (length text - length rest) text) tags
    → take (length text - length rest) text ≡ prefix_text measurement tags
prefix_is text measurement tags rest leads names plain =
    let written = tags_written [] leads.tags_text tags rest leads.are_tags in
    let whole : text ≡ (measurement ++ raw_tags tags) ++ rest =
    leads.name.whole ∙ ap (λ (t : List ℕ). measurement ++ t) written
    ∙ sym (append_assoc measurement (raw_tags tags) rest) in
    let taken = prefix_taken text (measurement ++ raw_tags tags) rest whole in
    let parts = parts_plain measurement (raw_tags tags) (ap has_backslash (sym taken) ∙ plain.unescaped) in
    let same = tags_plain tags parts.1 in
    let once : has_repeat (keys_of tags) ≡ false =
    subst (λ (ts : List Tag). has_repeat (keys_of ts) ≡ false) same names.once in
    let sorted : entries (from_entries {R = bytes_cmp} (tags_unescaped tags)) ≡ tags =
    ap (λ (ts : List Tag). entries (from_entries {R = bytes_cmp} ts)) same
    ∙ sym (entries_rise tags tags (IsPermutation-refl tags) once plain.rising) in
    let prefix = names.measurement_good.written in
    let back = ap (flat_map tag_text) sorted ∙ tags_spelled tags names.tags_are_good parts.1 in
    taken ∙ sym (ap₂ (λ (m ts : List ℕ). m ++ ts) prefix back)
