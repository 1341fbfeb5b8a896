-- What a key text writes is what a line may write: the measurement, the tags, a space and the key of a field.
use Rattle.std.proofs.Common.{◌≡◌, ℕ, ◌+◌, ◌<◌, ◌≤◌, true, false, eqb, List, [], ◌∷◌, ◌++◌, length, length-append, map, refl, sym, ap, ap₂, subst, ◌∙◌, inl, inr, arith}
use Rattle.std.proofs.lemmas.Bool.{cases_Bool, or_parts, eqb-true, false≢true}
use Rattle.std.proofs.lemmas.Cmp.{nat_list_cmp_total, eq_by_cmp_equiv}
use Rattle.std.proofs.lemmas.List.{append_assoc}
use Rattle.std.proofs.lemmas.List.Sorted.{IsPermutation-refl}
use Rattle.std.specs.FinMap.{entries, from_entries}
use Rattle.std.specs.List.{flat_map, list_all}
use Rattle.std.specs.Ordering.{is_lt, is_eq}
use Rattle.std.specs.declared.cmp.Ordering.{Ordering}
use Rattle.std.specs.declared.cmp.Ordering.TheVariants.{Less, Equal, Greater}
use Rattle.rr_text.specs.Bytes.{bytes_cmp, begins}
use Rattle.rr_text.specs.declared.bytes.TheConstants.{EQUALS, SPACE}
use Rattle.rr_text.specs.declared.limits.TheConstants.{MAX_TAGS, MAX_KEY_TEXT}
use Rattle.rr_key.specs.declared.class.Class.{Class}
use Rattle.rr_key.specs.declared.class.Class.TheVariants.{Measurement, Other}
use Rattle.rr_key.specs.Class.{is_special}
use Rattle.rr_key.specs.Name.{MayFollow, is_name}
use Rattle.rr_key.specs.Reading.{rises}
use Rattle.rr_key.specs.Series.{IsKeyText, is_tag, tag_text, tail_text}
use Rattle.rr_key.specs.Unit.{escape, unescape}
use Rattle.rr_key.proofs.EscapeLemmas.{both_true, unescape-escape}
use Rattle.rr_key.proofs.KeyTextLemmas.{tail_of_series}
use Rattle.rr_key.proofs.NameLemmas.{Divides, is_name-escape, name_ends}
use Rattle.rr_key.proofs.OrderLemmas.{same_key, entries_rise, unique_if_rises}
use Rattle.rr_point.specs.Prefix.{tags_unescaped, prefix_text}
use Rattle.rr_line.specs.Grammar.{is_nothing, LeadsToFields}
use Rattle.rr_line.specs.Part.{skip_spaces, IsName}
use Rattle.rr_line.specs.Tag.{Tag, AreTags, has_key}

-- tags as a key text writes them
abbrev pub written : List Tag → List Tag
written tags = map (λ tag. (escape Other tag.0, escape Other tag.1)) tags

has_bytes : (text : List ℕ) → is_name text ≡ true → 0 < length text
has_bytes [] h = absurd cc
has_bytes (byte ∷ text) h = omega arith

may_follow : (class : Class) (name rest : List ℕ) → is_name name ≡ true → Divides class rest → MayFollow class name rest
may_follow class name [] h d = tt
may_follow class name (byte ∷ rest) h d = (d, name_ends name h)

-- a name of a key, as it is written, is one of a line
pub name_written : (class : Class) (name rest : List ℕ) → is_name name ≡ true → Divides class rest
    → IsName class (escape class name ++ rest) (escape class name) rest
name_written class name rest h d = record {
  bytes = name;
  some = has_bytes (escape class name) (is_name-escape class name ∙ h);
  units = refl;
  ended = may_follow class name rest h d;
  whole = refl;
}

-- what follows the tags, or one of them, ends a name
divides_tags : (class : Class) (tags : List Tag) (more : List ℕ)
    → Divides class (flat_map tag_text tags ++ SPACE ∷ more)
divides_tags Measurement [] more = refl
divides_tags Other [] more = refl
divides_tags Measurement (tag ∷ tags) more = refl
divides_tags Other (tag ∷ tags) more = refl

no_equals : (tags : List Tag) (more : List ℕ) → begins EQUALS (flat_map tag_text tags ++ SPACE ∷ more) ≡ false
no_equals [] more = refl
no_equals (tag ∷ tags) more = refl

pub less : (o : Ordering) → is_lt o ≡ true → o ≡ Less
less Less e = refl
less Equal e = absurd cc
less Greater e = absurd cc

equal : (o : Ordering) → is_eq o ≡ true → o ≡ Equal
equal Less e = absurd cc
equal Equal e = refl
equal Greater e = absurd cc

pub less_differs : (o : Ordering) → is_lt o ≡ true → is_eq o ≡ false
less_differs Less e = refl
less_differs Equal e = absurd cc
less_differs Greater e = absurd cc

-- names of which one is below the other are written in two ways
apart : (name next : List ℕ) → is_lt (bytes_cmp name next) ≡ true
    → is_eq (bytes_cmp (escape Other name) (escape Other next)) ≡ false
apart name next lt =
    elim (cases_Bool (is_eq (bytes_cmp (escape Other name) (escape Other next)))) [
      | inl same ↦
          let spelled : escape Other name ≡ escape Other next =
          same_key (escape Other name) (escape Other next) (equal _ same) in
          let one : name ≡ next = sym (unescape-escape Other name) ∙ ap (unescape Other) spelled
          ∙ unescape-escape Other next in
          let below : is_lt (bytes_cmp next next) ≡ true =
          subst (λ (k : List ℕ). is_lt (bytes_cmp k next) ≡ true) one lt in
          absurd (false≢true (sym (less_differs _ below) ∙ (eq_by_cmp_equiv nat_list_cmp_total).refl next))
      | inr differ ↦ differ
    ]

-- a key that differs from one more
pub has_key-more : {V : Type 0} (before : List (List ℕ × V)) (entry : List ℕ × V) (key : List ℕ)
    → has_key before key ≡ false
    → is_eq (bytes_cmp entry.0 key) ≡ false → has_key (before ++ entry ∷ []) key ≡ false
has_key-more [] entry key h d = rw d refl
has_key-more (first ∷ before) entry key h d =
    let parts = or_parts (is_eq (bytes_cmp first.0 key)) (has_key before key) h in
    rw (parts.0, has_key-more before entry key parts.1 d) refl

-- no key above one is among those before
abbrev NewAbove : List ℕ → List Tag → Type 0
NewAbove last before = (next : List ℕ) → is_lt (bytes_cmp last next) ≡ true → has_key before (escape Other next) ≡ false

new_above : (last : List ℕ) (before : List Tag) (tag : Tag) → NewAbove last before → is_lt (bytes_cmp last tag.0) ≡ true
    → NewAbove tag.0 (before ++ (escape Other tag.0, escape Other tag.1) ∷ [])
new_above last before tag new up = λ next lt.
    let far : is_lt (bytes_cmp last next) ≡ true =
    ap is_lt (nat_list_cmp_total.trans last tag.0 next (less _ up) (less _ lt)) in
    has_key-more before (escape Other tag.0, escape Other tag.1) (escape Other next) (new next far)
    (apart tag.0 next lt)

-- the tags of a key text are tags of a line
tags_written : (before : List Tag) (last : List ℕ) (tags : List Tag) (more : List ℕ) → NewAbove last before
    → rises last tags ≡ true → list_all is_tag tags ≡ true → length before + length tags ≤ MAX_TAGS
    → AreTags before (flat_map tag_text tags ++ SPACE ∷ more) (written tags) (SPACE ∷ more)
tags_written before last [] more new up named few = refl
tags_written before last (tag ∷ tags) more new up named few =
    let rising = both_true (is_lt (bytes_cmp last tag.0)) (rises tag.0 tags) up in
    let names = both_true (is_tag tag) (list_all is_tag tags) named in
    let both = both_true (is_name tag.0) (is_name tag.1) names.0 in
    let next = flat_map tag_text tags ++ SPACE ∷ more in
    let value_text = escape Other tag.1 ++ next in
    let here : Tag = (escape Other tag.0, escape Other tag.1) in
    let len = length-append before (here ∷ []) in (
      escape Other tag.0 ++ EQUALS ∷ value_text,
      next,
      simp append_assoc,
      record {
        value_text = value_text;
        key = name_written Other tag.0 (EQUALS ∷ value_text) both.0 refl;
        value = name_written Other tag.1 next both.1 (divides_tags Other tags more);
        ended = no_equals tags more;
      },
      record { few = omega (arith, few); other = new tag.0 rising.0 },
      tags_written (before ++ here ∷ []) tag.0 tags more (new_above last before tag new rising.0) rising.1 names.1
          (omega (arith, few, len)),
    )

-- a written name begins with no space
name_kept : (name rest : List ℕ) → is_name name ≡ true
    → skip_spaces (escape Other name ++ rest) ≡ escape Other name ++ rest
name_kept [] rest h = absurd cc
name_kept (byte ∷ name) rest h =
    elim (cases_Bool (is_special Other byte)) [
      | inl special ↦ rw special refl
      | inr plain ↦ elim (cases_Bool (eqb byte SPACE)) [
        | inl space ↦ absurd (false≢true (sym plain ∙ ap (is_special Other) (eqb-true byte SPACE space)))
        | inr other ↦ rw (plain, other) refl
      ]
    ]

unwritten : (tags : List Tag) → tags_unescaped (written tags) ≡ tags
unwritten [] = refl
unwritten (tag ∷ tags) =
    let names = ap₂ (λ (k v : List ℕ). (k, v)) (unescape-escape Other tag.0) (unescape-escape Other tag.1) in
    ap₂ (λ (t : Tag) (ts : List Tag). t ∷ ts) names (unwritten tags)

-- a key text by its parts
pub record IsWritten (key : List ℕ) : Type 0 where
  pub measurement : List ℕ
  pub tags : List Tag
  pub field : List ℕ
  pub named : is_name measurement ≡ true
  pub tags_named : list_all is_tag tags ≡ true
  pub field_named : is_name field ≡ true
  pub rising : rises [] tags ≡ true
  pub few : length tags ≤ MAX_TAGS
  pub short : length key ≤ MAX_KEY_TEXT
  pub whole : key ≡ escape Measurement measurement ++ tail_text tags field

pub is_written : (key : List ℕ) → IsKeyText key → IsWritten key
is_written key is =
    let tail = tail_of_series is.series is.named in
    record {
      measurement = is.series.measurement;
      tags = tail.tags;
      field = tail.field;
      named = is.named.measurement;
      tags_named = tail.named;
      field_named = tail.last;
      rising = tail.rising;
      few = omega (arith, tail.few);
      short = omega (arith, ap length is.whole, is.named.short);
      whole = is.whole ∙ ap (λ (t : List ℕ). escape Measurement is.series.measurement ++ t) tail.is;
    }

-- the text before the field, and its separating space
abbrev pub prefix_of : (key : List ℕ) → IsWritten key → List ℕ
prefix_of key k = escape Measurement k.measurement ++ flat_map tag_text k.tags

pub key_split : (key : List ℕ) (k : IsWritten key) → key ≡ prefix_of key k ++ SPACE ∷ escape Other k.field
key_split key k = k.whole ∙ simp append_assoc

-- key texts of a line with these names begin as the key text does
pub prefix_kept : (key : List ℕ) (k : IsWritten key)
    → prefix_text (escape Measurement k.measurement) (written k.tags) ≡ prefix_of key k
prefix_kept key k =
    let once = unique_if_rises k.tags k.tags (IsPermutation-refl k.tags) k.rising in
    let same : entries (from_entries {R = bytes_cmp} (tags_unescaped (written k.tags))) ≡ k.tags =
    ap (λ (ts : List Tag). entries (from_entries {R = bytes_cmp} ts)) (unwritten k.tags)
    ∙ sym (entries_rise k.tags k.tags (IsPermutation-refl k.tags) once k.rising) in
    ap₂ (λ (m : List ℕ) (ts : List Tag). escape Measurement m ++ flat_map tag_text ts)
    (unescape-escape Measurement k.measurement) same

-- a text that begins with a key text and an equals, and says something, leads to the field
pub leads_to_field : (key text value_text : List ℕ) (k : IsWritten key) → is_nothing text ≡ false
    → text ≡ key ++ EQUALS ∷ value_text
    → LeadsToFields text (escape Measurement k.measurement) (written k.tags)
    (escape Other k.field ++ EQUALS ∷ value_text)
leads_to_field key text value_text k parsed whole =
    let fields_text = escape Other k.field ++ EQUALS ∷ value_text in
    let tags_text = flat_map tag_text k.tags ++ SPACE ∷ fields_text in
    let field = name_written Other k.field (EQUALS ∷ value_text) k.field_named refl in
    let spelled : text ≡ escape Measurement k.measurement ++ tags_text =
    whole ∙ ap (λ (t : List ℕ). t ++ EQUALS ∷ value_text) k.whole ∙ simp append_assoc in
    subst (λ (t : List ℕ). LeadsToFields t (escape Measurement k.measurement) (written k.tags) fields_text)
    (sym spelled) (record {
      gap = SPACE ∷ fields_text;
      prefix = record {
        present = ap is_nothing (sym spelled) ∙ parsed;
        tags_text = tags_text;
        name = name_written Measurement k.measurement tags_text k.named (divides_tags Measurement k.tags fields_text);
        are_tags = tags_written [] [] k.tags fields_text (λ next lt. refl) k.rising k.tags_named (omega (arith, k.few));
      };
      ended = refl;
      skipped = name_kept k.field (EQUALS ∷ value_text) k.field_named;
      some = omega (arith, field.some, length-append (escape Other k.field) (EQUALS ∷ value_text));
    })
