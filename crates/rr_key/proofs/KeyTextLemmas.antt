-- Which bytes are a key text.
use Rattle.std.proofs.Common.{◌≡◌, ℕ, ◌≤◌, ◌↔◌, Bool, true, false, eqb, List, [], ◌∷◌, ◌++◌, length, drop, None, Some, refl, sym, ap, ◌∙◌, arith, append-nil, subst}
use Rattle.std.specs.Prelude.{T}
use Rattle.std.specs.List.{list_all}
use Rattle.std.specs.Ordering.{is_lt}
use Rattle.std.proofs.lemmas.Bool.{false≢true}
use Rattle.std.proofs.Math.Dec.{eqb-suc-zero}
use Rattle.std.proofs.lemmas.Cmp.{nat_list_cmp_total}
use Rattle.std.specs.declared.cmp.Ordering.{Ordering}
use Rattle.std.specs.declared.cmp.Ordering.TheVariants.{Less, Equal, Greater}
use Rattle.std.specs.FinMap.{entries, entries_sorted, from_sorted, entries-from_sorted, is_sorted}
use Rattle.std.specs.FinMap.Entries.{below_all}
use Rattle.rr_key.specs.declared.class.Class.TheVariants.{Measurement, Other}
use Rattle.rr_key.specs.Name.{is_name}
use Rattle.rr_key.specs.Reading.{name_at, rises, IsTail, IsLast}
use Rattle.rr_text.specs.Bytes.{strip}
use Rattle.rr_key.specs.Series.{bytes_cmp, Tags, Series, is_tag, tail_text, key_text, IsSeries, IsKeyText}
use Rattle.rr_key.specs.Unit.{escape, unescape}
use Rattle.rr_key.proofs.EscapeLemmas.{both_true}
use Rattle.rr_key.proofs.NameLemmas.{name_at-escape, name_at-found, some_if}
use Rattle.rr_key.proofs.TagLemmas.{strip_is, strip_none}
use Rattle.rr_key.proofs.TailLemmas.{tail_divides}

pub test_true : (b : Bool) → T b → b ≡ true
test_true true h = refl
test_true false h = absurd h

pub true_test : (b : Bool) → b ≡ true → T b
true_test true e = tt
true_test false e = absurd cc

less : (o : Ordering) → is_lt o ≡ true → o ≡ Less
less Less e = refl
less Equal e = absurd cc
less Greater e = absurd cc

-- keys that rise are above the one that the first is above
below_rises : (before key : List ℕ) (tags : List (List ℕ × List ℕ)) → is_lt (bytes_cmp before key) ≡ true
    → rises key tags ≡ true → below_all bytes_cmp before tags ≡ true
below_rises before key [] up h = refl
below_rises before key (tag ∷ tags) up h =
    let parts = both_true (is_lt (bytes_cmp key tag.0)) (rises tag.0 tags) h in
    let far : is_lt (bytes_cmp before tag.0) ≡ true =
    ap is_lt (nat_list_cmp_total.trans before key tag.0 (less _ up) (less _ parts.0)) in
    rw (far, below_rises before tag.0 tags far parts.1) refl

pub below_all_rises : (before : List ℕ) (tags : List (List ℕ × List ℕ)) → rises before tags ≡ true
    → below_all bytes_cmp before tags ≡ true
below_all_rises before [] h = refl
below_all_rises before (tag ∷ tags) h =
    let parts = both_true (is_lt (bytes_cmp before tag.0)) (rises tag.0 tags) h in
    rw (parts.0, below_rises before tag.0 tags parts.0 parts.1) refl

pub is_sorted-rises : (before : List ℕ) (tags : List (List ℕ × List ℕ)) → rises before tags ≡ true
    → is_sorted bytes_cmp tags ≡ true
is_sorted-rises before [] h = refl
is_sorted-rises before (tag ∷ tags) h =
    let parts = both_true (is_lt (bytes_cmp before tag.0)) (rises tag.0 tags) h in
    rw (below_all_rises tag.0 tags parts.1, is_sorted-rises tag.0 tags parts.1) refl

rises-sorted : (before : List ℕ) (tags : List (List ℕ × List ℕ)) → below_all bytes_cmp before tags ≡ true
    → is_sorted bytes_cmp tags ≡ true → rises before tags ≡ true
rises-sorted before [] b s = refl
rises-sorted before (tag ∷ tags) b s =
    let above = both_true (is_lt (bytes_cmp before tag.0)) (below_all bytes_cmp before tags) b in
    let parts = both_true (below_all bytes_cmp tag.0 tags) (is_sorted bytes_cmp tags) s in
    rw (above.0, rises-sorted tag.0 tags parts.0 parts.1) refl

-- no name is empty
above_empty : (key : List ℕ) → is_name key ≡ true → is_lt (bytes_cmp [] key) ≡ true
above_empty [] h = absurd cc
above_empty (b ∷ bs) h = refl

names_above_empty : (tags : List (List ℕ × List ℕ)) → list_all is_tag tags ≡ true → below_all bytes_cmp [] tags ≡ true
names_above_empty [] h = refl
names_above_empty (tag ∷ tags) h =
    let parts = both_true (is_tag tag) (list_all is_tag tags) h in
    let key = both_true (is_name tag.0) (is_name tag.1) parts.0 in
    rw (above_empty tag.0 key.0, names_above_empty tags parts.1) refl

-- a series after its measurement is a tail, and a tail is one
pub tail_of_series : (s : Series) → IsSeries s → IsTail [] 0 (tail_text (entries s.tags) s.field)
tail_of_series s h = record {
  tags = entries s.tags;
  field = s.field;
  rising = rises-sorted [] (entries s.tags) (names_above_empty (entries s.tags) h.tags)
      (test_true _ (entries_sorted s.tags));
  named = h.tags;
  last = h.field;
  few = omega (arith, h.few);
  is = refl;
}

pub found_key_text : (text raw tail : List ℕ) → length text ≤ 1024 → name_at Measurement text ≡ Some (raw, tail)
    → IsTail [] 0 tail → IsKeyText text
found_key_text text raw tail short e t =
    let f = name_at-found Measurement text raw tail e in
    let tags : Tags = from_sorted t.tags in
    let same : entries tags ≡ t.tags = entries-from_sorted bytes_cmp t.tags
    (true_test _ (is_sorted-rises [] t.tags t.rising)) in
    let s : Series = record { measurement = unescape Measurement raw; tags = tags; field = t.field } in
    let whole : text ≡ key_text s = f.whole ∙ ap (λ (l : List ℕ). escape Measurement (unescape Measurement raw) ++ l)
    (t.is ∙ ap (λ (l : List (List ℕ × List ℕ)). tail_text l t.field) (sym same)) in
    record {
      series = s;
      named = record {
        measurement = f.name;
        tags = ap (list_all is_tag) same ∙ t.named;
        field = t.last;
        few = omega (arith, t.few, ap length same);
        short = omega (arith, short, ap length whole);
      };
      whole = whole;
    }

name_of_key_text : (s : Series) → IsSeries s → name_at Measurement (key_text s)
    ≡ Some (escape Measurement s.measurement, tail_text (entries s.tags) s.field)
name_of_key_text s h = name_at-escape Measurement s.measurement (tail_text (entries s.tags) s.field) h.measurement
    (tail_divides Measurement (entries s.tags) s.field)

pub key_text_found : (text raw tail : List ℕ) → name_at Measurement text ≡ Some (raw, tail) → IsKeyText text
    → IsTail [] 0 tail
key_text_found text raw tail e k =
    let found = sym (name_of_key_text k.series k.named) ∙ ap (name_at Measurement) (sym k.whole) ∙ e in
    let same = (some_if true (escape Measurement k.series.measurement, tail_text (entries k.series.tags) k.series.field)
    (raw, tail) found).1 in
    subst (IsTail [] 0) (ap (λ (p : List ℕ × List ℕ). p.1) same) (tail_of_series k.series k.named)

pub no_key_text : (text : List ℕ) → name_at Measurement text ≡ None → IsKeyText text → ⊥
no_key_text text e k =
    let found = sym (name_of_key_text k.series k.named) ∙ ap (name_at Measurement) (sym k.whole) ∙ e in
    absurd cc

no_bytes : (rest : List ℕ) → eqb (length rest) 0 ≡ true → rest ≡ []
no_bytes [] e = refl
no_bytes (b ∷ bs) e = absurd (false≢true (sym (eqb-suc-zero _) ∙ e))

-- the field alone
pub last_is : (text field raw rest : List ℕ) → strip 32 text ≡ Some field → name_at Other field ≡ Some (raw, rest)
    → (eqb (length rest) 0 ≡ true) ↔ IsLast text
last_is text field raw rest s e =
    let f = name_at-found Other field raw rest e in
    let text_is = strip_is 32 text field s in
    let name = unescape Other raw in (
      λ z. (
        name,
        f.name,
        text_is ∙ ap (λ (l : List ℕ). 32 ∷ l)
            (f.whole ∙ ap (λ (l : List ℕ). escape Other name ++ l) (no_bytes rest z) ∙ append-nil (escape Other name)),
      ),
      λ l.
          let field_is : field ≡ escape Other l.0 ++ [] = ap (drop 1) (sym text_is ∙ l.2)
          ∙ sym (append-nil (escape Other l.0)) in
          let found = sym (name_at-escape Other l.0 [] l.1 tt) ∙ ap (name_at Other) (sym field_is) ∙ e in
          let same = (some_if true (escape Other l.0, []) (raw, rest) found).1 in
          ap (λ (p : List ℕ × List ℕ). eqb (length p.1) 0) (sym same),
    )

pub no_last : (text field : List ℕ) → strip 32 text ≡ Some field → name_at Other field ≡ None → IsLast text → ⊥
no_last text field s e l =
    let field_is : field ≡ escape Other l.0 ++ [] = ap (drop 1) (sym (strip_is 32 text field s) ∙ l.2)
    ∙ sym (append-nil (escape Other l.0)) in
    let found = sym (name_at-escape Other l.0 [] l.1 tt) ∙ ap (name_at Other) (sym field_is) ∙ e in
    absurd cc

pub no_space : (text : List ℕ) → strip 32 text ≡ None → IsLast text → ⊥
no_space text e l = strip_none 32 text (escape Other l.0) e l.2
