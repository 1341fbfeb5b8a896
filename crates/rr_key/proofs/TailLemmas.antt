-- The bytes after a measurement, tag by tag.
use Rattle.std.proofs.Common.{◌≡◌, ℕ, ◌+◌, ◌<◌, ◌≤◌, ◌↔◌, Bool, true, ◌&&◌, List, [], ◌∷◌, ◌++◌, length, get_or, drop, None, Some, refl, sym, ap, ◌∙◌, arith, append_assoc, subst}
use Rattle.std.specs.List.{list_all}
use Rattle.std.specs.Ordering.{nat_cmp, is_lt}
use Rattle.std.specs.Cmp.Lexicographic.{slice_cmp}
use Rattle.rr_key.specs.declared.class.Class.{Class}
use Rattle.rr_key.specs.declared.class.Class.TheVariants.{Measurement, Other}
use Rattle.rr_key.specs.Name.{is_name}
use Rattle.rr_key.specs.Reading.{tag_at, rises, IsTail, IsLast}
use Rattle.rr_text.specs.Bytes.{strip}
use Rattle.rr_key.specs.Series.{is_tag, tail_text}
use Rattle.rr_key.specs.Unit.{escape, unescape}
use Rattle.rr_key.proofs.EscapeLemmas.{both_true, unescape-escape}
use Rattle.rr_key.proofs.NameLemmas.{Divides, some_if}
use Rattle.rr_key.proofs.TagLemmas.{tag_at-escape, tag_at-found, strip_is, strip_none, tag_shorter}

pub tail_divides : (class : Class) (tags : List (List ℕ × List ℕ)) (field : List ℕ)
    → Divides class (tail_text tags field)
tail_divides Measurement [] field = refl
tail_divides Other [] field = refl
tail_divides Measurement (tag ∷ tags) field = refl
tail_divides Other (tag ∷ tags) field = refl

pub tail_text-cons : (tag : List ℕ × List ℕ) (tags : List (List ℕ × List ℕ)) (field : List ℕ)
    → tail_text (tag ∷ tags) field ≡ 44 ∷ (escape Other tag.0 ++ 61 ∷ (escape Other tag.1 ++ tail_text tags field))
tail_text-cons tag tags field = simp append_assoc

-- a tail that begins with a comma has a tag there
record HasTag (before : List ℕ) (count : ℕ) (text : List ℕ) : Type 0 where
  key : List ℕ
  rest : List ℕ
  found : tag_at text ≡ Some (escape Other key, rest)
  above : is_lt (slice_cmp nat_cmp before key) ≡ true
  room : count + 1 ≤ 32
  tail : IsTail key (count + 1) rest

has_tag_of : (before : List ℕ) (count : ℕ) (text : List ℕ) (tags : List (List ℕ × List ℕ)) (field : List ℕ)
    → rises before tags ≡ true → list_all is_tag tags ≡ true → is_name field ≡ true → count + length tags ≤ 32
    → 44 ∷ text ≡ tail_text tags field → HasTag before count text
has_tag_of before count text [] field rising named last few is =
    let heads : ◌≡◌ {A = ℕ} 44 32 = ap (λ (l : List ℕ). get_or l 0 0) is in
    absurd (omega arith)
has_tag_of before count text (tag ∷ tags) field rising named last few is =
    let up = both_true (is_lt (slice_cmp nat_cmp before tag.0)) (rises tag.0 tags) rising in
    let names = both_true (is_tag tag) (list_all is_tag tags) named in
    let both = both_true (is_name tag.0) (is_name tag.1) names.0 in
    let e = is ∙ tail_text-cons tag tags field in
    let text_is : text ≡ escape Other tag.0 ++ 61 ∷ (escape Other tag.1 ++ tail_text tags field) = ap (drop 1) e in
    record {
      key = tag.0;
      rest = tail_text tags field;
      found = ap tag_at text_is ∙ tag_at-escape tag.0 tag.1 (tail_text tags field) both.0 both.1
          (tail_divides Other tags field);
      above = up.0;
      room = omega arith;
      tail = record {
        tags = tags;
        field = field;
        rising = up.1;
        named = names.1;
        last = last;
        few = omega arith;
        is =
            refl;
      };
    }

has_tag : (before : List ℕ) (count : ℕ) (text : List ℕ) → IsTail before count (44 ∷ text) → HasTag before count text
has_tag before count text t = has_tag_of before count text t.tags t.field t.rising t.named t.last t.few t.is

-- what a tail is, once its first tag is found
pub record IsStep (before : List ℕ) (count : ℕ) (raw rest : List ℕ) : Type 0 where
  pub above : is_lt (slice_cmp nat_cmp before (unescape Other raw)) ≡ true
  pub room : count + 1 ≤ 32
  pub tail : IsTail (unescape Other raw) (count + 1) rest

tail_step : (before : List ℕ) (count : ℕ) (text raw rest : List ℕ) → tag_at text ≡ Some (raw, rest)
    → IsTail before count (44 ∷ text) → IsStep before count raw rest
tail_step before count text raw rest e t =
    let h = has_tag before count text t in
    let same = (some_if true (escape Other h.key, h.rest) (raw, rest) (sym h.found ∙ e)).1 in
    let key : h.key ≡ unescape Other raw = sym (unescape-escape Other h.key)
    ∙ ap (λ (p : List ℕ × List ℕ). unescape Other p.0) same in
    let tail = subst (λ (k : List ℕ). IsTail k (count + 1) h.rest) key h.tail in
    record {
      above = ap (λ (k : List ℕ). is_lt (slice_cmp nat_cmp before k)) (sym key) ∙ h.above;
      room = h.room;
      tail = subst (λ (l : List ℕ). IsTail (unescape Other raw) (count + 1) l) (ap (λ (p : List ℕ × List ℕ). p.1) same)
          tail;
    }

tail_no_tag : (before : List ℕ) (count : ℕ) (text : List ℕ) → tag_at text ≡ None → IsTail before count (44 ∷ text) → ⊥
tail_no_tag before count text e t =
    let h = has_tag before count text t in
    let none = sym h.found ∙ e in
    absurd cc

-- a tag before a tail is a tail
tail_back : (before : List ℕ) (count : ℕ) (text raw rest : List ℕ) → tag_at text ≡ Some (raw, rest)
    → IsStep before count raw rest → IsTail before count (44 ∷ text)
tail_back before count text raw rest e s =
    let f = tag_at-found text raw rest e in
    let t = s.tail in
    let above : is_lt (slice_cmp nat_cmp before f.key) ≡ true =
    ap (λ (k : List ℕ). is_lt (slice_cmp nat_cmp before k)) (sym f.key_is) ∙ s.above in
    let rising : rises f.key t.tags ≡ true = ap (λ (k : List ℕ). rises k t.tags) (sym f.key_is) ∙ t.rising in
    let whole : 44 ∷ text ≡ tail_text ((f.key, f.value) ∷ t.tags) t.field =
    ap (λ (l : List ℕ). 44 ∷ l) (f.whole ∙ ap (λ (l : List ℕ). escape Other f.key ++ 61 ∷ (escape Other f.value ++ l))
    t.is)
    ∙ sym (tail_text-cons (f.key, f.value) t.tags t.field) in
    record {
      tags = (f.key, f.value) ∷ t.tags;
      field = t.field;
      rising = rw (above, rising) refl;
      named = ap (λ (b : Bool). b && list_all is_tag t.tags) f.named ∙ t.named;
      last = t.last;
      few = omega (arith, t.few);
      is = whole;
    }

-- a tail that is no tag is the last part
last_if : (text : List ℕ) (tags : List (List ℕ × List ℕ)) (field : List ℕ) → strip 44 text ≡ None → is_name field ≡ true
    → text ≡ tail_text tags field → IsLast text
last_if text [] field e last is = (field, last, is)
last_if text (tag ∷ tags) field e last is = absurd (strip_none 44 text _ e (is ∙ tail_text-cons tag tags field))

pub step_of : (before : List ℕ) (count : ℕ) (left tag raw rest : List ℕ) → strip 44 left ≡ Some tag
    → tag_at tag ≡ Some (raw, rest) → IsTail before count left ↔ IsStep before count raw rest
step_of before count left tag raw rest s e =
    let is = strip_is 44 left tag s in (
      λ t. tail_step before count tag raw rest e (subst (IsTail before count) is t),
      λ t. subst (IsTail before count) (sym is) (tail_back before count tag raw rest e t),
    )

pub no_step : (before : List ℕ) (count : ℕ) (left tag : List ℕ) → strip 44 left ≡ Some tag → tag_at tag ≡ None
    → IsTail before count left → ⊥
no_step before count left tag s e t = tail_no_tag before count tag e
    (subst (IsTail before count) (strip_is 44 left tag s) t)

pub last_of : (before : List ℕ) (count : ℕ) (left : List ℕ) → strip 44 left ≡ None → count ≤ 32
    → IsTail before count left ↔ IsLast left
last_of before count left e few = (
  λ t. last_if left t.tags t.field e t.last t.is,
  λ l. record { tags = []; field = l.0; rising = refl; named = refl; last = l.1; few = omega arith; is = l.2 },
)

pub step_shorter : (left tag raw rest : List ℕ) → strip 44 left ≡ Some tag → tag_at tag ≡ Some (raw, rest)
    → length rest < length left
step_shorter left tag raw rest s e = omega (arith, tag_shorter tag raw rest e, ap length (strip_is 44 left tag s))
