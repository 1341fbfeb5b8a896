-- A tag as it is written, and as it is found.
use Rattle.std.proofs.Common.{◌≡◌, ℕ, true, eqb, ◌<◌, List, [], ◌∷◌, ◌++◌, length, Option, None, Some, refl, sym, ap, ◌∙◌, arith, length-append}
use Rattle.std.specs.Prelude.{option_and_then}
use Rattle.std.proofs.lemmas.Bool.{eqb-true, eq-eqb}
use Rattle.rr_key.specs.declared.class.Class.TheVariants.{Other}
use Rattle.rr_key.specs.Name.{is_name}
use Rattle.rr_key.specs.Reading.{name_at, tag_at}
use Rattle.rr_text.specs.Bytes.{strip}
use Rattle.rr_key.specs.Series.{is_tag}
use Rattle.rr_key.specs.Unit.{escape, unescape}
use Rattle.rr_key.proofs.NameLemmas.{Divides, name_at-escape, name_at-found, some_if}

-- what is read from the bytes after a tag's written key
abbrev after_key : List ℕ → List ℕ → Option (List ℕ × List ℕ)
after_key raw value = option_and_then (λ (end : List ℕ × List ℕ). Some (raw, end.1)) (name_at Other value)

pub tag_at-escape : (key value rest : List ℕ) → is_name key ≡ true → is_name value ≡ true → Divides Other rest
    → tag_at (escape Other key ++ 61 ∷ (escape Other value ++ rest)) ≡ Some (escape Other key, rest)
tag_at-escape key value rest k v d =
    let first = name_at-escape Other key (61 ∷ (escape Other value ++ rest)) k refl in
    let second = name_at-escape Other value rest v d in
    rw (first, second) refl

-- a tag that is found is written there
pub record IsTagFound (text raw rest : List ℕ) : Type 0 where
  pub key : List ℕ
  pub value : List ℕ
  pub named : is_tag (key, value) ≡ true
  pub key_is : unescape Other raw ≡ key
  pub whole : text ≡ escape Other key ++ 61 ∷ (escape Other value ++ rest)

then_some : {A B : Type 0} (f : A → Option B) (o : Option A) (y : B) → option_and_then f o ≡ Some y
    → (x : A) × (o ≡ Some x) × (f x ≡ Some y)
then_some f None y e = absurd cc
then_some f (Some x) y e = (x, refl, e)

pub strip_is : (c : ℕ) (text rest : List ℕ) → strip c text ≡ Some rest → text ≡ c ∷ rest
strip_is c [] rest e = absurd cc
strip_is c (b ∷ bs) rest e =
    let parts = some_if (eqb b c) bs rest e in
    λ i. eqb-true b c parts.0 i ∷ parts.1 i

pub strip_none : (c : ℕ) (text rest : List ℕ) → strip c text ≡ None → text ≡ c ∷ rest → ⊥
strip_none c text rest e is =
    let found : strip c (c ∷ rest) ≡ Some rest = rw (eq-eqb c c refl) refl in
    let both : None ≡ Some rest = sym e ∙ ap (strip c) is ∙ found in
    absurd cc

pub tag_at-found : (text raw rest : List ℕ) → tag_at text ≡ Some (raw, rest) → IsTagFound text raw rest
tag_at-found text raw rest e =
    let first = then_some (λ (key : List ℕ × List ℕ). option_and_then (after_key key.0) (strip 61 key.1))
    (name_at Other text) (raw, rest) e in
    let equals = then_some (after_key first.0.0) (strip 61 first.0.1) (raw, rest) first.2 in
    let second = then_some (λ (end : List ℕ × List ℕ). Some (first.0.0, end.1)) (name_at Other equals.0) (raw, rest)
    equals.2 in
    let pair = (some_if true (first.0.0, second.0.1) (raw, rest) second.2).1 in
    let key = name_at-found Other text first.0.0 first.0.1 first.1 in
    let value = name_at-found Other equals.0 second.0.0 second.0.1 second.1 in
    let value_whole = value.whole ∙ ap (λ (l : List ℕ). escape Other (unescape Other second.0.0) ++ l)
    (ap (λ (p : List ℕ × List ℕ). p.1) pair) in
    record {
      key = unescape Other first.0.0;
      value = unescape Other second.0.0;
      named = rw (key.name, value.name) refl;
      key_is = ap (λ (p : List ℕ × List ℕ). unescape Other p.0) (sym pair);
      whole = key.whole ∙ ap (λ (l : List ℕ). escape Other (unescape Other first.0.0) ++ l)
          (strip_is 61 first.0.1 equals.0 equals.1 ∙ ap (λ (l : List ℕ). 61 ∷ l) value_whole);
    }

pub tag_shorter : (text raw rest : List ℕ) → tag_at text ≡ Some (raw, rest) → length rest < length text
tag_shorter text raw rest e =
    let f = tag_at-found text raw rest e in
    omega (arith, simp length-append at (ap length f.whole))
