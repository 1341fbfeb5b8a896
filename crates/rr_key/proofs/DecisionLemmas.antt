-- Whether a text is a key text, decided byte by byte.
use Rattle.std.proofs.Common.{◌≡◌, ℕ, zero, suc, ◌+◌, ◌≤◌, ◌↔◌, true, false, leb, eqb, ◌&&◌, List, [], length, Option, None, Some, refl, ap, arith}
use Rattle.std.proofs.lemmas.Bool.{leb-true, le-leb}
use Rattle.std.specs.Ordering.{is_lt}
use Rattle.rr_key.specs.declared.class.Class.TheVariants.{Measurement, Other}
use Rattle.rr_text.specs.declared.limits.TheConstants.{MAX_TAGS}
use Rattle.rr_key.specs.Reading.{name_at, tag_at, IsTail, IsLast, is_some_and, if_comma, is_last, is_tail, is_key_text}
use Rattle.rr_text.specs.Bytes.{strip}
use Rattle.rr_key.specs.Series.{bytes_cmp, IsKeyText}
use Rattle.rr_key.specs.Unit.{unescape}
use Rattle.rr_key.proofs.EscapeLemmas.{both_true}
use Rattle.rr_key.proofs.KeyTextLemmas.{found_key_text, key_text_found, no_key_text, last_is, no_last, no_space}
use Rattle.rr_key.proofs.TailLemmas.{step_of, no_step, last_of}

-- the last part
Decides-is_last : (text : List ℕ) → (is_last text ≡ true) ↔ IsLast text
Decides-is_last text = at (strip 32 text) refl
  where
    named : (field : List ℕ) (o : Option (List ℕ × List ℕ)) → strip 32 text ≡ Some field → name_at Other field ≡ o
        → (is_some_and o (λ name. eqb (length name.1) 0) ≡ true) ↔ IsLast text
    named field None s e = (λ t. absurd cc, λ l. absurd (no_last text field s e l))
    named field (Some (raw, rest)) s e = last_is text field raw rest s e

    at : (o : Option (List ℕ)) → strip 32 text ≡ o
        → (is_some_and o (λ field. is_some_and (name_at Other field) (λ name. eqb (length name.1) 0)) ≡ true)
        ↔ IsLast text
    at None s = (λ t. absurd cc, λ l. absurd (no_space text s l))
    at (Some field) s = named field (name_at Other field) s refl

-- where there is no comma
Decides-end : (before : List ℕ) (count : ℕ) (text : List ℕ) → strip 44 text ≡ None → count ≤ 32
    → (is_last text ≡ true) ↔ IsTail before count text
Decides-end before count text s few =
    let decided = Decides-is_last text in
    let last = last_of before count text s few in
    (λ t. last.1 (decided.0 t), λ tail. decided.1 (last.0 tail))

Later : ℕ → Type 0
Later room = (before : List ℕ) (count : ℕ) (text : List ℕ) → room + count ≡ 32
    → (is_tail room before text ≡ true) ↔ IsTail before count text

Decides-is_tail : (room : ℕ) (before : List ℕ) (count : ℕ) (text : List ℕ) → room + count ≡ 32
    → (is_tail room before text ≡ true) ↔ IsTail before count text
Decides-is_tail zero before count text full = at (strip 44 text) refl
  where
    none : (tag : List ℕ) (o : Option (List ℕ × List ℕ)) → strip 44 text ≡ Some tag → tag_at tag ≡ o
        → IsTail before count text → ⊥
    none tag None s e tail = no_step before count text tag s e tail
    none tag (Some (raw, rest)) s e tail = let room = ((step_of before count text tag raw rest s e).0 tail).room in
        omega (arith, room, full)

    at : (o : Option (List ℕ)) → strip 44 text ≡ o
        → (if_comma o (is_last text) (λ tag. false) ≡ true) ↔ IsTail before count text
    at None s = Decides-end before count text s (omega (arith, full))
    at (Some tag) s = (λ t. absurd cc, λ tail. absurd (none tag (tag_at tag) s refl tail))
Decides-is_tail (suc room) before count text left =
    at (strip 44 text) refl (λ key rest. Decides-is_tail room key (count + 1) rest (omega (arith, left)))
  where
    Next : Type 0
    Next = (key rest : List ℕ) → (is_tail room key rest ≡ true) ↔ IsTail key (count + 1) rest

    named : (tag : List ℕ) (o : Option (List ℕ × List ℕ)) → strip 44 text ≡ Some tag → tag_at tag ≡ o → Next
        → (is_some_and o (λ key. is_lt (bytes_cmp before (unescape Other key.0))
        && is_tail room (unescape Other key.0) key.1) ≡ true) ↔ IsTail before count text
    named tag None s e next = (λ t. absurd cc, λ tail. absurd (no_step before count text tag s e tail))
    named tag (Some (raw, rest)) s e next =
        let step = step_of before count text tag raw rest s e in
        let later = next (unescape Other raw) rest in (
          λ t. let both = both_true (is_lt (bytes_cmp before (unescape Other raw)))
              (is_tail room (unescape Other raw) rest) t in
              step.1 (record { above = both.0; room = omega (arith, left); tail = later.0 both.1 }),
          λ tail. let is = step.0 tail in rw (is.above, later.1 is.tail) refl,
        )

    at : (o : Option (List ℕ)) → strip 44 text ≡ o → Next
        → (if_comma o (is_last text) (λ tag. is_some_and (tag_at tag)
        (λ key. is_lt (bytes_cmp before (unescape Other key.0)) && is_tail room (unescape Other key.0) key.1)) ≡ true)
        ↔ IsTail before count text
    at None s next = Decides-end before count text s (omega (arith, left))
    at (Some tag) s next = named tag (tag_at tag) s refl next

short_of : (text : List ℕ) → IsKeyText text → length text ≤ 1024
short_of text k = omega (arith, ap length k.whole, k.named.short)

pub Decides-is_key_text : (text : List ℕ) → (is_key_text text ≡ true) ↔ IsKeyText text
unfolding is_key_text
Decides-is_key_text text = at (name_at Measurement text) refl
  where
    at : (o : Option (List ℕ × List ℕ)) → name_at Measurement text ≡ o
        → ((leb (length text) 1024 && is_some_and o (λ name. is_tail MAX_TAGS [] name.1)) ≡ true) ↔ IsKeyText text
    at None e = (
      λ t. absurd (let none = (both_true (leb (length text) 1024) false t).1 in cc),
      λ k. absurd (no_key_text text e k),
    )
    at (Some (raw, tail)) e =
        let decided = Decides-is_tail MAX_TAGS [] 0 tail refl in (
          λ t. let both = both_true (leb (length text) 1024) (is_tail MAX_TAGS [] tail) t in
              found_key_text text raw tail (leb-true (length text) 1024 both.0) e (decided.0 both.1),
          λ k. rw (le-leb (length text) 1024 (short_of text k), decided.1 (key_text_found text raw tail e k)) refl,
        )
