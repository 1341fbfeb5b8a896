-- The last space of a key text is the one before its field, unless a backslash precedes it.
use Rattle.std.proofs.Common.{◌≡◌, ℕ, zero, suc, ◌+◌, ◌-◌, ◌<◌, ◌≤◌, List, [], ◌∷◌, ◌++◌, length, length-append, get_or, take, drop, None, Some, refl, sym, ap, subst, ◌∙◌, inl, inr, arith, ltb}
use Rattle.std.proofs.Math.Seq.{get_or-append_seam}
use Rattle.std.proofs.lemmas.Bool.{cases_Bool, false≢true, eq-eqb, eqb-true, ltb-true, ltb-false}
use Rattle.std.proofs.lemmas.List.{get_or-append-add, get_or-take, length-take-le}
use Rattle.memchr.specs.Find.{IsLastByte, is_byte}
use Rattle.rr_text.specs.declared.bytes.TheConstants.{BACKSLASH, SPACE}
use Rattle.rr_key.specs.declared.class.Class.TheVariants.{Other}
use Rattle.rr_key.specs.Class.{is_special}
use Rattle.rr_key.specs.Unit.{escape}
use Rattle.rr_line.specs.Beginning.{IsCut}
use Rattle.rr_line.specs.Part.{cut_after, before_last}
use Rattle.rr_line.proofs.PartLemmas.{cut_is, first_is, before_last_at}

-- a written name begins with no space
first_is_no_space : (name : List ℕ) → get_or (escape Other name) 0 0 ≡ SPACE → ⊥
first_is_no_space [] e = omega arith
first_is_no_space (byte ∷ name) e =
    elim (cases_Bool (is_special Other byte)) [
      | inl special ↦ let back : BACKSLASH ≡ SPACE = rw special at e in omega arith
      | inr plain ↦
          let space : byte ≡ SPACE = rw plain at e in
          false≢true (sym plain ∙ ap (is_special Other) space)
    ]

-- and has a backslash before each of its spaces
space_is_taken : (name : List ℕ) (i : ℕ) → get_or (escape Other name) (suc i) 0 ≡ SPACE
    → get_or (escape Other name) i 0 ≡ BACKSLASH
space_is_taken [] i e = absurd (omega arith)
space_is_taken (byte ∷ name) zero e =
    elim (cases_Bool (is_special Other byte)) [
      | inl special ↦ rw special refl
      | inr plain ↦ absurd (first_is_no_space name (rw plain at e))
    ]
space_is_taken (byte ∷ name) (suc zero) e =
    elim (cases_Bool (is_special Other byte)) [
      | inl special ↦ absurd (first_is_no_space name (rw special at e))
      | inr plain ↦ let later = space_is_taken name zero (rw plain at e) in rw plain later
    ]
space_is_taken (byte ∷ name) (suc (suc i)) e =
    elim (cases_Bool (is_special Other byte)) [
      | inl special ↦ let later = space_is_taken name i (rw special at e) in rw special later
      | inr plain ↦ let later = space_is_taken name (suc i) (rw plain at e) in rw plain later
    ]

-- a space after the one before the name follows a backslash
space_in_name : (text name : List ℕ) (j : ℕ) → get_or (escape Other name) j 0 ≡ SPACE
    → get_or (text ++ SPACE ∷ escape Other name) (length text + j) 0 ≡ BACKSLASH
space_in_name text name zero e = absurd (first_is_no_space name e)
space_in_name text name (suc i) e = get_or-append-add text (SPACE ∷ escape Other name) (suc i) 0
    ∙ space_is_taken name i e

-- the last space that no backslash precedes is the one before the name
last_space : (text name : List ℕ) (at : ℕ) → IsLastByte (is_byte SPACE) (text ++ SPACE ∷ escape Other name) (Some at)
    → (0 < at → get_or (text ++ SPACE ∷ escape Other name) (at - 1) 0 ≡ BACKSLASH → ⊥) → at ≡ length text
last_space text name at last free =
    let key = text ++ SPACE ∷ escape Other name in
    let len = length-append text (SPACE ∷ escape Other name) in
    elim (cases_Bool (ltb at (length text))) [
      | inl before ↦
          let lt = ltb-true _ _ before in
          absurd (last.0.after (length text) (omega arith) (omega arith)
          (eq-eqb _ SPACE (get_or-append_seam text SPACE (escape Other name) 0)))
      | inr from ↦ elim (cases_Bool (ltb (length text) at)) [
        | inr same ↦ let low = ltb-false _ _ from in let high = ltb-false _ _ same in omega arith
        | inl after ↦
            let lt = ltb-true _ _ after in
            let j = at - length text - 1 in
            let at_is : at ≡ length text + suc j = omega arith in
            let space : get_or key at 0 ≡ SPACE = eqb-true _ SPACE last.1 in
            let there : get_or (escape Other name) j 0 ≡ SPACE =
            sym (get_or-append-add text (SPACE ∷ escape Other name) (suc j) 0)
            ∙ ap (λ (i : ℕ). get_or key i 0) (sym at_is) ∙ space in
            let before : length text + j ≡ at - 1 = omega arith in
            absurd (free (omega arith) (ap (λ (i : ℕ). get_or key i 0) (sym before) ∙ space_in_name text name j there))
      ]
    ]

-- a text that is taken ends in no backslash
no_backslash : (key : List ℕ) (at : ℕ) → at ≤ length key → before_last BACKSLASH (take at key) ≡ None → 0 < at
    → get_or key (at - 1) 0 ≡ BACKSLASH → ⊥
no_backslash key at within none some back =
    let len = length-take-le at key within in
    let last : get_or (take at key) (length (take at key) - 1) 0 ≡ BACKSLASH =
    ap (λ (n : ℕ). get_or (take at key) (n - 1) 0) len ∙ get_or-take at key (at - 1) 0 (omega arith) ∙ back in
    let found : before_last BACKSLASH (take at key) ≡ Some (take (length (take at key) - 1) (take at key)) =
    before_last_at BACKSLASH (take at key) (omega (arith, len)) ∙ rw (eq-eqb _ BACKSLASH last) refl in
    absurd cc

-- so what precedes it is the prefix, and what follows it the field
pub cut_at_space : (key field : List ℕ) (at : ℕ) → IsLastByte (is_byte SPACE) key (Some at)
    → before_last BACKSLASH (take at key) ≡ None
    → drop at key ≡ SPACE ∷ field → IsCut key (take at key) field
cut_at_space key field at last none follows = λ text name whole.
    let free = no_backslash key at (omega (arith, last.0.high)) none in
    let is_last = subst (λ (k : List ℕ). IsLastByte (is_byte SPACE) k (Some at)) whole last in
    let is_free = subst (λ (k : List ℕ). 0 < at → get_or k (at - 1) 0 ≡ BACKSLASH → ⊥) whole free in
    let len = last_space text name at is_last is_free in
    let parts = first_is (cut_after at key) (text, SPACE ∷ escape Other name)
    (cut_is at key text (SPACE ∷ escape Other name) len whole) in
    (parts.0, let same = sym follows ∙ parts.1 in cc)
