-- A name and the units that write it: each gives back the other, and the units end where the name does.
use Rattle.std.proofs.Common.{◌≡◌, ℕ, zero, suc, ◌+◌, Bool, true, false, eqb, ◌&&◌, List, [], ◌∷◌, ◌++◌, length, take, refl, sym, ap, ◌∙◌, inl, inr, arith, add-one}
use Rattle.std.proofs.lemmas.Bool.{cases_Bool, eqb-true}
use Rattle.rr_key.specs.declared.class.Class.{Class}
use Rattle.rr_key.specs.Class.{is_special}
use Rattle.rr_key.specs.Unit.{escape, unescape, name_len}
use Rattle.rr_key.specs.Name.{MayFollow}
use Rattle.rr_key.proofs.Special.{backslash_plain, special_no_backslash, and_false}

-- a byte that does not take what follows it
abbrev pub TakesNone : Class → ℕ → List ℕ → Type 0
TakesNone class b [] = Unit {0}
TakesNone class b (c ∷ cs) = (eqb b 92 && is_special class c) ≡ false

pub both_true : (a b : Bool) → (a && b) ≡ true → (a ≡ true) × (b ≡ true)
both_true true b e = (refl, e)
both_true false b e = absurd cc

no_and : (a b : Bool) → a ≡ false → (a && b) ≡ false
no_and a b e = rw e refl

-- what is written after a byte begins with no special byte
takes_none : (class : Class) (b : ℕ) (name rest : List ℕ) → MayFollow class (b ∷ name) rest
    → TakesNone class b (escape class name ++ rest)
takes_none class b [] [] h = tt
takes_none class b [] (r ∷ rs) h = no_and (eqb b 92) (is_special class r) h.1
takes_none class b (c ∷ cs) rest h =
    elim (cases_Bool (is_special class c)) [
      | inl special ↦ rw (special, backslash_plain class) (and_false (eqb b 92))
      | inr plain ↦ rw (plain, plain) (and_false (eqb b 92))
    ]

follows_tail : (class : Class) (b : ℕ) (name rest : List ℕ) → MayFollow class (b ∷ name) rest
    → MayFollow class name rest
follows_tail class b name [] h = tt
follows_tail class b [] (r ∷ rs) h = (h.0, refl)
follows_tail class b (c ∷ cs) (r ∷ rs) h = h

-- a byte that stands for itself is one more byte of the name
name_len-plain : (class : Class) (b : ℕ) (rest : List ℕ) → is_special class b ≡ false → TakesNone class b rest
    → name_len class (b ∷ rest) ≡ name_len class rest + 1
name_len-plain class b [] plain h = rw plain refl
name_len-plain class b (c ∷ cs) plain h = rw (h, plain) refl

unescape-plain : (class : Class) (b : ℕ) (rest : List ℕ) → TakesNone class b rest
    → unescape class (b ∷ rest) ≡ b ∷ unescape class rest
unescape-plain class b [] h = refl
unescape-plain class b (c ∷ cs) h = rw h refl

ends_here : (class : Class) (name rest : List ℕ) → MayFollow class name rest → name_len class rest ≡ 0
ends_here class name [] h = refl
ends_here class name (b ∷ []) h = rw h.0 refl
ends_here class name (b ∷ c ∷ cs) h = rw (special_no_backslash class b h.0, h.0) refl

pub name_len-escape : (class : Class) (name rest : List ℕ) → MayFollow class name rest
    → name_len class (escape class name ++ rest) ≡ length (escape class name)
name_len-escape class [] rest h = ends_here class [] rest h
name_len-escape class (b ∷ name) rest h =
    let later = name_len-escape class name rest (follows_tail class b name rest h) in
    elim (cases_Bool (is_special class b)) [
      | inl special ↦ rw (special, special) (ap (λ (n : ℕ). n + 2) later ∙ omega arith)
      | inr plain ↦ rw plain (name_len-plain class b (escape class name ++ rest) plain (takes_none class b name rest h)
          ∙ ap (λ (n : ℕ). n + 1) later ∙ omega arith)
    ]

pub unescape-escape : (class : Class) (name : List ℕ) → unescape class (escape class name) ≡ name
unescape-escape class [] = refl
unescape-escape class (b ∷ name) =
    elim (cases_Bool (is_special class b)) [
      | inl special ↦ rw (special, special) (ap (λ (l : List ℕ). b ∷ l) (unescape-escape class name))
      | inr plain ↦ rw plain (unescape-plain class b (escape class name) (alone b name)
          ∙ ap (λ (l : List ℕ). b ∷ l) (unescape-escape class name))
    ]
  where
    alone : (b : ℕ) (name : List ℕ) → TakesNone class b (escape class name)
    alone b [] = tt
    alone b (c ∷ cs) =
        elim (cases_Bool (is_special class c)) [
          | inl special ↦ rw (special, backslash_plain class) (and_false (eqb b 92))
          | inr plain ↦ rw (plain, plain) (and_false (eqb b 92))
        ]

takes_none_prefix : (class : Class) (b : ℕ) (rest : List ℕ) (k : ℕ) → TakesNone class b rest
    → TakesNone class b (take k rest)
takes_none_prefix class b rest zero h = tt
takes_none_prefix class b [] (suc k) h = tt
takes_none_prefix class b (c ∷ cs) (suc k) h = h

-- the units at the beginning are those that write what they stand for
pub escape-unescape : (class : Class) (text : List ℕ)
    → escape class (unescape class (take (name_len class text) text)) ≡ take (name_len class text) text
escape-unescape class [] = refl
escape-unescape class (b ∷ []) =
    elim (cases_Bool (is_special class b)) [
      | inl special ↦ rw special refl
      | inr plain ↦ rw (plain, plain) refl
    ]
escape-unescape class (b ∷ c ∷ cs) =
    elim (cases_Bool (eqb b 92 && is_special class c)) [
      | inl pair ↦
          let parts = both_true (eqb b 92) (is_special class c) pair in
          let x = take (name_len class cs) cs in
          let n : name_len class cs + 2 ≡ suc (suc (name_len class cs)) = omega arith in
          let read : unescape class (b ∷ c ∷ x) ≡ c ∷ unescape class x = rw pair refl in
          let written : escape class (c ∷ unescape class x) ≡ 92 ∷ c ∷ escape class (unescape class x) =
          rw parts.1 refl in
          let prefix : 92 ∷ c ∷ escape class (unescape class x) ≡ b ∷ c ∷ x =
          ap (λ (y : ℕ). y ∷ c ∷ escape class (unescape class x)) (sym (eqb-true b 92 parts.0))
          ∙ ap (λ (l : List ℕ). b ∷ c ∷ l) (escape-unescape class cs) in
          rw (pair, n) (ap (escape class) read ∙ written ∙ prefix)
      | inr apart ↦ elim (cases_Bool (is_special class b)) [
        | inl special ↦ rw (apart, special) refl
        | inr plain ↦
            let x = take (name_len class (c ∷ cs)) (c ∷ cs) in
            let read : unescape class (b ∷ x) ≡ b ∷ unescape class x =
            unescape-plain class b x (takes_none_prefix class b (c ∷ cs) (name_len class (c ∷ cs)) apart) in
            let written : escape class (b ∷ unescape class x) ≡ b ∷ x =
            rw plain (ap (λ (l : List ℕ). b ∷ l) (escape-unescape class (c ∷ cs))) in
            rw (apart, plain, add-one) (ap (escape class) read ∙ written)
      ]
    ]
