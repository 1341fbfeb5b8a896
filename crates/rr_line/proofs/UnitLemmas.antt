-- Names as lists of units, and where the scan of a name ends.
use Rattle.std.proofs.Common.{◌≡◌, ℕ, ◌<◌, true, false, eqb, ◌&&◌, List, [], ◌∷◌, ◌++◌, length, take, refl, sym, ap, ◌∙◌, inl, inr, arith}
use Rattle.std.proofs.lemmas.Bool.{cases_Bool}
use Rattle.std.proofs.Math.Seq.{take-append_seam}
use Rattle.rr_key.specs.declared.class.Class.{Class}
use Rattle.rr_key.specs.Class.{is_special}
use Rattle.rr_key.specs.Name.{ends_in_backslash, MayFollow}
use Rattle.rr_key.specs.Unit.{escape, unescape, name_len}
use Rattle.rr_key.proofs.EscapeLemmas.{escape-unescape, name_len-escape, both_true}
use Rattle.rr_key.proofs.NameLemmas.{ends-escape}
use Rattle.rr_key.proofs.Special.{special_no_backslash}
use Rattle.rr_line.specs.Part.{IsName, HasNoName}

-- a name ends before a special byte
stops : (class : Class) (name : List ℕ) (byte : ℕ) (rest : List ℕ) → name_len class (name ++ byte ∷ rest) ≡ length name
    → is_special class byte ≡ true
stops class [] byte [] e =
    elim (cases_Bool (is_special class byte)) [
      | inl special ↦ special
      | inr plain ↦ absurd (let one = rw plain at e in omega (arith, one))
    ]
stops class [] byte (c ∷ cs) e =
    elim (cases_Bool (is_special class byte)) [
      | inl special ↦ special
      | inr plain ↦ elim (cases_Bool (eqb byte 92 && is_special class c)) [
        | inl pair ↦ absurd (let two = rw pair at e in omega (arith, two))
        | inr apart ↦ absurd (let one = rw (apart, plain) at e in omega (arith, one))
      ]
    ]
stops class (b ∷ []) byte rest e =
    elim (cases_Bool (eqb b 92 && is_special class byte)) [
      | inl pair ↦ absurd (let two = rw pair at e in omega (arith, two))
      | inr apart ↦ elim (cases_Bool (is_special class b)) [
        | inl special ↦ absurd (let none = rw (apart, special) at e in omega (arith, none))
        | inr plain ↦ stops class [] byte rest (let more = rw (apart, plain) at e in omega (arith, more))
      ]
    ]
stops class (b ∷ c ∷ name) byte rest e =
    elim (cases_Bool (eqb b 92 && is_special class c)) [
      | inl pair ↦ stops class name byte rest (let more = rw pair at e in omega (arith, more))
      | inr apart ↦ elim (cases_Bool (is_special class b)) [
        | inl special ↦ absurd (let none = rw (apart, special) at e in omega (arith, none))
        | inr plain ↦ stops class (c ∷ name) byte rest (let more = rw (apart, plain) at e in omega (arith, more))
      ]
    ]

-- and no backslash of the name takes it
behind_special : (class : Class) (c : ℕ) (name : List ℕ) → is_special class c ≡ true → ends_in_backslash name ≡ false
    → ends_in_backslash (c ∷ name) ≡ false
behind_special class c [] special e = special_no_backslash class c special
behind_special class c (d ∷ ds) special e = e

ends_plainly : (class : Class) (name : List ℕ) (byte : ℕ) (rest : List ℕ) → is_special class byte ≡ true
    → name_len class (name ++ byte ∷ rest) ≡ length name → ends_in_backslash name ≡ false
ends_plainly class [] byte rest special e = refl
ends_plainly class (b ∷ []) byte rest special e =
    elim (cases_Bool (eqb b 92)) [
      | inl back ↦ absurd (let taken = rw (back, special) at e in omega (arith, taken))
      | inr other ↦ other
    ]
ends_plainly class (b ∷ c ∷ name) byte rest special e =
    elim (cases_Bool (eqb b 92 && is_special class c)) [
      | inl pair ↦ behind_special class c name (both_true (eqb b 92) (is_special class c) pair).1
          (ends_plainly class name byte rest special (let more = rw pair at e in omega (arith, more)))
      | inr apart ↦ elim (cases_Bool (is_special class b)) [
        | inl special_b ↦ absurd (let none = rw (apart, special_b) at e in omega (arith, none))
        | inr plain ↦ ends_plainly class (c ∷ name) byte rest special
            (let more = rw (apart, plain) at e in omega (arith, more))
      ]
    ]

-- the scan of a name ends where its units do
pub scanned : (class : Class) (text name rest : List ℕ) → IsName class text name rest
    → name_len class text ≡ length name
scanned class text name rest h =
    ap (name_len class) (h.whole ∙ ap (λ (prefix : List ℕ). prefix ++ rest) h.units)
    ∙ name_len-escape class h.bytes rest h.ended ∙ ap length (sym h.units)

-- what the scan of a name passed is units, and it ends where no unit follows
pub is_name_scanned : (class : Class) (text name rest : List ℕ) → 0 < length name → name_len class text ≡ length name
    → text ≡ name ++ rest → IsName class text name rest
is_name_scanned class text name rest some len whole =
    let prefix : take (name_len class text) text ≡ name = ap (λ (n : ℕ). take n text) len
    ∙ ap (take (length name)) whole
    ∙ take-append_seam name rest in
    let units : name ≡ escape class (unescape class name) =
    sym (ap (λ (l : List ℕ). escape class (unescape class l)) (sym prefix) ∙ escape-unescape class text ∙ prefix) in
    record {
      bytes = unescape class name;
      some = some;
      units = units;
      ended =
          ended rest (ap (name_len class) (sym whole) ∙ len) units;
      whole = whole;
    }
  where
    ended : (rest : List ℕ) → name_len class (name ++ rest) ≡ length name → name ≡ escape class (unescape class name)
        → MayFollow class (unescape class name) rest
    ended [] len units = tt
    ended (byte ∷ rest) len units =
        let special = stops class name byte rest len in (
          special,
          sym (ends-escape class (unescape class name)) ∙ ap ends_in_backslash (sym units)
              ∙ ends_plainly class name byte rest special len,
        )

-- nothing is scanned exactly where there is no name
pub no_name_scanned : (class : Class) (text : List ℕ) → name_len class text ≡ 0 → HasNoName class text
no_name_scanned class [] len = tt
no_name_scanned class (byte ∷ rest) len = stops class [] byte rest len

pub nothing_scanned : (class : Class) (text : List ℕ) → HasNoName class text → name_len class text ≡ 0
nothing_scanned class [] h = refl
nothing_scanned class (byte ∷ []) h = rw h refl
nothing_scanned class (byte ∷ next ∷ rest) h = rw (special_no_backslash class byte h, h) refl
