-- Names and what follows them, found by the reading and of the grammar.
use Rattle.std.proofs.Common.{◌≡◌, ℕ, zero, suc, ◌-◌, ◌<◌, ◌≤◌, Bool, true, false, eqb, cond, ◌&&◌, List, [], ◌∷◌, ◌++◌, length, get_or, take, drop, Some, None, option_map, Ok, refl, sym, ap, ◌∙◌, inl, inr, arith}
use Rattle.std.proofs.lemmas.Bool.{cases_Bool, eqb-true, eq-eqb, false_from_ne_true}
use Rattle.std.proofs.lemmas.List.{take-append-drop, length-take-le, drop_all}
use Rattle.std.proofs.Math.Dec.{eqb-suc-zero}
use Rattle.std.proofs.Math.Seq.{take-append_seam, drop-append_seam, split_at}
use Rattle.std.proofs.lemmas.List.Sums.{position_or_len_is}
use Rattle.std.specs.List.{position_or_len}
use Rattle.memchr.specs.Find.{IsFirstByte}
use Rattle.rr_text.specs.Bytes.{strip, begins}
use Rattle.rr_key.specs.declared.class.Class.{Class}
use Rattle.rr_key.specs.Class.{is_special}
use Rattle.rr_key.specs.Unit.{name_len}
use Rattle.rr_line.specs.declared.fault.LineFault.{LineFault}
use Rattle.rr_line.specs.Part.{IsName, HasNoName, cut_after, before_last}
use Rattle.rr_line.specs.Reading.{name_at}
use Rattle.rr_line.proofs.UnitLemmas.{scanned, is_name_scanned, no_name_scanned, nothing_scanned}
use Rattle.rr_line.proofs.AgreeLemmas.{Agrees, Agrees-as, Agrees-unless, Agrees-ok}

-- the cut of a text after a prefix of this length
pub cut_is : (len : ℕ) (text prefix rest : List ℕ) → len ≡ length prefix → text ≡ prefix ++ rest
    → cut_after len text ≡ (prefix, rest)
cut_is len text prefix rest e whole = rw (e, whole, take-append_seam prefix rest, drop-append_seam prefix rest) refl

pub first_is : {A B : Type 0} (x y : A × B) → x ≡ y → (x.0 ≡ y.0) × (x.1 ≡ y.1)
first_is x y e = (ap (λ p. p.0) e, ap (λ p. p.1) e)

pub name_len_within : (class : Class) (text : List ℕ) → name_len class text ≤ length text
name_len_within class [] = omega arith
name_len_within class (b ∷ []) =
    elim (cases_Bool (is_special class b)) [
      | inl special ↦ rw special (omega arith)
      | inr plain ↦ rw plain (omega arith)
    ]
name_len_within class (b ∷ c ∷ cs) =
    elim (cases_Bool (eqb b 92 && is_special class c)) [
      | inl pair ↦ rw pair (omega (arith, name_len_within class cs))
      | inr apart ↦ elim (cases_Bool (is_special class b)) [
        | inl special ↦ rw (apart, special) (omega arith)
        | inr plain ↦ rw (apart, plain) (omega (arith, name_len_within class (c ∷ cs)))
      ]
    ]

above_zero : (n : ℕ) → eqb n 0 ≡ false → 0 < n
above_zero zero e = absurd cc
above_zero (suc n) e = omega arith

pub not_zero : (n m : ℕ) → n ≡ m → 0 < m → eqb n 0 ≡ false
not_zero zero m e lt = absurd (omega arith)
not_zero (suc n) m e lt = eqb-suc-zero n

name_to : (class : Class) (text : List ℕ) (p : List ℕ × List ℕ)
    → (eqb (name_len class text) 0 ≡ false) × (cut_after (name_len class text) text ≡ p) → IsName class text p.0 p.1
name_to class text p h =
    let n = name_len class text in
    let prefix : take n text ≡ p.0 = ap (λ (q : List ℕ × List ℕ). q.0) h.1 in
    let back : drop n text ≡ p.1 = ap (λ (q : List ℕ × List ℕ). q.1) h.1 in
    let len : length p.0 ≡ n = ap length (sym prefix) ∙ length-take-le n text (name_len_within class text) in
    is_name_scanned class text p.0 p.1 (omega (arith, len, above_zero n h.0)) (sym len)
    (sym (take-append-drop n text) ∙ rw (prefix, back) refl)

name_from : (class : Class) (text : List ℕ) (p : List ℕ × List ℕ) → IsName class text p.0 p.1
    → (eqb (name_len class text) 0 ≡ false) × (cut_after (name_len class text) text ≡ p)
name_from class text (prefix, rest) h =
    let len = scanned class text prefix rest h in
    (not_zero _ _ len h.some, cut_is (name_len class text) text prefix rest len h.whole)

pub name_agrees : (class : Class) (missing : LineFault) (text : List ℕ)
    → Agrees (name_at class missing text) (λ p. IsName class text p.0 p.1)
    (λ fault. HasNoName class text × (fault ≡ missing))
name_agrees class missing text =
    let n = name_len class text in
    Agrees-as (name_at class missing text) _ _ _ _ (name_to class text) (name_from class text)
    (λ fault h. elim h [ inl is ↦ (no_name_scanned class text (eqb-true n 0 is.0), is.1) | inr is ↦ absurd is.1 ])
    (λ fault h. inl (eq-eqb n 0 (nothing_scanned class text h.0), h.1))
    (Agrees-unless missing (eqb n 0) (Ok (cut_after n text)) (λ p. cut_after n text ≡ p) (λ fault. ⊥)
    (λ e. Agrees-ok (cut_after n text)))

-- a byte at the beginning
pub strip_some : (byte : ℕ) (text rest : List ℕ) → strip byte text ≡ Some rest → text ≡ byte ∷ rest
strip_some byte [] rest e = absurd cc
strip_some byte (first ∷ text) rest e =
    elim (cases_Bool (eqb first byte)) [
      | inl here ↦ let same : text ≡ rest = (let cut = rw here at e in cc) in rw (same, eqb-true first byte here) refl
      | inr other ↦ absurd (let cut = rw other at e in cc)
    ]

pub strip_there : (byte : ℕ) (rest : List ℕ) → strip byte (byte ∷ rest) ≡ Some rest
strip_there byte rest = rw (eq-eqb byte byte refl) refl

pub strip_none : (byte : ℕ) (text : List ℕ) → strip byte text ≡ None → begins byte text ≡ false
strip_none byte [] e = refl
strip_none byte (first ∷ text) e =
    elim (cases_Bool (eqb first byte)) [
      | inl here ↦ absurd (let cut = rw here at e in cc)
      | inr other ↦ other
    ]

pub strip_lacks : (byte : ℕ) (text : List ℕ) → begins byte text ≡ false → strip byte text ≡ None
strip_lacks byte [] e = refl
strip_lacks byte (first ∷ text) e = rw e refl

pub begins_there : (byte : ℕ) (rest : List ℕ) → begins byte (byte ∷ rest) ≡ true
begins_there byte rest = eq-eqb byte byte refl

-- what `memchr` finds is the place of the first byte that passes, or the end
pub found_first : (test : ℕ → Bool) (text : List ℕ) (at : ℕ) → IsFirstByte test text (Some at)
    → at ≡ position_or_len test text
found_first test text at h =
    sym (position_or_len_is test text at 0 (let within = h.0.high in omega arith)
    (λ k lt. false_from_ne_true _ (h.0.before k (omega arith) lt)) (λ lt. h.1))

pub found_none : (test : ℕ → Bool) (text : List ℕ) → IsFirstByte test text None
    → length text ≡ position_or_len test text
found_none test text h =
    sym (position_or_len_is test text (length text) 0 (omega arith)
    (λ k lt. false_from_ne_true _ (h k (omega arith) lt)) (λ lt. absurd (omega (arith, lt))))

-- the last byte of a text
pub before_last_there : (byte : ℕ) (prefix : List ℕ) (last : ℕ)
    → before_last byte (prefix ++ last ∷ []) ≡ cond (eqb last byte) (Some prefix) None
before_last_there byte [] last = refl
before_last_there byte (first ∷ []) last = elim (cases_Bool (eqb last byte))
    [ inl here ↦ rw here refl | inr other ↦ rw other refl ]
before_last_there byte (first ∷ next ∷ prefix) last =
    let later = ap (option_map (λ (rest : List ℕ). first ∷ rest)) (before_last_there byte (next ∷ prefix) last) in
    elim (cases_Bool (eqb last byte)) [
      | inl here ↦ let e = rw here at later in rw here e
      | inr other ↦ let e = rw other at later in rw other e
    ]

ends_with_last : (text : List ℕ) → 1 ≤ length text
    → text ≡ take (length text - 1) text ++ get_or text (length text - 1) 0 ∷ []
ends_with_last text some =
    let n = length text - 1 in
    let lt : n < length text = omega arith in
    split_at text n 0 lt ∙ ap (λ (rest : List ℕ). take n text ++ get_or text n 0 ∷ rest)
    (drop_all (suc n) text (omega arith))

pub before_last_at : (byte : ℕ) (text : List ℕ) → 1 ≤ length text
    → before_last byte text ≡ cond (eqb (get_or text (length text - 1) 0) byte) (Some (take (length text - 1) text))
    None
before_last_at byte text some = ap (before_last byte) (ends_with_last text some)
    ∙ before_last_there byte (take (length text - 1) text) (get_or text (length text - 1) 0)
