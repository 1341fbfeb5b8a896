-- Quoted texts, found by the scan and of the grammar.
use Rattle.std.proofs.Common.{◌≡◌, ℕ, true, false, eqb, ◌&&◌, List, [], ◌∷◌, ◌++◌, drop, Option, Some, None, refl, sym, ap, subst, ◌∙◌, inl, inr}
use Rattle.std.proofs.lemmas.Bool.{cases_Bool, and_parts, eqb-true, eq-eqb}
use Rattle.std.specs.List.{flat_map}
use Rattle.rr_text.specs.Bytes.{begins}
use Rattle.rr_text.specs.declared.bytes.TheConstants.{BACKSLASH}
use Rattle.rr_line.specs.declared.mark.TheConstants.{QUOTE}
use Rattle.rr_line.proofs.ScanLemmas.{part_scanned, ended_scanned}
use Rattle.rr_line.specs.Value.{ends_value, value_len, EndsValue, TextUnit, itself, taken, unit_text, is_taken, begins_taken, AreUnits, IsQuoted, after_quote, is_text}

ends_scanned : (rest : List ℕ) → eqb (value_len rest) 0 ≡ true → EndsValue rest
ends_scanned rest e = subst (λ (n : ℕ). EndsValue (drop n rest)) (eqb-true (value_len rest) 0 e)
    (ended_scanned ends_value rest)

-- the bytes after the quote that begins a text are units, the quote that ends it, and a rest
abbrev IsInner : List ℕ → List ℕ → Type 0
IsInner inner rest = (units : List TextUnit) × AreUnits units (QUOTE ∷ rest)
    × (inner ≡ flat_map unit_text units ++ QUOTE ∷ rest)

some_is : (x y : List ℕ) → Some x ≡ Some y → x ≡ y
some_is x y e = cc

-- an end that the scan found follows units
inner_scanned : (inner rest : List ℕ) → after_quote inner ≡ Some rest → IsInner inner rest
inner_scanned [] rest e = absurd cc
inner_scanned (byte ∷ []) rest e =
    elim (cases_Bool (eqb byte QUOTE)) [
      | inl quote ↦ let is = some_is [] rest (rw quote at e) in
          ([], tt, ap (λ (first : ℕ). first ∷ []) (eqb-true byte QUOTE quote) ∙ ap (λ (r : List ℕ). QUOTE ∷ r) is)
      | inr other ↦ absurd (let none = rw other at e in cc)
    ]
inner_scanned (byte ∷ next ∷ more) rest e =
    elim (cases_Bool (eqb byte BACKSLASH && is_taken next)) [
      | inl pair ↦
          let parts = and_parts (eqb byte BACKSLASH) (is_taken next) pair in
          let later = inner_scanned more rest (rw pair at e) in (
            taken next ∷ later.0,
            (parts.1, later.1),
            ap (λ (first : ℕ). first ∷ next ∷ more)
                (eqb-true byte BACKSLASH parts.0) ∙ ap (λ (r : List ℕ). BACKSLASH ∷ next ∷ r) later.2,
          )
      | inr apart ↦ elim (cases_Bool (eqb byte QUOTE)) [
        | inl quote ↦
            let is = some_is (next ∷ more) rest (rw (apart, quote) at e) in (
              [],
              tt,
              ap (λ (first : ℕ). first ∷ next ∷ more) (eqb-true byte QUOTE quote)
                  ∙ ap (λ (r : List ℕ). QUOTE ∷ r) is,
            )
        | inr other ↦
            let later = inner_scanned (next ∷ more) rest (rw (apart, other) at e) in
            let takes_none : eqb byte BACKSLASH ≡ true → begins_taken (flat_map unit_text later.0 ++ QUOTE ∷ rest)
            ≡ false =
            λ back. ap begins_taken (sym later.2) ∙ (let alone = rw back at apart in alone) in
            (itself byte ∷ later.0, ((other, takes_none), later.1), ap (λ (r : List ℕ). byte ∷ r) later.2)
      ]
    ]

one_more : (byte : ℕ) (text rest : List ℕ) → eqb byte QUOTE ≡ false
    → (eqb byte BACKSLASH ≡ true → begins_taken text ≡ false) → after_quote text ≡ Some rest
    → after_quote (byte ∷ text) ≡ Some rest
one_more byte [] rest other alone e = absurd cc
one_more byte (next ∷ more) rest other alone e =
    elim (cases_Bool (eqb byte BACKSLASH)) [
      | inl back ↦ rw (back, alone back, other) e
      | inr plain ↦ rw (plain, other) e
    ]

end_scanned : (rest : List ℕ) → after_quote (QUOTE ∷ rest) ≡ Some rest
end_scanned [] = refl
end_scanned (next ∷ more) = refl

-- and the scan finds the end of units
units_scanned : (units : List TextUnit) (rest : List ℕ) → AreUnits units (QUOTE ∷ rest)
    → after_quote (flat_map unit_text units ++ QUOTE ∷ rest) ≡ Some rest
units_scanned [] rest are = end_scanned rest
units_scanned (taken byte ∷ units) rest are = rw are.0 (units_scanned units rest are.1)
units_scanned (itself byte ∷ units) rest are = one_more byte (flat_map unit_text units ++ QUOTE ∷ rest) rest are.0.0
    are.0.1 (units_scanned units rest are.1)

-- a text value goes up to a quote that a comma, a space or the end follows
pub is_text_of : (text rest : List ℕ) → IsQuoted text rest → EndsValue rest → is_text text ≡ true
is_text_of text rest h ended =
    let found : after_quote (drop 1 text) ≡ Some rest = ap (λ (t : List ℕ). after_quote (drop 1 t)) h.whole
    ∙ units_scanned h.units rest h.are_units in
    let len : eqb (value_len rest) 0 ≡ true = eq-eqb (value_len rest) 0 (part_scanned ends_value [] rest refl ended) in
    rw (found, len) refl

pub text_of : (text : List ℕ) → begins QUOTE text ≡ true → is_text text ≡ true
    → (rest : List ℕ) × IsQuoted text rest × EndsValue rest
text_of [] b e = absurd cc
text_of (first ∷ inner) b e = at (after_quote inner) refl e
  where
    at : (o : Option (List ℕ)) → after_quote inner ≡ o → is_text (first ∷ inner) ≡ true
        → (rest : List ℕ) × IsQuoted (first ∷ inner) rest × EndsValue rest
    at None is e = absurd (let none = rw is at e in cc)
    at (Some rest) is e =
        let found = inner_scanned inner rest is in
        let whole : first ∷ inner ≡ QUOTE ∷ (flat_map unit_text found.0 ++ QUOTE ∷ rest) =
        rw (eqb-true first QUOTE b) (ap (λ (r : List ℕ). QUOTE ∷ r) found.2) in
        (rest, record { units = found.0; are_units = found.1; whole = whole }, ends_scanned rest (rw is at e))
