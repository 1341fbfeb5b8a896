-- The lines of a text of refusals, and their names.
use Rattle.std.proofs.Common.{◌≡◌, ℕ, ◌^◌, ◌<◌, false, eqb, List, [], ◌∷◌, ◌++◌, length, Some, codes, refl, sym, ap, subst, ◌∙◌, inl, inr, append_assoc, arith}
use Rattle.std.specs.Prelude.{count_by, decimal}
use Rattle.std.specs.Char.{digit_value}
use Rattle.std.specs.List.{list_any}
use Rattle.std.specs.Str.{bytes_eq}
use Rattle.std.specs.Str.Parse.{AllDigits}
use Rattle.std.proofs.lemmas.Bool.{cases_Bool, eqb-true, or_parts}
use Rattle.std.proofs.lemmas.Fmt.{decimal_is_IsNumeral}
use Rattle.std.proofs.lemmas.List.Concat.{flat_map-cons}
use Rattle.std.proofs.lemmas.List.Folds.{list_any-append}
use Rattle.std.proofs.lemmas.List.Sums.{sum_by-cons}
use Rattle.rr_text.specs.Refusal.{refusal_text}
use Rattle.rr_text.specs.Text.{cut_at}
use Rattle.rr_text.specs.declared.bytes.TheConstants.{LINE_FEED, SPACE}
use Rattle.rr_batch.specs.declared.refusals.TheConstants.{COLON}
use Rattle.rr_batch.specs.Refusals.{IsRefusal, RefusalsAreCounted, is_name, name_in, refusals_text, whole_lines}

abbrev Lacks : ℕ → List ℕ → Type 0
Lacks byte text = list_any (λ own. eqb own byte) text ≡ false

lacks_both : (byte : ℕ) (text more : List ℕ) → Lacks byte text → Lacks byte more → Lacks byte (text ++ more)
lacks_both byte text more a b = list_any-append (λ own. eqb own byte) text more ∙ rw (a, b) refl

-- digits lack what is none
lacked_by_digits : (byte : ℕ) → (digit_value byte < 10 → ⊥) → (text : List ℕ) → AllDigits 10 text → Lacks byte text
lacked_by_digits byte bad [] all = refl
lacked_by_digits byte bad (own ∷ text) all =
    let rest = lacked_by_digits byte bad text all.1 in
    elim (cases_Bool (eqb own byte)) [
      | inl same ↦ absurd (bad (subst (λ (b : ℕ). digit_value b < 10) (eqb-true own byte same) all.0))
      | inr other ↦ rw (other, rest) refl
    ]

lacked_by_number : (byte : ℕ) → (digit_value byte < 10 → ⊥) → (n : ℕ) → n < 2 ^ 64 → Lacks byte (decimal n)
lacked_by_number byte bad n fits = lacked_by_digits byte bad (decimal n) (decimal_is_IsNumeral n fits).0.1

-- a line that a line feed ends is the first
line_first : (line text : List ℕ) → Lacks LINE_FEED line
    → whole_lines (line ++ LINE_FEED ∷ text) ≡ line ∷ whole_lines text
line_first [] text none = refl
line_first (byte ∷ line) text none =
    let here = or_parts (eqb byte LINE_FEED) (list_any (λ own. eqb own LINE_FEED) line) none in
    rw (here.0, line_first line text here.1) refl

-- a text is cut at its first colon
cut_here : (before after : List ℕ) → Lacks COLON before → cut_at COLON (before ++ COLON ∷ after) ≡ Some (before, after)
cut_here [] after none = refl
cut_here (byte ∷ before) after none =
    let here = or_parts (eqb byte COLON) (list_any (λ own. eqb own COLON) before) none in
    rw (here.0, cut_here before after here.1) refl

-- ---- the line of a refusal

abbrev number_of : ℕ → List ℕ
number_of n = codes "line " ++ decimal n

abbrev line_of : ℕ × List ℕ → List ℕ
line_of r = number_of r.0 ++ COLON ∷ SPACE ∷ r.1

text_is : (r : ℕ × List ℕ) (text : List ℕ) → refusal_text r.0 r.1 ++ text ≡ line_of r ++ LINE_FEED ∷ text
text_is r text = simp append_assoc

name_is : (r : ℕ × List ℕ) → IsRefusal r → name_in (line_of r) ≡ Some r.1
name_is r is =
    let none = lacks_both COLON (codes "line ") (decimal r.0) refl
    (lacked_by_number COLON (λ h. absurd (omega arith)) r.0 is.0) in
    rw (cut_here (number_of r.0) (SPACE ∷ r.1) none) refl

first_line : (r : ℕ × List ℕ) (text : List ℕ) → IsRefusal r
    → whole_lines (refusal_text r.0 r.1 ++ text) ≡ line_of r ∷ whole_lines text
first_line r text is =
    let number = lacks_both LINE_FEED (codes "line ") (decimal r.0) refl
    (lacked_by_number LINE_FEED (λ h. absurd (omega arith)) r.0 is.0) in
    let line = lacks_both LINE_FEED (number_of r.0) (COLON ∷ SPACE ∷ r.1) number is.1 in
    ap whole_lines (text_is r text) ∙ line_first (line_of r) text line

-- ---- the lines of refusals

pub refusals_are_counted : RefusalsAreCounted
refusals_are_counted [] is = (refl, λ name. refl)
refusals_are_counted (r ∷ refusals) is =
    let rest = refusals_are_counted refusals is.1 in
    let text = refusals_text refusals in
    let lines = ap whole_lines (flat_map-cons (λ refusal. refusal_text refusal.0 refusal.1) r refusals)
    ∙ first_line r text is.0 in
    let named : (name : List ℕ) → is_name name (name_in (line_of r)) ≡ bytes_eq name r.1 =
    λ name. ap (is_name name) (name_is r is.0) in (
      ap length lines ∙ grind (arith, rest.0),
      λ name. ap (count_by (λ line. is_name name (name_in line))) lines
          ∙ sum_by-cons _ (line_of r) (whole_lines text) ∙ rw (named name, rest.1 name)
          (sym (sum_by-cons _ r refusals)),
    )
