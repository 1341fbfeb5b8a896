-- Where a text is cut at its last comma.
use Rattle.std.proofs.Common.{◌≡◌, ℕ, zero, suc, ◌+◌, ◌<◌, true, false, eqb, List, [], ◌∷◌, length, get_or, take, drop, Some, None, refl, add-one, arith}
use Rattle.std.proofs.lemmas.Bool.{false_from_ne_true}
use Rattle.std.specs.List.{list_any}
use Rattle.memchr.specs.Find.{IsLastByte, is_byte}
use Rattle.rr_text.specs.declared.bytes.TheConstants.{COMMA}
use Rattle.rr_web.specs.Json.{cut_last}

-- no comma stands in a text that has none at any place
no_comma : (text : List ℕ) → ((j : ℕ) → j < length text → eqb (get_or text j 0) COMMA ≡ true → ⊥)
    → list_any (λ other. eqb other COMMA) text ≡ false
no_comma [] none = refl
no_comma (byte ∷ text) none =
    let other : eqb byte COMMA ≡ false = false_from_ne_true _ (none 0 (omega arith)) in
    rw (other, no_comma text (λ j l. none (suc j) (omega arith))) refl

-- one does, if a comma stands at a place
some_comma : (text : List ℕ) (k : ℕ) → k < length text → eqb (get_or text k 0) COMMA ≡ true
    → list_any (λ other. eqb other COMMA) text ≡ true
some_comma [] k within here = absurd (omega arith)
some_comma (byte ∷ text) zero within here = rw here refl
some_comma (byte ∷ text) (suc k) within here = rw (some_comma text k (omega arith) here) (grind arith)

-- a text is cut at a comma that has none behind it
cut_last-here : (text : List ℕ) (k : ℕ) → k < length text
    → ((j : ℕ) → k < j → j < length text → eqb (get_or text j 0) COMMA ≡ true → ⊥)
    → eqb (get_or text k 0) COMMA ≡ true → cut_last text ≡ (take k text, drop (suc k) text)
cut_last-here [] k within behind here = absurd (omega arith)
cut_last-here (byte ∷ text) zero within behind here =
    rw (no_comma text (λ j l. behind (suc j) (omega arith) (omega arith)), here) refl
cut_last-here (byte ∷ text) (suc k) within behind here =
    rw (
      some_comma text k (omega arith) here,
      cut_last-here text k (omega arith) (λ j l m. behind (suc j) (omega arith) (omega arith)) here,
    ) refl

-- a text with no comma isn't cut
cut_last-nowhere : (text : List ℕ) → ((j : ℕ) → j < length text → eqb (get_or text j 0) COMMA ≡ true → ⊥)
    → cut_last text ≡ ([], text)
cut_last-nowhere [] none = refl
cut_last-nowhere (byte ∷ text) none =
    let other : eqb byte COMMA ≡ false = false_from_ne_true _ (none 0 (omega arith)) in
    rw (no_comma text (λ j l. none (suc j) (omega arith)), other) refl

-- what `memrchr` finds is where the text is cut
pub cut_last-some : (text : List ℕ) (k : ℕ) → IsLastByte (is_byte COMMA) text (Some k)
    → cut_last text ≡ (take k text, drop (k + 1) text)
cut_last-some text k h = rw add-one (cut_last-here text k h.0.high (λ j l m. h.0.after j (omega arith) m) h.1)

pub cut_last-none : (text : List ℕ) → IsLastByte (is_byte COMMA) text None → cut_last text ≡ ([], text)
cut_last-none text h = cut_last-nowhere text (λ j l. h j (omega arith) l)
