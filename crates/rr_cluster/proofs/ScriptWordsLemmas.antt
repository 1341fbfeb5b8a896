-- A cut takes the first part off a text that is split at the same byte, and the words of a text make it.
use Rattle.std.proofs.Common.{◌≡◌, ℕ, ◌<◌, length, arith, false, eqb, List, [], ◌∷◌, Option, None, Some, option_map, MatchOption, IfSome, refl, sym, ap, subst, ◌∙◌, inl, inr}
use Rattle.std.proofs.lemmas.Bool.{cases_Bool}
use Rattle.std.proofs.lemmas.List.Splits.{join_with_byte-slice_split}
use Rattle.rr_text.specs.Text.{cut_at}
use Rattle.rr_text.specs.declared.bytes.TheConstants.{SPACE}
use Rattle.rr_cluster.specs.ScriptWords.{are_three, parts_of, text_of, words_of}

-- what a cut says of the parts
abbrev pub Cuts : ℕ → List ℕ → Option (List ℕ × List ℕ) → Type 0
Cuts c text None = parts_of c text ≡ text ∷ []
Cuts c text (Some p) = parts_of c text ≡ p.0 ∷ parts_of c p.1

longer : (c b : ℕ) (text : List ℕ) (o : Option (List ℕ × List ℕ)) → eqb b c ≡ false → Cuts c text o
    → Cuts c (b ∷ text) (option_map (λ (p : List ℕ × List ℕ). (b ∷ p.0, p.1)) o)
longer c b text None other h = rw (other, h) refl
longer c b text (Some p) other h = rw (other, h) refl

pub cut_parts : (c : ℕ) (text : List ℕ) → Cuts c text (cut_at c text)
cut_parts c [] = refl
cut_parts c (b ∷ text) =
    elim (cases_Bool (eqb b c)) [
      | inl here ↦ rw here (rw here refl)
      | inr other ↦ rw other (longer c b text (cut_at c text) other (cut_parts c text))
    ]

-- a text has a first part
pub some_parts : (c : ℕ) (text : List ℕ) → (first : List ℕ) × (rest : List (List ℕ)) × (parts_of c text ≡ first ∷ rest)
some_parts c text = by (cut_at c text) (cut_parts c text)
  where
    by : (o : Option (List ℕ × List ℕ)) → Cuts c text o
        → (first : List ℕ) × (rest : List (List ℕ)) × (parts_of c text ≡ first ∷ rest)
    by None h = (text, [], h)
    by (Some p) h = (p.0, parts_of c p.1, h)

-- what a cut that is seen by f says of the parts
pub cut_is : {T : Type 0} (c : ℕ) (text : List ℕ) (f : T → List ℕ × List ℕ) (o : Option T)
    → option_map f o ≡ cut_at c text → MatchOption o (parts_of c text ≡ text ∷ [])
    (λ x. parts_of c text ≡ (f x).0 ∷ parts_of c (f x).1)
cut_is c text f None e = subst (Cuts c text) (sym e) (cut_parts c text)
cut_is c text f (Some x) e = subst (Cuts c text) (sym e) (cut_parts c text)

-- what follows the cut is shorter
cut_shorter : (c : ℕ) (text : List ℕ) → IfSome {T = List ℕ × List ℕ} (cut_at c text) (λ p. length p.1 < length text)
cut_shorter c [] = tt
cut_shorter c (b ∷ text) =
    elim (cases_Bool (eqb b c)) [
      | inl here ↦ rw here (omega arith)
      | inr other ↦ rw other (longer_text (cut_at c text) (cut_shorter c text))
    ]
  where
    longer_text : (o : Option (List ℕ × List ℕ)) → IfSome {T = List ℕ × List ℕ} o (λ p. length p.1 < length text)
        → IfSome {T = List ℕ × List ℕ} (option_map (λ (p : List ℕ × List ℕ). (b ∷ p.0, p.1)) o)
        (λ p. length p.1 < length (b ∷ text))
    longer_text None h = tt
    longer_text (Some p) h = omega arith

pub cut_is_shorter : {T : Type 0} (c : ℕ) (text : List ℕ) (f : T → List ℕ × List ℕ) (o : Option T)
    → option_map f o ≡ cut_at c text → IfSome o (λ x. length (f x).1 < length text)
cut_is_shorter c text f None e = tt
cut_is_shorter c text f (Some x) e = subst (λ (o : Option (List ℕ × List ℕ)). IfSome {T = List ℕ × List ℕ} o
    (λ p. length p.1 < length text)) (sym e) (cut_shorter c text)

-- the words of a text make it
pub text_of-words : (text first : List ℕ) (rest : List (List ℕ)) → words_of text ≡ first ∷ rest
    → text_of (first ∷ rest) ≡ text
text_of-words text first rest e = ap text_of (sym e) ∙ join_with_byte-slice_split SPACE text

-- four words are too many
pub are_three-more : (first second third rest : List ℕ) → are_three (first ∷ second ∷ third ∷ words_of rest) ≡ false
are_three-more first second third rest = let some = some_parts SPACE rest in rw some.2 refl
