-- Where a text is cut: at the first place of the delimiter, and nowhere else.
use Rattle.std.proofs.Common.{◌≡◌, ℕ, zero, suc, ◌+◌, ◌<◌, Bool, true, false, eqb, List, [], ◌∷◌, ◌++◌, length, get_or, take, drop, Option, Some, None, option_map, refl, sym, ap, subst, ◌∙◌, inl, inr, add-one, arith}
use Rattle.std.proofs.lemmas.Bool.{false_from_ne_true, and_parts, cases_Bool, eqb-true, ne_eqb, eq-eqb, false≢true}
use Rattle.std.specs.List.{list_all}
use Rattle.memchr.specs.Find.{IsFirstByte, is_byte}
use Rattle.rr_text.specs.Text.{cut_at}

-- a text is cut at a delimiter that has none before it
cut_at-first : (delimiter : ℕ) (text : List ℕ) (k : ℕ) → k < length text
    → ((j : ℕ) → j < k → eqb (get_or text j 0) delimiter ≡ true → ⊥) → eqb (get_or text k 0) delimiter ≡ true
    → cut_at delimiter text ≡ Some (take k text, drop (suc k) text)
cut_at-first delimiter [] k within before here = absurd (omega arith)
cut_at-first delimiter (byte ∷ text) zero within before here = rw here refl
cut_at-first delimiter (byte ∷ text) (suc k) within before here =
    let other : eqb byte delimiter ≡ false = false_from_ne_true _ (before 0 (omega arith)) in
    rw (other, cut_at-first delimiter text k (omega arith) (λ j h. before (suc j) (omega arith)) here) refl

-- a text with no delimiter isn't cut
cut_at-nowhere : (delimiter : ℕ) (text : List ℕ)
    → ((j : ℕ) → j < length text → eqb (get_or text j 0) delimiter ≡ true → ⊥) → cut_at delimiter text ≡ None
cut_at-nowhere delimiter [] before = refl
cut_at-nowhere delimiter (byte ∷ text) before =
    let other : eqb byte delimiter ≡ false = false_from_ne_true _ (before 0 (omega arith)) in
    rw (other, cut_at-nowhere delimiter text (λ j h. before (suc j) (omega arith))) refl

-- what `memchr` finds is where the text is cut
pub cut_at-found : (delimiter : ℕ) (text : List ℕ) (r : Option ℕ) → IsFirstByte (is_byte delimiter) text r
    → option_map (λ k. (take k text, drop (k + 1) text)) r ≡ cut_at delimiter text
cut_at-found delimiter text None h = sym (cut_at-nowhere delimiter text (λ j lt. h j (omega arith) lt))
cut_at-found delimiter text (Some k) h = rw add-one
    (sym (cut_at-first delimiter text k h.0.high (λ j lt. h.0.before j (omega arith) lt) h.1))

some_is : {A : Type 0} (x y : A) → Some x ≡ Some y → x ≡ y
some_is x y e = cc

mapped_some : {A B : Type 0} (f : A → B) (o : Option A) (y : B) → option_map f o ≡ Some y
    → (x : A) × (o ≡ Some x) × (f x ≡ y)
mapped_some f None y e = absurd cc
mapped_some f (Some x) y e = (x, refl, cc)

-- a text that is cut is its two parts, with the delimiter between them
pub parts_of_cut : (delimiter : ℕ) (text before after : List ℕ) → cut_at delimiter text ≡ Some (before, after)
    → text ≡ before ++ delimiter ∷ after
parts_of_cut delimiter [] before after e = absurd cc
parts_of_cut delimiter (byte ∷ text) before after e =
    let IsJoin : List ℕ × List ℕ → Type 0 = λ parts. byte ∷ text ≡ parts.0 ++ delimiter ∷ parts.1 in
    elim (cases_Bool (eqb byte delimiter)) [
      | inl here ↦
          let cut = rw here at e in
          subst IsJoin (some_is ([], text) (before, after) cut)
          (ap (λ (first : ℕ). first ∷ text) (eqb-true byte delimiter here))
      | inr other ↦
          let cut = rw other at e in
          let rest = mapped_some (λ (parts : List ℕ × List ℕ). (byte ∷ parts.0, parts.1)) (cut_at delimiter text)
          (before, after) cut in
          subst IsJoin rest.2 (ap (λ (rest : List ℕ). byte ∷ rest)
          (parts_of_cut delimiter text rest.0.0 rest.0.1 rest.1))
    ]

not_the_delimiter : (test : ℕ → Bool) (delimiter byte : ℕ) → test delimiter ≡ false → test byte ≡ true
    → eqb byte delimiter ≡ false
not_the_delimiter test delimiter byte misses passes =
    ne_eqb byte delimiter (λ e. false≢true (sym misses ∙ ap test (sym e) ∙ passes))

-- a text is cut after bytes that pass a test which the delimiter doesn't
pub cut_at-join : (test : ℕ → Bool) (delimiter : ℕ) → test delimiter ≡ false → (before after : List ℕ)
    → list_all test before ≡ true → cut_at delimiter (before ++ delimiter ∷ after) ≡ Some (before, after)
cut_at-join test delimiter misses [] after passes = rw (eq-eqb delimiter delimiter refl) refl
cut_at-join test delimiter misses (byte ∷ before) after passes =
    let parts = and_parts (test byte) (list_all test before) passes in
    rw (not_the_delimiter test delimiter byte misses parts.0, cut_at-join test delimiter misses before after parts.1)
    refl

-- a text of such bytes alone isn't cut
pub cut_at-none : (test : ℕ → Bool) (delimiter : ℕ) → test delimiter ≡ false → (text : List ℕ)
    → list_all test text ≡ true → cut_at delimiter text ≡ None
cut_at-none test delimiter misses [] passes = refl
cut_at-none test delimiter misses (byte ∷ text) passes =
    let parts = and_parts (test byte) (list_all test text) passes in
    rw (not_the_delimiter test delimiter byte misses parts.0, cut_at-none test delimiter misses text parts.1) refl
