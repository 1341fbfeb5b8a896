-- The reading of a cell, once its parts are read.
use Rattle.std.proofs.Common.{◌≡◌, ℕ, ℤ, Bool, true, false, ◌||◌, not, List, Result, Ok, Err, refl, sym, ap, subst, ◌∙◌, true≢false}
use Rattle.std.specs.Prelude.{nat_lt, ◌==◌, IsOk}
use Rattle.std.specs.Int.{w16, w64}
use Rattle.std.proofs.lemmas.Bool.{false_from_ne_true}
use Rattle.rr_text.specs.declared.limits.TheConstants.{MAX_KEY_TEXT}
use Rattle.rr_schema.specs.Schema.{Layout}
use Rattle.rr_contrib.specs.declared.contribution.Contribution.{Contribution}
use Rattle.rr_contrib.specs.Validity.{IsValid, is_valid}
use Rattle.rr_contrib.proofs.ValidityLemmas.{Decides-is_valid}
use Rattle.rr_key.specs.Reading.{is_key_text}
use Rattle.rr_key.specs.Series.{IsKeyText}
use Rattle.rr_key.proofs.DecisionLemmas.{Decides-is_key_text}
use Rattle.rr_cells.specs.CellBounds.{NamedCell}
use Rattle.rr_page.specs.declared.fault.PageFault.{PageFault}
use Rattle.rr_page.specs.declared.fault.PageFault.TheVariants.{BadKey, BadContribution}
use Rattle.rr_text.specs.Results.{◌>>=◌, unless}
use Rattle.rr_page.specs.Reading.{prefix_at, number_at, signed_at, key_at, archive_at, contribution_at, cell_at}
use Rattle.rr_page.specs.declared.version.Version.{Version}

abbrev keyed : List ℕ × List ℕ → Result (List ℕ × List ℕ) PageFault
keyed text = unless BadKey (not (is_key_text text.0)) (Ok text)

module _ (bytes : List ℕ) (len : ℕ) (rest text after : List ℕ) (l : number_at w16 bytes ≡ Ok (len, rest))
    (fits : ((len == 0) || nat_lt MAX_KEY_TEXT len) ≡ false) (f : prefix_at len rest ≡ Ok (text, after)) where
  key_parts : key_at bytes ≡ keyed (text, after)
  unfolding key_at
  key_parts =
      ap (λ r. r >>= λ (n : ℕ × List ℕ). unless BadKey ((n.0 == 0) || nat_lt MAX_KEY_TEXT n.0) (prefix_at n.0 n.1) >>=
      keyed) l
      ∙ ap (λ b. unless BadKey b (prefix_at len rest) >>= keyed) fits
      ∙ ap (λ r. r >>= keyed) f

  pub key_read : IsKeyText text → key_at bytes ≡ Ok (text, after)
  key_read k = key_parts ∙ ap (λ b. unless BadKey (not b) (Ok (text, after))) ((Decides-is_key_text text).1 k)

  pub key_refused : (IsKeyText text → ⊥) → key_at bytes ≡ Err BadKey
  key_refused n = key_parts ∙ ap (λ b. unless BadKey (not b) (Ok (text, after)))
      (false_from_ne_true (is_key_text text) (λ e. n ((Decides-is_key_text text).0 e)))

  certain : (b : Bool) → is_key_text text ≡ b → ((IsKeyText text → ⊥) → ⊥) → IsKeyText text
  certain true e n = (Decides-is_key_text text).0 e
  certain false e n = absurd (n (λ k. true≢false (sym ((Decides-is_key_text text).1 k) ∙ e)))

  pub key_left : ((IsKeyText text → ⊥) → ⊥) → IsOk (key_at bytes)
  key_left n = subst IsOk (sym (key_read (certain (is_key_text text) refl n))) refl

abbrev judged : Layout → List ℕ → ℕ → ℤ → ℕ → Contribution → List ℕ → Result (NamedCell × List ℕ) PageFault
judged s key archive slot origin c after =
    unless BadContribution ((origin == 0) || not (is_valid s archive slot c))
    (Ok ((record { key = key; archive = archive; slot = slot; origin = origin }, c), after))

module _ (v : Version) (s : Layout) (bytes key r1 : List ℕ) (archive : ℕ) (r2 : List ℕ) (slot : ℤ) (r3 : List ℕ)
    (origin : ℕ) (r4 : List ℕ) (c : Contribution) (after : List ℕ)
    (ek : key_at bytes ≡ Ok (key, r1)) (ea : archive_at s r1 ≡ Ok (archive, r2)) (es : signed_at w64 r2 ≡ Ok (slot, r3))
    (eo : number_at w16 r3 ≡ Ok (origin, r4)) (ec : contribution_at v r4 ≡ Ok (c, after)) where
  cell_parts : cell_at v s bytes ≡ judged s key archive slot origin c after
  unfolding cell_at
  cell_parts =
      ap (λ r. r >>= λ (k : List ℕ × List ℕ). archive_at s k.1 >>= λ (a : ℕ × List ℕ). signed_at w64 a.1 >>=
      λ (t : ℤ × List ℕ). number_at w16 t.1 >>= λ (o : ℕ × List ℕ). contribution_at v o.1 >>=
      λ (d : Contribution × List ℕ). judged s k.0 a.0 t.0 o.0 d.0 d.1) ek
      ∙ ap (λ r. r >>= λ (a : ℕ × List ℕ). signed_at w64 a.1 >>= λ (t : ℤ × List ℕ). number_at w16 t.1 >>=
      λ (o : ℕ × List ℕ). contribution_at v o.1 >>= λ (d : Contribution × List ℕ). judged s key a.0 t.0 o.0 d.0 d.1)
      ea
      ∙ ap (λ r. r >>= λ (t : ℤ × List ℕ). number_at w16 t.1 >>= λ (o : ℕ × List ℕ). contribution_at v o.1 >>=
      λ (d : Contribution × List ℕ). judged s key archive t.0 o.0 d.0 d.1) es
      ∙ ap (λ r. r >>= λ (o : ℕ × List ℕ). contribution_at v o.1 >>= λ (d : Contribution × List ℕ). judged s key archive
      slot o.0 d.0 d.1) eo
      ∙ ap (λ r. r >>= λ (d : Contribution × List ℕ). judged s key archive slot origin d.0 d.1) ec

  abbrev found : NamedCell × List ℕ
  found = ((record { key = key; archive = archive; slot = slot; origin = origin }, c), after)

  pub cell_read : (origin == 0) ≡ false → IsValid s archive slot c
      → cell_at v s bytes ≡ Ok ((record { key = key; archive = archive; slot = slot; origin = origin }, c), after)
  cell_read some valid = cell_parts ∙ (λ i. unless BadContribution
      (some i || not ((Decides-is_valid s archive slot c).1 valid i)) (Ok found))

  pub cell_refused : (IsValid s archive slot c → ⊥) → cell_at v s bytes ≡ Err BadContribution
  cell_refused n = cell_parts ∙ ap (λ b. unless BadContribution ((origin == 0) || not b) (Ok found))
      (false_from_ne_true (is_valid s archive slot c) (λ e. n ((Decides-is_valid s archive slot c).0 e)))
      ∙ either (origin == 0)
    where
      either : (b : Bool) → unless BadContribution (b || true) (Ok found) ≡ Err BadContribution
      either true = refl
      either false = refl
