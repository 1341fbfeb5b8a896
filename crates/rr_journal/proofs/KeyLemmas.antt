-- The reading of a key, once its parts are read.
use Rattle.std.proofs.Common.{◌≡◌, ℕ, false, ◌||◌, not, List, Result, Ok, Err, ap, ◌∙◌}
use Rattle.std.specs.Prelude.{nat_lt, ◌==◌}
use Rattle.std.specs.Int.{w16}
use Rattle.std.proofs.lemmas.Bool.{false_from_ne_true}
use Rattle.rr_text.specs.declared.limits.TheConstants.{MAX_KEY_TEXT}
use Rattle.rr_text.specs.Results.{◌>>=◌, unless}
use Rattle.rr_key.specs.Reading.{is_key_text}
use Rattle.rr_key.specs.Series.{IsKeyText}
use Rattle.rr_key.proofs.DecisionLemmas.{Decides-is_key_text}
use Rattle.rr_journal.specs.declared.fault.JournalFault.{JournalFault}
use Rattle.rr_journal.specs.declared.fault.JournalFault.TheVariants.{BadKey}
use Rattle.rr_journal.specs.Fields.{prefix_at, number_at}
use Rattle.rr_journal.specs.Body.{key_at}

abbrev keyed : List ℕ × List ℕ → Result (List ℕ × List ℕ) JournalFault
keyed text = unless BadKey (not (is_key_text text.0)) (Ok text)

module _ (bytes : List ℕ) (len : ℕ) (rest text after : List ℕ) (l : number_at w16 bytes ≡ Ok (len, rest))
    (fits : ((len == 0) || nat_lt MAX_KEY_TEXT len) ≡ false) (f : prefix_at len rest ≡ Ok (text, after)) where
  key_parts : key_at bytes ≡ keyed (text, after)
  unfolding key_at
  key_parts =
      ap (λ r. r >>= λ (n : ℕ × List ℕ). unless BadKey ((n.0 == 0) || nat_lt MAX_KEY_TEXT n.0) (prefix_at n.0 n.1) >>=
      keyed) l
      ∙ ap (λ b. unless BadKey b (prefix_at len rest) >>= keyed) fits
      ∙ ap (λ r. r >>= keyed) f

  pub key_read : IsKeyText text → key_at bytes ≡ Ok (text, after)
  key_read k = key_parts ∙ ap (λ b. unless BadKey (not b) (Ok (text, after))) ((Decides-is_key_text text).1 k)

  pub key_refused : (IsKeyText text → ⊥) → key_at bytes ≡ Err BadKey
  key_refused n = key_parts ∙ ap (λ b. unless BadKey (not b) (Ok (text, after)))
      (false_from_ne_true (is_key_text text) (λ e. n ((Decides-is_key_text text).0 e)))
