-- Which bytes are read as a key.
use Rattle.std.proofs.Common.{◌≡◌, ℕ, true, false, List, Result, Ok, Err, refl, ap, sym, ◌∙◌, true≢false, inl, inr}
use Rattle.std.proofs.lemmas.Bool.{cases_Bool}
use Rattle.rr_key.specs.declared.fault.KeyFault.{KeyFault}
use Rattle.rr_key.specs.Reading.{is_key_text}
use Rattle.rr_key.specs.Series.{IsKeyText}
use Rattle.rr_key.proofs.DecisionLemmas.{Decides-is_key_text}
use Rattle.rr_fetch.specs.declared.fault.RequestFault.TheVariants.{BadKey}
use Rattle.rr_fetch.specs.Requests.{key_of}

is_key : (text : List ℕ) → IsKeyText text → is_key_text text ≡ true
is_key text is = (Decides-is_key_text text).1 is

is_no_key : (text : List ℕ) → (IsKeyText text → ⊥) → is_key_text text ≡ false
is_no_key text none =
    elim (cases_Bool (is_key_text text)) [
      | inl is ↦ absurd (none ((Decides-is_key_text text).0 is))
      | inr other ↦ other
    ]

pub key_read : (text : List ℕ) → IsKeyText text → key_of text ≡ Ok text
key_read text is = rw (is_key text is) refl

pub bad_key : (text : List ℕ) → (IsKeyText text → ⊥) → key_of text ≡ Err BadKey
bad_key text none = rw (is_no_key text none) refl

-- a text that is not refused is read
pub key_unless_bad : (text : List ℕ) → ((IsKeyText text → ⊥) → ⊥) → key_of text ≡ Ok text
key_unless_bad text not_bad =
    elim (cases_Bool (is_key_text text)) [
      | inl is ↦ rw is refl
      | inr other ↦ absurd (not_bad (λ is. true≢false (sym (is_key text is) ∙ other)))
    ]

pub same_fault : {A : Type 0} (fault other : KeyFault) → ◌≡◌ {A = Result A KeyFault} (Err fault) (Err other)
    → fault ≡ other
same_fault {A} fault other = ap (λ (r : Result A KeyFault). of_err r)
  where
    of_err : Result A KeyFault → KeyFault
    of_err (Ok x) = fault
    of_err (Err e) = e
