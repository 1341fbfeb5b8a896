-- The record of a row, by its parts.
use Rattle.std.proofs.Common.{◌≡◌, ℤ, List, ℕ, [], ◌∷◌, ◌++◌, refl, Option, None, Some, FitsSigned, Result, Ok, Err, OnOk, ◌∙◌, append_assoc}
use Rattle.std.specs.Fmt.{signed_decimal}
use Rattle.std.specs.Int.{w64}
use Rattle.std.specs.Prelude.{IfSome, is_ok, if◌then◌else◌}
use Rattle.rr_cells.specs.FetchText.{comma, line_feed, field_text, record_text, value_text}
use Rattle.rr_fetch.specs.Records.{IsPlain}
use Rattle.rr_fetch.proofs.CsvLemmas.{plain_signed}

plain_value : (v : Option ℤ) → IfSome v (FitsSigned w64) → IsPlain (value_text v)
plain_value None fits = refl
plain_value (Some v) fits = plain_signed v fits

regrouped : (old key start value : List ℕ) → (old ++ (key ++ 44 ∷ [])) ++ (start ++ 44 ∷ value ++ 10 ∷ []) ≡ old
    ++ (key ++ 44 ∷ start ++ 44 ∷ value ++ 10 ∷ [])
regrouped old key start value = simp append_assoc

-- the prefix of a record and the rest of it
pub prefix_and_rest : (old key prefix : List ℕ) (start : ℤ) (value : Option ℤ) → FitsSigned w64 start
    → IfSome value (FitsSigned w64) → prefix ≡ field_text key ++ comma ∷ []
    → (old ++ prefix) ++ (signed_decimal start ++ comma ∷ value_text value ++ line_feed ∷ []) ≡ old
    ++ record_text key (start, value)
prefix_and_rest old key prefix start value fits values is =
    rw (is, plain_signed start fits, plain_value value values)
    (regrouped old (field_text key) (signed_decimal start) (value_text value))

-- what is added last, if it could be
pub at_ok : {E : Type 0} (result : Result (Unit {0}) E) (text all some whole : List ℕ)
    → text ≡ (if is_ok result then all else some) → all ≡ whole → OnOk result (text ≡ whole)
at_ok (Ok _) text all some whole e f = e ∙ f
at_ok (Err _) text all some whole e f = tt
