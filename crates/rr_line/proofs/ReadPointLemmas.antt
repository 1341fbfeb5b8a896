-- A point is read as its steps say: the measurement, the tags, and the body after them.
use Rattle.std.proofs.Common.{◌≡◌, ℕ, ◌+◌, ◌-◌, Bool, true, false, ltb, List, length, Option, Result, Ok, Err, ℤ, refl, sym, ◌∙◌}
use Rattle.std.specs.List.{list_any}
use Rattle.rr_text.specs.Bytes.{HasNoLineFeed}
use Rattle.rr_text.specs.Results.{◌>>=◌, unless}
use Rattle.rr_text.specs.declared.limits.TheConstants.{MAX_KEY_TEXT}
use Rattle.rr_key.specs.declared.class.Class.TheVariants.{Measurement}
use Rattle.rr_line.specs.declared.fault.LineFault.{LineFault}
use Rattle.rr_line.specs.declared.fault.LineFault.TheVariants.{NoMeasurement, KeyTooLong}
use Rattle.rr_line.specs.declared.precision.Precision.{Precision}
use Rattle.rr_line.specs.Field.{Field}
use Rattle.rr_line.specs.Grammar.{is_nothing}
use Rattle.rr_point.specs.Point.{PointView}
use Rattle.rr_line.specs.Part.{skip_spaces}
use Rattle.rr_line.specs.Reading.{name_at, all_tags_at, fields_text_of, all_fields_at, ending_at, body_at, point_at}
use Rattle.rr_line.specs.Tag.{Tag}
use Rattle.rr_line.proofs.PrefixLemmas.{long_of_steps}

abbrev pub point_of : List ℕ → List Tag → List Field → Option ℤ → PointView
point_of measurement tags fields time = record { measurement = measurement; tags = tags; fields = fields; time = time }

-- the same steps, the first of which succeeded
same_after : {A B : Type 0} (step : Result A LineFault) (next other : A → Result B LineFault)
    → ((x : A) → step ≡ Ok x → next x ≡ other x) → (step >>= next) ≡ (step >>= other)
same_after (Ok x) next other same = same x refl
same_after (Err fault) next other same = refl

regroup : {A B C : Type 0} (step : Result A LineFault) (next : A → Result B LineFault) (last : B → Result C LineFault)
    → ((step >>= next) >>= last) ≡ (step >>= λ x. next x >>= last)
regroup (Ok x) next last = refl
regroup (Err fault) next last = refl

regroup_unless : {A B : Type 0} (fault : LineFault) (refused : Bool) (x : A) (last : A → Result B LineFault)
    → (unless fault refused (Ok x) >>= last) ≡ unless fault refused (last x)
regroup_unless fault true x last = refl
regroup_unless fault false x last = refl

first_succeeds : {A B : Type 0} (step : Result A LineFault) (next : A → Result B LineFault) (y : B)
    → (step >>= next) ≡ Ok y → (x : A) × (step ≡ Ok x)
first_succeeds (Ok x) next y e = (x, refl)
first_succeeds (Err fault) next y e = absurd cc

-- a body has fields
pub has_fields_text : (precision : Precision) (prefix : ℕ) (gap : List ℕ) (body : List Field × Option ℤ)
    → body_at precision prefix gap ≡ Ok body → (text : List ℕ) × (fields_text_of gap ≡ Ok text)
unfolding body_at
has_fields_text precision prefix gap body e = first_succeeds (fields_text_of gap) _ body e

-- the point is what precedes the body, and the body
pub point_of_body : (precision : Precision) (text : List ℕ) (measurement : List ℕ × List ℕ) (tags : List Tag × List ℕ)
    (prefix : ℕ) → HasNoLineFeed text → is_nothing text ≡ false
    → name_at Measurement NoMeasurement text ≡ Ok measurement → all_tags_at measurement.1 ≡ Ok tags
    → prefix ≡ length text - length tags.1
    → point_at precision text ≡ (body_at precision prefix tags.1 >>= λ body. Ok
    (point_of measurement.0 tags.0 body.0 body.1))
unfolding point_at body_at
point_of_body precision text measurement tags prefix none parsed name are is =
    let all : List Field × Option ℤ → Result PointView LineFault =
    λ body. Ok (point_of measurement.0 tags.0 body.0 body.1) in
    rw (name, are) (
    same_after (fields_text_of tags.1) _ _ (λ fields_text gap.
    same_after (all_fields_at fields_text) _ _ (λ fields have.
    same_after (ending_at precision (skip_spaces fields.1)) _ _ (λ time ends.
    rw (long_of_steps text measurement tags fields_text fields time prefix none parsed name are gap have is) (
    sym (regroup_unless KeyTooLong (list_any (λ field. ltb MAX_KEY_TEXT (prefix + 1 + length field.0)) fields.0)
    (fields.0, time) all)))
    ∙ sym (regroup (ending_at precision (skip_spaces fields.1)) _ all))
    ∙ sym (regroup (all_fields_at fields_text) _ all))
    ∙ sym (regroup (fields_text_of tags.1) _ all))
