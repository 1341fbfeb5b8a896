-- Refusals as records of one field.
use Rattle.std.proofs.Common.{◌≡◌, ℕ, List, [], ◌∷◌, ◌++◌, length, ◌-◌, take, refl, sym, ap, arith, append_assoc}
use Rattle.std.specs.Prelude.{codes, decimal, ◌<◌, ◌^◌}
use Rattle.std.proofs.lemmas.List.{length-append}
use Rattle.std.proofs.lemmas.Fmt.{decimal_is_IsNumeral}
use Rattle.std.proofs.lemmas.Int.{ints}
use Rattle.std.proofs.Math.Seq.{take-append_seam}
use Rattle.rr_fetch.specs.Records.{record_text, IsPlain}
use Rattle.rr_fetch.proofs.CsvLemmas.{plain_append, plain_digits}
use Rattle.rr_line.specs.declared.fault.LineFault.{LineFault}
use Rattle.rr_line.specs.declared.fault.LineFault.TheVariants as fault
use Rattle.rr_line.specs.Fault.{line_fault_name}
use Rattle.rr_text.specs.Refusal.{refusal_text}

-- the text of a refusal, without the line feed
abbrev pub refusal_field : ℕ → List ℕ → List ℕ
refusal_field number name = codes "line " ++ (decimal number ++ (codes ": " ++ name))

pub refusal_ends : (number : ℕ) (name : List ℕ) → refusal_text number name ≡ refusal_field number name ++ 10 ∷ []
refusal_ends number name = simp append_assoc

plain_refusal : (number : ℕ) (name : List ℕ) → number < 2 ^ 64 → IsPlain name → IsPlain (refusal_field number name)
plain_refusal number name fits plain =
    plain_append (codes "line ") (decimal number ++ (codes ": " ++ name)) refl
    (plain_append (decimal number) (codes ": " ++ name)
    (plain_digits (decimal number) (decimal_is_IsNumeral number (omega (arith, ints))).0.1)
    (plain_append (codes ": ") name refl plain))

-- a refusal is a record of one field
pub refusal_is_record : (number : ℕ) (name : List ℕ) → number < 2 ^ 64 → IsPlain name
    → record_text (refusal_field number name ∷ []) ≡ refusal_text number name
refusal_is_record number name fits plain =
    rw (plain_refusal number name fits plain) (sym (refusal_ends number name))

-- the names of faults are plain
pub plain_name : (f : LineFault) → IsPlain (line_fault_name f)
plain_name fault.NoMeasurement = refl
plain_name fault.MissingTagKey = refl
plain_name fault.MissingTagValue = refl
plain_name fault.TooManyTags = refl
plain_name fault.DuplicateTag = refl
plain_name fault.NoFields = refl
plain_name fault.MissingFieldKey = refl
plain_name fault.MissingFieldValue = refl
plain_name fault.BooleanField = refl
plain_name fault.IntegerRange = refl
plain_name fault.UnsignedField = refl
plain_name fault.FloatField = refl
plain_name fault.TextField = refl
plain_name fault.BadField = refl
plain_name fault.TooManyFields = refl
plain_name fault.DuplicateField = refl
plain_name fault.BadTime = refl
plain_name fault.TimeRange = refl
plain_name fault.KeyTooLong = refl
plain_name fault.Memory = refl

-- a text without its last byte
pub without_last : (text prefix : List ℕ) (last : ℕ) → text ≡ prefix ++ last ∷ [] → take (length text - 1) text ≡ prefix
without_last text prefix last is =
    let long : length text - 1 ≡ length prefix = omega (arith, ap (λ (t : List ℕ). length t) is, length-append prefix (last ∷ [])) in
    rw (long, is) (take-append_seam prefix (last ∷ []))
