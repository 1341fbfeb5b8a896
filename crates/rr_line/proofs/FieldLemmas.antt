-- Fields, found by the reading and of the grammar.
use Rattle.std.proofs.Common.{◌≡◌, ℕ, ℤ, true, false, List, ◌∷◌, take, drop, Some, None, Result, Ok, Err, refl, sym, ap, subst, ◌∙◌, inl, inr}
use Rattle.std.specs.Prelude.{ok_or, ◌⊎◌}
use Rattle.std.proofs.lemmas.List.{take-append-drop}
use Rattle.rr_text.specs.Bytes.{strip, begins}
use Rattle.rr_text.specs.Results.{◌>>=◌}
use Rattle.rr_key.specs.declared.class.Class.TheVariants.{Other}
use Rattle.rr_text.specs.declared.bytes.TheConstants.{EQUALS}
use Rattle.rr_line.specs.declared.mark.TheConstants.{QUOTE}
use Rattle.rr_line.specs.declared.fault.LineFault.{LineFault}
use Rattle.rr_line.specs.declared.fault.LineFault.TheVariants.{MissingFieldKey, MissingFieldValue}
use Rattle.rr_line.specs.Field.{Field, IsField}
use Rattle.rr_line.specs.Part.{IsName, HasNoName, cut_after}
use Rattle.rr_line.specs.Reading.{name_at, value_at, field_at}
use Rattle.rr_line.specs.Value.{IsBare, IsValue, ValueFault, a_text, no_text, unquoted, value_of, ends_value, value_len, is_text, quoted_fault}
use Rattle.rr_line.proofs.ValueLemmas.{is_text_of, text_of}
use Rattle.rr_line.proofs.ScanLemmas.{part_scanned, plain_scanned, ended_scanned}
use Rattle.std.proofs.lemmas.Bool.{cases_Bool, false≢true}
use Rattle.rr_line.proofs.AgreeLemmas.{Agrees, Agrees-as, Agrees-bind, Agrees-unless, Agrees-ok, Agrees-ok_or, Agrees-self}
use Rattle.rr_line.proofs.PartLemmas.{name_agrees, first_is, cut_is, strip_some, strip_there, strip_none, strip_lacks}

-- the value that is cut off, where it is not quoted
bare_cut : (text : List ℕ) → begins QUOTE text ≡ false
    → IsBare text (take (value_len text) text) (drop (value_len text) text)
bare_cut text bare = record {
  bare = bare;
  plain = plain_scanned ends_value text;
  ended = ended_scanned ends_value text;
  whole = sym (take-append-drop (value_len text) text);
}

-- what follows a value
abbrev Behind : List ℕ → ℤ → ℤ × List ℕ → Type 0
Behind text number value = (number, drop (value_len text) text) ≡ value

value_to : (text : List ℕ) (value : ℤ × List ℕ) → (begins QUOTE text ≡ false)
    × ((number : ℤ) × (value_of (take (value_len text) text) ≡ Ok number) × Behind text number value)
    → IsValue text value.0 value.1
value_to text value (bare, (number, is, at)) =
    let parts = first_is (number, drop (value_len text) text) value at in (
      take (value_len text) text,
      subst (λ (rest : List ℕ). IsBare text (take (value_len text) text) rest) parts.1
          (bare_cut text bare),
      subst (λ (n : ℤ). value_of (take (value_len text) text) ≡ Ok n) parts.0 is,
    )

-- a value that is not quoted is the one that is cut off
bare_is : (text value rest : List ℕ) → IsBare text value rest → cut_after (value_len text) text ≡ (value, rest)
bare_is text value rest h = cut_is (value_len text) text value rest
    (ap value_len h.whole ∙ part_scanned ends_value value rest h.plain h.ended) h.whole

value_from : (text : List ℕ) (value : ℤ × List ℕ) → IsValue text value.0 value.1
    → (begins QUOTE text ≡ false) × ((number : ℤ) × (value_of (take (value_len text) text) ≡ Ok number)
    × Behind text number value)
value_from text (number, rest) (prefix, is_bare, is) =
    let cut = first_is (cut_after (value_len text) text) (prefix, rest) (bare_is text prefix rest is_bare) in
    (is_bare.bare, (number, ap value_of cut.0 ∙ is, ap (λ (r : List ℕ). (the_number number, r)) cut.1))
  where
    the_number : ℤ → ℤ
    the_number n = n

bad_value_to : (text : List ℕ) (fault : LineFault)
    → ((begins QUOTE text ≡ true) × (fault ≡ quoted_fault text))
    ⊎ ((begins QUOTE text ≡ false) × ((value_of (take (value_len text) text) ≡ Err fault)
    ⊎ ((number : ℤ) × (value_of (take (value_len text) text) ≡ Ok number) × ⊥))) → ValueFault text fault
bad_value_to text fault (inl h) =
    elim (cases_Bool (is_text text)) [
      | inl quoted ↦ let found = text_of text h.0 quoted in a_text found.0 found.1 found.2 (h.1 ∙ rw quoted refl)
      | inr other ↦ no_text h.0 (λ rest quoted ended. false≢true (sym other ∙ is_text_of text rest quoted ended))
          (h.1 ∙ rw other refl)
    ]
bad_value_to text fault (inr (bare, inl is)) = unquoted (take (value_len text) text) (drop (value_len text) text)
    (bare_cut text bare) is
bad_value_to text fault (inr (bare, inr never)) = absurd never.2

bad_value_from : (text : List ℕ) (fault : LineFault) → ValueFault text fault
    → ((begins QUOTE text ≡ true) × (fault ≡ quoted_fault text))
    ⊎ ((begins QUOTE text ≡ false) × ((value_of (take (value_len text) text) ≡ Err fault)
    ⊎ ((number : ℤ) × (value_of (take (value_len text) text) ≡ Ok number) × ⊥)))
bad_value_from text fault (a_text rest quoted ended is) =
    inl (ap (begins QUOTE) quoted.whole, is ∙ sym (rw (is_text_of text rest quoted ended) refl))
bad_value_from text fault (no_text begins none is) =
    elim (cases_Bool (is_text text)) [
      | inl quoted ↦ let found = text_of text begins quoted in absurd (none found.0 found.1 found.2)
      | inr other ↦ inl (begins, is ∙ sym (rw other refl))
    ]
bad_value_from text fault (unquoted value rest is_bare is) =
    let cut = first_is (cut_after (value_len text) text) (value, rest) (bare_is text value rest is_bare) in
    inr (is_bare.bare, inl (ap value_of cut.0 ∙ is))

pub value_agrees : (text : List ℕ) → Agrees (value_at text) (λ value. IsValue text value.0 value.1) (ValueFault text)
value_agrees text =
    let read = value_of (take (value_len text) text) in
    let then : ℤ → Result (ℤ × List ℕ) LineFault = λ number. Ok (number, drop (value_len text) text) in
    Agrees-as (value_at text) _ _ _ _ (value_to text) (value_from text) (bad_value_to text) (bad_value_from text)
    (Agrees-unless (quoted_fault text) (begins QUOTE text) (read >>= then) _ _ (λ bare.
    Agrees-bind read then (λ number. read ≡ Ok number) (λ fault. read ≡ Err fault) (Behind text) (λ number fault. ⊥)
    (Agrees-self read) (λ number is. Agrees-ok (number, drop (value_len text) text))))

-- why there is no field: the first faults
abbrev pub NoField : List ℕ → LineFault → Type 0
NoField text fault =
    (HasNoName Other text × (fault ≡ MissingFieldKey))
    ⊎ ((key : List ℕ × List ℕ) × IsName Other text key.0 key.1
    × (((begins EQUALS key.1 ≡ false) × (fault ≡ MissingFieldValue))
    ⊎ ((value_text : List ℕ) × (key.1 ≡ EQUALS ∷ value_text) × ValueFault value_text fault)))

abbrev with_value : List ℕ → List ℕ → Result (Field × List ℕ) LineFault
with_value key value_text = value_at value_text >>= λ value. Ok ((key, value.0), value.1)

abbrev equals_step : List ℕ × List ℕ → Result (Field × List ℕ) LineFault
equals_step key = ok_or (strip EQUALS key.1) MissingFieldValue >>= with_value key.0

abbrev HasValue : List ℕ × List ℕ → Field × List ℕ → Type 0
HasValue key field = (value_text : List ℕ) × (strip EQUALS key.1 ≡ Some value_text)
    × ((value : ℤ × List ℕ) × IsValue value_text value.0 value.1 × (((key.0, value.0), value.1) ≡ field))

abbrev LacksValue : List ℕ × List ℕ → LineFault → Type 0
LacksValue key fault = ((strip EQUALS key.1 ≡ None) × (fault ≡ MissingFieldValue))
    ⊎ ((value_text : List ℕ) × (strip EQUALS key.1 ≡ Some value_text)
    × (ValueFault value_text fault ⊎ ((value : ℤ × List ℕ) × IsValue value_text value.0 value.1 × ⊥)))

with_value_agrees : (key value_text : List ℕ) → Agrees (with_value key value_text)
    (λ field. (value : ℤ × List ℕ) × IsValue value_text value.0 value.1 × (((key, value.0), value.1) ≡ field))
    (λ fault. ValueFault value_text fault ⊎ ((value : ℤ × List ℕ) × IsValue value_text value.0 value.1 × ⊥))
with_value_agrees key value_text =
    Agrees-bind (value_at value_text) (λ value. Ok ((key, value.0), value.1)) _ _
    (λ value field. ((key, value.0), value.1) ≡ field) (λ value fault. ⊥) (value_agrees value_text)
    (λ value is. Agrees-ok ((key, value.0), value.1))

equals_agrees : (key : List ℕ × List ℕ) → Agrees (equals_step key) (HasValue key) (LacksValue key)
equals_agrees key =
    Agrees-bind (ok_or (strip EQUALS key.1) MissingFieldValue) (with_value key.0) _ _ _ _
    (Agrees-ok_or (strip EQUALS key.1) MissingFieldValue) (λ value_text is. with_value_agrees key.0 value_text)

field_to : (text : List ℕ) (field : Field × List ℕ)
    → (key : List ℕ × List ℕ) × IsName Other text key.0 key.1 × HasValue key field → IsField text field.0 field.1
field_to text field ((key, after), name, (value_text, there, (value, is_value, is))) =
    let parts = first_is ((key, value.0), value.1) field is in
    let names = first_is (key, value.0) field.0 parts.0 in
    record {
      value_text = value_text;
      key = subst (λ (k : List ℕ). IsName Other text k (EQUALS ∷ value_text)) names.0
          (subst (λ (rest : List ℕ). IsName Other text key rest) (strip_some EQUALS after value_text there) name);
      value = subst (λ (n : ℤ). IsValue value_text n field.1) names.1
          (subst (λ (rest : List ℕ). IsValue value_text value.0 rest) parts.1 is_value);
    }

field_from : (text : List ℕ) (field : Field × List ℕ) → IsField text field.0 field.1
    → (key : List ℕ × List ℕ) × IsName Other text key.0 key.1 × HasValue key field
field_from text (field, rest) h = (
  (field.0, EQUALS ∷ h.value_text),
  h.key,
  (h.value_text, strip_there EQUALS h.value_text, ((field.1, rest), h.value, refl)),
)

no_field_to : (text : List ℕ) (fault : LineFault)
    → (HasNoName Other text × (fault ≡ MissingFieldKey))
    ⊎ ((key : List ℕ × List ℕ) × IsName Other text key.0 key.1 × LacksValue key fault) → NoField text fault
no_field_to text fault (inl none) = inl none
no_field_to text fault (inr (key, name, inl lacks)) = inr (key, name, inl (strip_none EQUALS key.1 lacks.0, lacks.1))
no_field_to text fault (inr (key, name, inr (value_text, there, inl bad))) =
    inr (key, name, inr (value_text, strip_some EQUALS key.1 value_text there, bad))
no_field_to text fault (inr (key, name, inr (value_text, there, inr never))) = absurd never.2

no_field_from : (text : List ℕ) (fault : LineFault) → NoField text fault
    → (HasNoName Other text × (fault ≡ MissingFieldKey))
    ⊎ ((key : List ℕ × List ℕ) × IsName Other text key.0 key.1 × LacksValue key fault)
no_field_from text fault (inl none) = inl none
no_field_from text fault (inr (key, name, inl lacks)) = inr (key, name, inl (strip_lacks EQUALS key.1 lacks.0, lacks.1))
no_field_from text fault (inr (key, name, inr (value_text, whole, bad))) =
    inr (key, name, inr (value_text, ap (strip EQUALS) whole ∙ strip_there EQUALS value_text, inl bad))

pub field_agrees : (text : List ℕ) → Agrees (field_at text) (λ field. IsField text field.0 field.1) (NoField text)
unfolding field_at
field_agrees text =
    Agrees-as (field_at text) _ _ _ _ (field_to text) (field_from text) (no_field_to text) (no_field_from text)
    (Agrees-bind (name_at Other MissingFieldKey text) equals_step _ _ HasValue LacksValue
    (name_agrees Other MissingFieldKey text) (λ key is. equals_agrees key))
