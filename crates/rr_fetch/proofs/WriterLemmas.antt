-- The store's fields and records are those of csv's writer, whether or not its records may differ in length.
use Rattle.std.proofs.Common.{◌≡◌, Bool, true, false, ℕ, ℤ, eqb, Option, List, [], ◌∷◌, ◌++◌, length, refl, ap, ◌∙◌, sym, append_assoc, append-nil, inl, inr, rules}
use Rattle.std.specs.List.{list_any, flat_map}
use Rattle.std.specs.Fmt.{signed_decimal}
use Rattle.std.proofs.lemmas.Bool.{cases_Bool, eqb-true}
use Rattle.csv.specs.declared.writer.WriterBuilder.{WriterBuilder}
use Rattle.csv.specs.Writing.{default_writer, escaped, fields_text, is_blank, needs_byte, needs_quotes, row_text, with_flexible, field_text as field_of_csv}
use Rattle.rr_cells.specs.FetchText.{doubled, field_text, is_special, value_text, record_text as row_record}
use Rattle.rr_fetch.specs.Records.{record_text, rest_text}

-- a writer with csv's defaults, whose records may differ in length or not
abbrev pub a_writer : Bool → WriterBuilder
a_writer flexible = with_flexible default_writer flexible

same_byte : (flexible : Bool) (b : ℕ) → needs_byte (a_writer flexible) b ≡ is_special b
same_byte flexible b =
    elim (cases_Bool (eqb b 44)) [
      | inl comma ↦ rw comma refl
      | inr no_comma ↦ elim (cases_Bool (eqb b 34)) [
        | inl quote ↦ rw (no_comma, quote) refl
        | inr no_quote ↦ elim (cases_Bool (eqb b 13)) [
          | inl return ↦ rw (no_comma, no_quote, return) refl
          | inr no_return ↦ elim (cases_Bool (eqb b 10)) [
            | inl feed ↦ rw (no_comma, no_quote, no_return, feed) refl
            | inr no_feed ↦ rw (no_comma, no_quote, no_return, no_feed) refl
          ]
        ]
      ]
    ]

same_need : (flexible : Bool) (field : List ℕ) → needs_quotes (a_writer flexible) field ≡ list_any is_special field
same_need flexible [] = refl
same_need flexible (b ∷ field) = rw (same_byte flexible b, same_need flexible field) refl

same_inside : (flexible : Bool) (field : List ℕ) → escaped (a_writer flexible) field ≡ flat_map doubled field
unfolding escaped
same_inside flexible [] = refl
same_inside flexible (b ∷ field) =
    elim (cases_Bool (eqb b 34)) [
      | inl quote ↦ rw (quote, eqb-true b 34 quote, same_inside flexible field) refl
      | inr other ↦ rw (other, same_inside flexible field) refl
    ]

-- a field
pub field_is : (flexible : Bool) (field : List ℕ) → field_of_csv (a_writer flexible) field ≡ field_text field
field_is flexible field = rw (same_need flexible field, same_inside flexible field) refl

rest_is : (flexible : Bool) (fields : List (List ℕ)) → fields_text (a_writer flexible) fields ++ 10 ∷ [] ≡ rest_text fields
unfolding fields_text
rest_is flexible [] = refl
rest_is flexible (field ∷ more) =
    rw (
      field_is flexible field,
      append_assoc (field_text field) (fields_text (a_writer flexible) more) (10 ∷ []),
      rest_is flexible more,
    ) refl

shows_a_byte : (b : ℕ) (field : List ℕ) → eqb (length (field_text (b ∷ field))) 0 ≡ false
shows_a_byte b field =
    elim (cases_Bool (list_any is_special (b ∷ field))) [
      | inl special ↦ rw special (search rules)
      | inr plain ↦ rw plain (search rules)
    ]

-- a record
pub record_is : (flexible : Bool) (fields : List (List ℕ)) → row_text (a_writer flexible) fields ≡ record_text fields
unfolding fields_text is_blank
record_is flexible [] = refl
record_is flexible ([] ∷ []) = refl
record_is flexible ((b ∷ field) ∷ []) =
    rw (field_is flexible (b ∷ field), append-nil (field_text (b ∷ field)), shows_a_byte b field) refl
record_is flexible (first ∷ next ∷ more) =
    rw (field_is flexible first) (append_assoc (field_text first) (fields_text (a_writer flexible) (next ∷ more)) (10 ∷ [])
    ∙ ap (λ t. field_text first ++ t) (rest_is flexible (next ∷ more)))

-- the record of a row
pub row_is : (key : List ℕ) (row : ℤ × Option ℤ)
    → row_record key row ≡ record_text (key ∷ signed_decimal row.0 ∷ value_text row.1 ∷ [])
row_is key row = simp append_assoc
