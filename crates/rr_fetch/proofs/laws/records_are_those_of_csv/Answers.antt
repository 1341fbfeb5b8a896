use Rattle.std.proofs.Common.{false, sym, ◌∙◌, [], ◌∷◌}
use Rattle.std.specs.Fmt.{signed_decimal}
use Rattle.rr_cells.specs.FetchText.{value_text}
use Rattle.rr_fetch.proofs.WriterLemmas.{field_is, record_is, row_is}
use Rattle.rr_fetch.proofs.laws.records_are_those_of_csv.Goals as goal

pub returns : goal.returns
returns c = record {
  fields = λ field. sym (field_is false field);
  records = λ fields. sym (record_is false fields);
  rows = λ key row. row_is key row ∙ sym (record_is false (key ∷ signed_decimal row.0 ∷ value_text row.1 ∷ []));
}
