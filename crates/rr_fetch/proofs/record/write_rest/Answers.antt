use Rattle.std.proofs.Common.{rules, ◌≡◌, ◌++◌, [], ◌∷◌, drop, ap, ◌∙◌, sym, append_assoc}
use Rattle.std.specs.Fmt.{signed_decimal}
use Rattle.std.proofs.lemmas.List.{drop_all}
use Rattle.rr_cells.specs.FetchText.{comma, line_feed, value_text}
use Rattle.rr_fetch.proofs.record.write_rest.Goals as goal

pub returns-clause-written : goal.returns-clause-written
returns-clause-written c =
    let feed : drop c.write_byte-end.result c.write_byte-end.new.text ≡ line_feed ∷ [] =
    c.write_byte-end.ensures.written ∙ ap (λ l. line_feed ∷ l) (drop_all 42 c.args.rest.now (search rules)) in
    let value : drop c.write_value-end.result c.write_value-end.new.text ≡ value_text c.args.value ++ line_feed ∷ [] =
    c.write_value-end.ensures.written ∙ ap (λ l. value_text c.args.value ++ l) feed in
    let next : drop c.write_byte-end-2.result c.write_byte-end-2.new.text ≡ comma ∷ value_text c.args.value
    ++ line_feed ∷ [] =
    c.write_byte-end-2.ensures.written ∙ ap (λ l. comma ∷ l) value in
    let start : drop c.write_number.result c.write_number.new.text ≡ signed_decimal c.args.start
    ++ drop c.write_byte-end-2.result c.write_byte-end-2.new.text = search rules in
    start ∙ ap (λ l. signed_decimal c.args.start ++ l) next
    ∙ sym (append_assoc (signed_decimal c.args.start) (comma ∷ value_text c.args.value) (line_feed ∷ []))
