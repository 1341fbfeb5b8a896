use Rattle.std.proofs.Common.{rules, ◌≡◌, ◌++◌, [], ◌∷◌, ap, ◌∙◌, List, ℕ}
use Rattle.std.specs.Fmt.{signed_decimal}
use Rattle.rr_cells.specs.FetchText.{comma, line_feed, value_text}
use Rattle.rr_fetch.proofs.RecordLemmas.{at_ok, prefix_and_rest}
use Rattle.rr_fetch.proofs.record.push_row.Goals as goal

pub returns : goal.returns
returns c = λ key is.
    let old = c.args.text.now.items in
    let rest : List ℕ = signed_decimal c.args.start ++ comma ∷ value_text c.args.value ++ line_feed ∷ [] in
    let prefix : c.extend_from_slice.new.self.items ≡ old ++ c.args.prefix.now = search rules in
    let written : c.split_at.result.1.now ≡ rest = search rules in
    at_ok c.extend_from_slice-2.result _ _ _ _ c.extend_from_slice-2.ensures.items
    (ap (λ l. l ++ c.split_at.result.1.now) prefix ∙ ap (λ l. (old ++ c.args.prefix.now) ++ l) written
    ∙ prefix_and_rest old key c.args.prefix.now c.args.start c.args.value (search rules) (search rules) is)
