use Rattle.std.proofs.Common.{length, Some, sym, ap, ◌∙◌}
use Rattle.std.proofs.lemmas.Bool.{ltb-true}
use Rattle.std.proofs.lemmas.Option.{slice_get-get_or}
use Rattle.rr_replica.proofs.IndexedLemmas.{same_text}
use Rattle.rr_replica.proofs.hints.Hints.find.Goals as goal

pub returns-then-eq : goal.returns-then-eq
returns-then-eq c =
    let keys = c.args.keys.now in
    let index = c.in_ok-index.index in
    let found = c.in_ok-get.field-0.now in
    let lookup = c.in_ok-get.ensures.lookup in
    slice_get-get_or keys index found (ltb-true index (length keys) (sym lookup.0))
    ∙ ap (λ k. Some k) (sym lookup.1 ∙ same_text found c.args.key.now (sym c.eq.ensures ∙ c.if-eq.true))
