use Rattle.std.proofs.Common.{length, Some, sym, ap, ◌∙◌}
use Rattle.std.proofs.lemmas.Bool.{ltb-true}
use Rattle.std.proofs.lemmas.Option.{slice_get-get_or}
use Rattle.rr_replica.proofs.IndexedLemmas.{same_text}
use Rattle.rr_replica.proofs.series.SeriesMap.index_near.Goals as goal

pub returns-then-eq : goal.returns-then-eq
returns-then-eq g c =
    let keys = c.args.self.now.keys.items in
    let index = c.args.hint.index in
    let found = c.in_ok-near.near.now in
    let lookup = rw c.deref.ensures.value at c.in_ok-near.ensures.lookup in
    slice_get-get_or keys index found (ltb-true index (length keys) (sym lookup.0))
    ∙ ap (λ k. Some k) (sym lookup.1 ∙ same_text found c.args.key.now (sym c.eq.ensures ∙ c.if-eq.true))
