use Rattle.std.proofs.Common.{rules, ◌<◌, length, sym, ap, ◌∙◌, Some}
use Rattle.std.proofs.lemmas.Option.{slice_get-get_or}
use Rattle.rr_packed.proofs.SparseLemmas.{item_found, item_none}
use Rattle.rr_packed.proofs.sparse.Sparse.get.Goals as goal

pub returns-in-Some : goal.returns-in-Some
returns-in-Some g c =
    let s = c.args.self.now in
    let at = c.in-Some.at in
    let within : at < length s.items.items = search rules in
    record {
      value = ap (λ x. Some x) c.index.ensures
          ∙ sym (slice_get-get_or s.items.items at c.index.result.now within)
          ∙ sym (item_found s.mask s.items.items c.args.number.value at c.in-Some.ensures.place);
    }

pub returns-in-None : goal.returns-in-None
returns-in-None g c =
    let s = c.args.self.now in
    record { value = sym (item_none s.mask s.items.items c.args.number.value (sym c.in-None.ensures.place)) }
