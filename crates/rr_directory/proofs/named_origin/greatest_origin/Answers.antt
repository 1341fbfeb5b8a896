use Rattle.std.proofs.Common.{rules, ◌≡◌, ◌+◌, ◌++◌, take, get_or, option_to_list, subst, sym, ap, ◌∙◌, Option, ℕ}
use Rattle.rr_directory.specs.NamedOrigins.{later_of}
use Rattle.rr_directory.specs.Start.{IsGreatest}
use Rattle.rr_directory.proofs.NamedOriginLemmas.{greatest_next}
use Rattle.rr_directory.proofs.named_origin.greatest_origin.Goals as goal

pub loop-origin-preserved : goal.loop-origin-preserved
loop-origin-preserved c =
    let names = c.args.named.now in
    let i = c.loop-origin.origin-index in
    let so_far = c.loop-origin.greatest in
    let item : get_or names i c.origin-item.result ≡ c.origin-item.result = search rules in
    let next =
    greatest_next names i c.origin-item.result c.args.recorded so_far c.loop-origin-test.true c.loop-origin.invariant in
    subst (λ (o : Option ℕ). IsGreatest (option_to_list c.args.recorded ++ take (i + 1) names) o)
    (ap (later_of so_far) item ∙ sym c.later_of-greatest.ensures) next
