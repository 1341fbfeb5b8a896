use Rattle.std.proofs.Common.{ap, sym, ◌∙◌}
use Rattle.rr_delta.specs.Names.{owned_name}
use Rattle.rr_page.specs.PageReading.{is_after}
use Rattle.rr_gossip.proofs.LoopLemmas.{last_name_is}
use Rattle.rr_gossip.proofs.summary.is_next.Goals as goal

pub returns-in-Some : goal.returns-in-Some
returns-in-Some c =
    c.follows.ensures ∙ sym (ap (λ o. is_after o (owned_name c.args.name.now).0)
    (last_name_is c.args.names.now c.in-Some.before.now c.in-Some.ensures.value))
