use Rattle.std.proofs.Common.{◌≤◌, arith, vec_len, map, length, ap, ◌∙◌}
use Rattle.rr_delta.specs.Names.{owned_name}
use Rattle.rr_gossip.specs.declared.frame.Kind.TheVariants as kind
use Rattle.rr_gossip.specs.Frame.{frame_text}
use Rattle.rr_gossip.specs.Puller.{last_listed}
use Rattle.rr_gossip.specs.Summary.{summary_text}
use Rattle.rr_gossip.proofs.ListedLemmas.{popped_is, listed_is}
use Rattle.rr_gossip.proofs.PagesLemmas.{some_from}
use Rattle.rr_gossip.proofs.puller.listed.Goals as goal

pub returns : goal.returns
returns c =
    let names = c.args.names.items in
    let held = some_from c.is_empty.result (vec_len c.args.names) c.is_empty.ensures c.if-is_empty.false in
    let some : 1 ≤ length names = omega (arith, held, c.args.names.ok.0) in
    let last = ap (λ l. last_listed (map owned_name l)) c.pop.ensures.items
    ∙ popped_is c.pop.new.self.items c.pop.result (c.pop.ensures.variant.1 held) in
    let body = c.deref-2.ensures.value ∙ c.in_ok-body.ensures
    ∙ ap (λ l. summary_text (map owned_name l)) c.deref.ensures.value in
    listed_is names c.pop.result c.in_ok-frame.frame.items some last
    (c.in_ok-frame.ensures ∙ ap (λ b. frame_text kind.Summary b) body)
