use Rattle.std.proofs.Common.{sym, arith, subst}
use Rattle.std.proofs.lemmas.Result.{IfOk-weaker}
use Rattle.rr_delta.specs.Difference.{IsSummary}
use Rattle.rr_cluster.proofs.CommandsLemmas.Delta.{summary_is_whole, newer_than_all, versions_are_summary, newer_is_page, newer_page_is_text}
use Rattle.rr_cluster.proofs.commands.delta.newer_page.Goals as goal

pub difference-requires : goal.difference-requires
difference-requires g c =
    let taker = c.args.taker.now.cells in
    let fits = c.deref.type_inv.1 in
    subst IsSummary (sym (summary_is_whole c.deref.result.now taker
    (rw c.deref.ensures.value c.in_ok-known.ensures.listed) (omega (arith, fits)))) (versions_are_summary taker)

pub encode-requires : goal.encode-requires
encode-requires g c =
    let giver = c.args.giver.now in
    let taker = c.args.taker.now.cells in
    let fits = c.deref.type_inv.1 in
    let cells = c.deref-2.result.now in
    let newer = newer_than_all c.deref.result.now cells giver.cells taker
    (rw c.deref.ensures.value c.in_ok-known.ensures.listed) (omega (arith, fits))
    (rw c.deref-2.ensures.value c.in_ok-newer.ensures.newer) in
    rw (c.part.ensures, c.schema.ensures.value) (newer_is_page giver.schema giver.cells taker cells newer
    (rw c.deref-2.ensures.value c.in_ok-newer.ensures.ascending)
    (rw c.deref-2.ensures.value c.in_ok-newer.ensures.of_schema) c.args.from c.args.count c.requires)

pub returns : goal.returns
returns g c =
    let giver = c.args.giver.now in
    let taker = c.args.taker.now.cells in
    let fits = c.deref.type_inv.1 in
    let cells = c.deref-2.result.now in
    let newer = newer_than_all c.deref.result.now cells giver.cells taker
    (rw c.deref.ensures.value c.in_ok-known.ensures.listed) (omega (arith, fits))
    (rw c.deref-2.ensures.value c.in_ok-newer.ensures.newer) in
    IfOk-weaker c.encode.result _ _ (λ page written. newer_page_is_text giver.schema giver.cells taker cells newer
    (rw c.deref-2.ensures.value c.in_ok-newer.ensures.ascending)
    (rw c.deref-2.ensures.value c.in_ok-newer.ensures.of_schema) c.args.from c.args.count c.requires
    page.items (rw (c.part.ensures, c.schema.ensures.value) at written)) c.encode.ensures
