use Rattle.std.proofs.Common.{rules, ◌≡◌, Ok, Err, All, map, take, sym, subst}
use Rattle.rr_page.specs.PageReading.{page_at}
use Rattle.rr_cells.specs.CellBounds.{IsCellOf}
use Rattle.rr_cells.specs.Listing.{owned_cell}
use Rattle.rr_gossip.specs.declared.fault.GossipFault.TheVariants.{Memory}
use Rattle.rr_gossip.specs.declared.puller.Stage.TheVariants.{Waiting}
use Rattle.rr_gossip.specs.Puller.{page_taken}
use Rattle.rr_gossip.proofs.JoinLemmas.{page_prefix, memory_taken}
use Rattle.rr_gossip.proofs.joining.take_page.Goals as goal

pub join_all-requires : goal.join_all-requires
join_all-requires g c =
    subst (λ cells. All (λ x. IsCellOf (g.T.Target.layout c.args.target.now) (owned_cell x)) cells)
    (sym c.deref.ensures.value)
    (subst (λ s. All (λ x. IsCellOf s (owned_cell x)) c.in_ok-cells.cells.items) c.schema.ensures.value
    c.in_ok-cells.ensures.cells)

pub returns-in_err-join_all-clause-taken : goal.returns-in_err-join_all-clause-taken
returns-in_err-join_all-clause-taken g c =
    let s = g.T.Target.layout c.args.target.now in
    let joined = g.T.Target.has_joined c.args.target.now c.join_all.new.target in
    let body = c.args.body.now in
    let es = map owned_cell c.in_ok-cells.cells.items in
    let read : page_at s body ≡ Ok es = subst (λ l. page_at l body ≡ Ok es) c.schema.ensures.value
    c.in_ok-cells.ensures.reads.exact in
    let prefix = c.in_err-join_all.ensures.prefix in
    let memory : c.from_residual-in_err-join_all.result ≡ Err Memory = search rules in
    memory_taken joined Waiting c.from_residual-in_err-join_all.result (page_taken s body) (take prefix.0 es) memory
    (page_prefix s body es prefix.0 read)
    (subst (λ l. joined (take prefix.0 (map owned_cell l))) c.deref.ensures.value prefix.1)

pub returns-clause-taken : goal.returns-clause-taken
unfolding page_taken
returns-clause-taken g c = search rules
