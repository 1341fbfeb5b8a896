use Rattle.std.proofs.Common.{◌≡◌, ◌++◌, ◌∷◌, [], ◌∙◌, sym, ap, map, inl, inr, true, false}
use Rattle.std.proofs.lemmas.Result.{err_from_is_err_and}
use Rattle.std.proofs.lemmas.List.{map_push}
use Rattle.rr_delta.specs.Names.{owned_name}
use Rattle.rr_page.specs.PageReading.{is_after}
use Rattle.rr_gossip.specs.Summary.{last_name}
use Rattle.rr_gossip.specs.SummaryReading.{entries_at}
use Rattle.rr_gossip.proofs.LoopLemmas.{goes_on, ends, falls, is_done}
use Rattle.rr_gossip.proofs.summary.push_entries.Goals as goal

pub returns-in_err-name : goal.returns-in_err-name
returns-in_err-name c =
    let total = entries_at c.args.schema.now (map owned_name c.args.names.now.items) c.args.count c.args.bytes.now in
    let p = err_from_is_err_and c.from_residual.result c.from_residual.ensures.1 in
    rw (p.1, p.2)
    (elim c.in_err-name.ensures [
      | inl m ↦ inl m
      | inr e ↦ inr (ends c.args.schema.now (map owned_name c.loop.names.items) c.args.count c.loop.counter
          c.loop.rest.now total c.loop.invariant c.in_err-name.field-0.0 c.loop-test.true e)
    ])

pub returns-then-not-is_next : goal.returns-then-not-is_next
returns-then-not-is_next c =
    let total = entries_at c.args.schema.now (map owned_name c.args.names.now.items) c.args.count c.args.bytes.now in
    let v = owned_name c.in_ok-name.name in
    let falling : is_after (last_name (map owned_name c.loop.names.items)) v.0 ≡ false =
    ap (λ names. is_after (last_name (map owned_name names)) v.0) (sym c.deref.ensures.value) ∙ sym c.is_next.ensures
    ∙ c.if-not-is_next.true in
    inr (falls c.args.schema.now (map owned_name c.loop.names.items) c.args.count c.loop.counter c.loop.rest.now total
    c.loop.invariant v c.in_ok-name.after.now c.loop-test.true c.in_ok-name.ensures falling)

pub loop-preserved : goal.loop-preserved
loop-preserved c =
    let total = entries_at c.args.schema.now (map owned_name c.args.names.now.items) c.args.count c.args.bytes.now in
    let name = c.in_ok-name.name in
    let v = owned_name name in
    let rising : is_after (last_name (map owned_name c.loop.names.items)) v.0 ≡ true =
    ap (λ names. is_after (last_name (map owned_name names)) v.0) (sym c.deref.ensures.value) ∙ sym c.is_next.ensures
    ∙ c.if-not-is_next.false in
    let e : map owned_name c.push.new.self.items ≡ map owned_name c.loop.names.items ++ v ∷ [] =
    rw c.in_ok-push.ensures.items (map_push _ c.loop.names.items name) in
    rw e (goes_on c.args.schema.now (map owned_name c.loop.names.items) c.args.count c.loop.counter c.loop.rest.now
    total c.loop.invariant v c.in_ok-name.after.now c.loop-test.true c.in_ok-name.ensures rising)

pub returns : goal.returns
returns c =
    let total = entries_at c.args.schema.now (map owned_name c.args.names.now.items) c.args.count c.args.bytes.now in
    is_done c.args.schema.now (map owned_name c.loop.names.items) c.args.count c.loop.counter c.loop.rest.now total
    c.loop.invariant c.loop-test.false
