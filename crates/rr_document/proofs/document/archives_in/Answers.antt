use Rattle.std.proofs.lemmas.Result.{err_from_is_err_and}
use Rattle.std.proofs.Common.{inr}
use Rattle.rr_document.proofs.DocumentLemmas.{next_value, no_table, no_archive, one_more_archive, no_more}
use Rattle.rr_document.proofs.document.archives_in.Goals as goal

pub returns-in-None : goal.returns-in-None
returns-in-None c =
    let next = next_value c.args.values.now.items c.loop-value.value-index c.value-item.result
    (rw c.deref-value-items.ensures.value at c.loop-value-test.true)
    (rw c.deref-value-items.ensures.value at c.value-item.is) in
    inr (no_table c.loop-value.archives.items c.value-item.result _ _ (c.in-None.ensures)
    (rw next at c.loop-value.invariant))

pub returns-in_err-archive-in-Some : goal.returns-in_err-archive-in-Some
returns-in_err-archive-in-Some c =
    let next = next_value c.args.values.now.items c.loop-value.value-index c.value-item.result
    (rw c.deref-value-items.ensures.value at c.loop-value-test.true)
    (rw c.deref-value-items.ensures.value at c.value-item.is) in
    let p = err_from_is_err_and c.from_residual.result c.from_residual.ensures.1 in
    rw (p.1, p.2) (inr (no_archive c.loop-value.archives.items c.value-item.result _ _ _ _ c.in-Some.ensures
    c.in_err-archive-in-Some.ensures (rw next at c.loop-value.invariant)))

pub loop-value-preserved : goal.loop-value-preserved
loop-value-preserved c =
    let next = next_value c.args.values.now.items c.loop-value.value-index c.value-item.result
    (rw c.deref-value-items.ensures.value at c.loop-value-test.true)
    (rw c.deref-value-items.ensures.value at c.value-item.is) in
    rw c.in_ok-push-in-Some.ensures.items (one_more_archive c.loop-value.archives.items c.value-item.result _ _
    c.in_ok-archive-in-Some.archive _ c.in-Some.ensures c.in_ok-archive-in-Some.ensures
    (rw next at c.loop-value.invariant))

pub returns : goal.returns
returns c = no_more c.loop-value.archives.items c.args.values.now.items c.loop-value.value-index _
    (rw c.deref-value-items.ensures.value at c.loop-value-test.false) c.loop-value.invariant
