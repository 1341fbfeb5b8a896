use Rattle.std.proofs.Common.{inr, map}
use Rattle.std.proofs.lemmas.List.{map-append}
use Rattle.std.proofs.lemmas.Result.{err_from_is_err_and}
use Rattle.std.specs.String.{string_bytes}
use Rattle.rr_config.proofs.TextsLemmas.{next_value, no_text, one_more_text, no_more}
use Rattle.rr_config.proofs.value.texts_in.Goals as goal

pub returns-in_err-text : goal.returns-in_err-text
returns-in_err-text c =
    let next = next_value c.args.values.now.items c.loop-value.value-index c.value-item.result
    (rw c.deref-value-items.ensures.value at c.loop-value-test.true)
    (rw c.deref-value-items.ensures.value at c.value-item.is) in
    let p = err_from_is_err_and c.from_residual.result c.from_residual.ensures.1 in
    rw (p.1, p.2) (inr (no_text (map string_bytes c.loop-value.texts.items) c.value-item.result _ _ _
    c.in_err-text.ensures (rw next at c.loop-value.invariant)))

pub loop-value-preserved : goal.loop-value-preserved
loop-value-preserved c =
    let next = next_value c.args.values.now.items c.loop-value.value-index c.value-item.result
    (rw c.deref-value-items.ensures.value at c.loop-value-test.true)
    (rw c.deref-value-items.ensures.value at c.value-item.is) in
    rw (c.in_ok-push.ensures.items, map-append, c.in_ok-from_str.ensures.ok)
    (one_more_text (map string_bytes c.loop-value.texts.items) c.value-item.result _ c.in_ok-text.text.now _
    c.in_ok-text.ensures (rw next at c.loop-value.invariant))

pub returns : goal.returns
returns c = no_more (map string_bytes c.loop-value.texts.items) c.args.values.now.items c.loop-value.value-index _
    (rw c.deref-value-items.ensures.value at c.loop-value-test.false) c.loop-value.invariant
