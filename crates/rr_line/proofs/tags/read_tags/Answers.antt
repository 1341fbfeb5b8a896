-- What is read is what was gathered, unless a key occurs twice.
use Rattle.std.proofs.Common.{inr}
use Rattle.std.proofs.lemmas.Result.{err_from_is_err_and}
use Rattle.rr_line.proofs.GatheredLemmas.{tags_repeat, tags_refused, tags_good}
use Rattle.rr_line.proofs.tags.read_tags.Goals as goal

pub returns-then-has_repeat : goal.returns-then-has_repeat
returns-then-has_repeat c = inr (tags_repeat c.in_ok-tags.tags.items c.as_slice.result.now c.in_ok-tags.rest
    c.args.text.now c.in_ok-tags.ensures.gathered c.as_slice.ensures c.if-has_repeat.ensures)

pub returns-in_err-rest : goal.returns-in_err-rest
returns-in_err-rest c =
    let given = err_from_is_err_and c.from_residual-in_err-rest.result c.from_residual-in_err-rest.ensures.1 in
    rw (given.1, given.2) (inr (tags_refused c.in_ok-tags.tags.items c.as_slice.result.now c.in_ok-tags.rest
    c.in_err-rest.field-0.0 c.args.text.now c.in_ok-tags.ensures.gathered c.as_slice.ensures c.if-has_repeat.ensures
    c.in_err-rest.was))

pub returns : goal.returns
returns c = tags_good c.in_ok-tags.tags.items c.as_slice.result.now c.in_ok-tags.rest c.in_ok-rest.rest c.args.text.now
    c.in_ok-tags.ensures.gathered c.as_slice.ensures c.if-has_repeat.ensures c.in_ok-rest.was
