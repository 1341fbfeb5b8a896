-- What is read is what was gathered, unless a key occurs twice.
use Rattle.std.proofs.Common.{inr}
use Rattle.std.proofs.lemmas.Result.{err_from_is_err_and}
use Rattle.rr_line.proofs.GatheredLemmas.{fields_repeat, fields_refused, fields_good}
use Rattle.rr_line.proofs.fields.read_fields.Goals as goal

pub returns-then-has_repeat : goal.returns-then-has_repeat
returns-then-has_repeat c = inr (fields_repeat c.in_ok-fields.fields.items c.deref.result.now c.in_ok-fields.rest
    c.args.text.now c.in_ok-fields.ensures.gathered c.deref.ensures.value c.if-has_repeat.ensures)

pub returns-in_err-rest : goal.returns-in_err-rest
returns-in_err-rest c =
    let given = err_from_is_err_and c.from_residual-in_err-rest.result c.from_residual-in_err-rest.ensures.1 in
    rw (given.1, given.2) (inr (fields_refused c.in_ok-fields.fields.items c.deref.result.now c.in_ok-fields.rest
    c.in_err-rest.field-0.0 c.args.text.now c.in_ok-fields.ensures.gathered c.deref.ensures.value
    c.if-has_repeat.ensures c.in_err-rest.was))

pub returns : goal.returns
returns c = fields_good c.in_ok-fields.fields.items c.deref.result.now c.in_ok-fields.rest c.in_ok-rest.rest
    c.args.text.now c.in_ok-fields.ensures.gathered c.deref.ensures.value c.if-has_repeat.ensures c.in_ok-rest.was
