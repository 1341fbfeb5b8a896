-- The answer is that of the grammar.
use Rattle.std.proofs.Common.{sym, subst, ◌∙◌, inl, inr}
use Rattle.std.proofs.lemmas.Result.{err_from_is_err_and}
use Rattle.rr_line.specs.Grammar.{IsLineOf}
use Rattle.rr_point.specs.Point.{point_view}
use Rattle.rr_line.proofs.LineLemmas.{line_found, line_only, point_parsed, point_refused, none_in_content, keys_of_point, few_of_point}
use Rattle.rr_line.proofs.parse.parse_line.Goals as goal

pub read_point-requires-clause-one_line : goal.read_point-requires-clause-one_line
read_point-requires-clause-one_line c = none_in_content c.args.line.now c.content-text.result.now c.requires
    c.content-text.ensures

pub returns-in_err-point-clause-found : goal.returns-in_err-point-clause-found
returns-in_err-point-clause-found c =
    let given = err_from_is_err_and c.from_residual.result c.from_residual.ensures.1 in
    rw (given.1, given.2) (elim c.in_err-point.ensures.read [
      | inl memory ↦ inl memory
      | inr refused ↦ inr (subst (IsLineOf c.args.precision c.args.line.now)
          (point_refused c.args.precision c.args.line.now c.content-text.result.now c.in_err-point.field-0.0
          c.content-text.ensures c.if-is_nothing.ensures refused) (line_found c.args.precision c.args.line.now))
    ])

pub returns-in_err-point-clause-only : goal.returns-in_err-point-clause-only
returns-in_err-point-clause-only c =
    let given = err_from_is_err_and c.from_residual.result c.from_residual.ensures.1 in
    λ parsed h. rw (given.1, given.2) (elim c.in_err-point.ensures.read [
      | inl memory ↦ inl memory
      | inr refused ↦ inr (sym (line_only c.args.precision c.args.line.now parsed h)
          ∙ point_refused c.args.precision c.args.line.now c.content-text.result.now c.in_err-point.field-0.0
          c.content-text.ensures c.if-is_nothing.ensures refused)
    ])

pub returns-clause-found : goal.returns-clause-found
returns-clause-found c =
    subst (IsLineOf c.args.precision c.args.line.now)
    (point_parsed c.args.precision c.args.line.now c.content-text.result.now (point_view c.in_ok-point.point)
    c.content-text.ensures c.if-is_nothing.ensures c.in_ok-point.ensures.read)
    (line_found c.args.precision c.args.line.now)

pub returns-clause-only : goal.returns-clause-only
returns-clause-only c =
    λ parsed h. sym (line_only c.args.precision c.args.line.now parsed h)
    ∙ point_parsed c.args.precision c.args.line.now c.content-text.result.now (point_view c.in_ok-point.point)
    c.content-text.ensures c.if-is_nothing.ensures c.in_ok-point.ensures.read

pub returns-clause-keyed : goal.returns-clause-keyed
returns-clause-keyed c =
    keys_of_point c.args.precision c.args.line.now (point_view c.in_ok-point.point) c.requires
    (subst (IsLineOf c.args.precision c.args.line.now)
    (point_parsed c.args.precision c.args.line.now c.content-text.result.now (point_view c.in_ok-point.point)
    c.content-text.ensures c.if-is_nothing.ensures c.in_ok-point.ensures.read)
    (line_found c.args.precision c.args.line.now))

pub returns-clause-fields_fit : goal.returns-clause-fields_fit
returns-clause-fields_fit c =
    few_of_point c.args.precision c.args.line.now (point_view c.in_ok-point.point)
    (subst (IsLineOf c.args.precision c.args.line.now)
    (point_parsed c.args.precision c.args.line.now c.content-text.result.now (point_view c.in_ok-point.point)
    c.content-text.ensures c.if-is_nothing.ensures c.in_ok-point.ensures.read)
    (line_found c.args.precision c.args.line.now))
