use Rattle.std.proofs.Common.{◌∙◌, ap, sym, rules}
use Rattle.std.proofs.lemmas.Result.{err_from_is_err_and}
use Rattle.rr_codec.specs.Recent.{KnownState}
use Rattle.rr_codec.specs.Reading.{cells_at, rest_of}
use Rattle.rr_codec.proofs.LoopLemmas.{head_faulty, cells_faulty, trailing}
use Rattle.rr_codec.proofs.decoding.whole.Goals as goal

pub returns-in_err-count : goal.returns-in_err-count
returns-in_err-count c =
    let p = err_from_is_err_and c.from_residual.result c.from_residual.ensures.1 in
    let read = c.in_err-count.ensures.read in
    rw (p.1, p.2) (
      head_faulty c.args.bytes.now c.in_err-count.field-0.0 read,
      (λ e. c.in_err-count.ensures.no_memory (search (rules, e))),
    )

pub returns-in_err-rest : goal.returns-in_err-rest
returns-in_err-rest c =
    let p = err_from_is_err_and c.from_residual-in_err-rest.result c.from_residual-in_err-rest.ensures.1 in
    let cells = c.in_ok-count.cells.now in
    let start = ap (λ (k : KnownState). rest_of (cells_at k c.in_ok-count.count cells)) (sym c.new.ensures) in
    rw (p.1, p.2) (
      cells_faulty c.args.bytes.now cells c.in_ok-count.count c.in_ok-count.span c.in_ok-count.ensures.read
          c.in_err-rest.field-0.0 (start ∙ c.in_err-rest.ensures.read),
      (λ e. c.in_err-rest.ensures.no_memory (search (rules, e))),
    )

pub returns-then-not-is_empty : goal.returns-then-not-is_empty
returns-then-not-is_empty c =
    let cells = c.in_ok-count.cells.now in
    let start = ap (λ (k : KnownState). rest_of (cells_at k c.in_ok-count.count cells)) (sym c.new.ensures) in (
      trailing c.args.bytes.now cells c.in_ok-count.count c.in_ok-count.span c.in_ok-count.ensures.read
          c.in_ok-rest.rest.now (start ∙ c.in_ok-rest.ensures.read) (search (rules, c.if-not-is_empty.ensures)),
      search rules,
    )
