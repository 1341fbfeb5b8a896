use Rattle.std.proofs.Common.{ℕ, List, Ok, ◌∙◌, ap, rules}
use Rattle.std.proofs.lemmas.Result.{err_from_is_err_and}
use Rattle.rr_codec.proofs.CheckLemmas.{head_faulty, cells_faulty, trailing, good, none_of}
use Rattle.rr_codec.proofs.checking.check.Goals as goal

pub returns-in_err-count : goal.returns-in_err-count
returns-in_err-count c =
    let p = err_from_is_err_and c.from_residual.result c.from_residual.ensures.1 in
    rw (p.1, p.2) (record {
      read = head_faulty c.args.schema.now c.args.archive c.args.bytes.now c.in_err-count.field-0.0
          c.in_err-count.ensures.read;
      no_memory = search (rules, c.in_err-count.ensures.no_memory);
    })

pub returns-in_err-rest : goal.returns-in_err-rest
returns-in_err-rest c =
    let p = err_from_is_err_and c.from_residual-in_err-rest.result c.from_residual-in_err-rest.ensures.1 in
    rw (p.1, p.2) (record {
      read = cells_faulty c.args.schema.now c.args.archive c.args.bytes.now c.in_ok-count.cells.now c.in_ok-count.count
          c.in_ok-count.span c.in_ok-count.ensures.read c.in_err-rest.field-0.0 c.in_err-rest.ensures.read;
      no_memory = search (rules, c.in_err-rest.ensures.no_memory);
    })

pub returns-then-not-is_empty : goal.returns-then-not-is_empty
returns-then-not-is_empty c = record {
  read = trailing c.args.schema.now c.args.archive c.args.bytes.now c.in_ok-count.cells.now c.in_ok-count.count
      c.in_ok-count.span c.in_ok-count.ensures.read c.in_ok-rest.rest.now c.in_ok-rest.ensures.read
      (search (rules, c.if-not-is_empty.ensures));
  no_memory = search rules;
}

pub returns : goal.returns
returns c =
    let none = none_of c.in_ok-rest.rest.now c.if-not-is_empty.ensures in
    record {
      read = good c.args.schema.now c.args.archive c.args.bytes.now c.in_ok-count.cells.now c.in_ok-count.count
          c.in_ok-count.span c.in_ok-count.ensures.read
          (c.in_ok-rest.ensures.read ∙ ap (λ (rest : List ℕ). Ok rest) none);
      no_memory = search rules;
    }
