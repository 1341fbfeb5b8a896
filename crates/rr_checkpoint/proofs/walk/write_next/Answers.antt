use Rattle.std.proofs.Common.{rules, ◌≡◌, ◌<◌, map, length, vec_len, ap, sym, subst, ◌∙◌, []}
use Rattle.rr_cells.specs.Listing.{owned_cell}
use Rattle.rr_changes.specs.Changes.{name_in}
use Rattle.rr_io.specs.Counted.{inner_of}
use Rattle.rr_checkpoint.specs.Writing.{next_seen}
use Rattle.rr_checkpoint.proofs.TextLemmas.{none_written, whole_prefix}
use Rattle.rr_checkpoint.proofs.WalkLemmas.{few_listed, last_listed, many_listed}
use Rattle.rr_checkpoint.proofs.walk.write_next.Goals as goal

pub returns-in_err-cells-clause-some : goal.returns-in_err-cells-clause-some
returns-in_err-cells-clause-some g c =
    let a = g.W.Write.contents (inner_of c.args.output.now) in
    record {
      records = [];
      prefix = whole_prefix a a _ (none_written a a c.args.progress.now.place.digest);
      failures_never_fall = search rules;
      failed = search rules;
    }

pub write_cells-requires : goal.write_cells-requires
write_cells-requires g c =
    few_listed c.cells_after.new.self (name_in c.args.after) c.deref.result.now
    (ap (map owned_cell) c.deref.ensures.value ∙ c.in_ok-cells.ensures.answer.newer)

pub returns-in_err-write_cells-clause-some : goal.returns-in_err-write_cells-clause-some
returns-in_err-write_cells-clause-some g c = record {
  records = c.in_err-write_cells.ensures.some.records;
  prefix = c.in_err-write_cells.ensures.some.prefix;
  failures_never_fall = search rules;
  failed = search rules;
}

pub returns-in_err-sum-clause-some : goal.returns-in_err-sum-clause-some
returns-in_err-sum-clause-some g c = record {
  records = c.in_ok-write_cells.ensures.some.records;
  prefix = c.in_ok-write_cells.ensures.some.prefix;
  failures_never_fall = search rules;
  failed = search rules;
}

pub returns-in_err-sum-clause-too_many : goal.returns-in_err-sum-clause-too_many
returns-in_err-sum-clause-too_many g c = λ is.
    many_listed c.args.progress.now.cells (next_seen c.cells_after.new.self (name_in c.args.after))
    c.in_ok-cells.cells.items c.in_ok-cells.ensures.answer.newer (search rules)

pub returns-then-len-lt-MAX_RECORD_CELLS-clause-some : goal.returns-then-len-lt-MAX_RECORD_CELLS-clause-some
returns-then-len-lt-MAX_RECORD_CELLS-clause-some g c = record {
  records = c.in_ok-write_cells.ensures.some.records;
  prefix = c.in_ok-write_cells.ensures.some.prefix;
  failures_never_fall = search rules;
  failed = search rules;
}

pub returns-clause-last : goal.returns-clause-last
returns-clause-last g c =
    let len : vec_len c.in_ok-cells.cells ≡ length c.in_ok-cells.cells.items = search rules in
    last_listed (name_in c.args.after) (next_seen c.cells_after.new.self (name_in c.args.after))
    c.in_ok-cells.cells.items c.pop.new.self.items c.pop.result c.in_ok-cells.ensures.answer.newer (search rules)
    (search rules) (λ some. c.pop.ensures.variant.1 (subst (λ n. 0 < n) (sym len) some))

pub returns-clause-some : goal.returns-clause-some
returns-clause-some g c = record {
  records = c.in_ok-write_cells.ensures.some.records;
  prefix = c.in_ok-write_cells.ensures.some.prefix;
  failures_never_fall = search rules;
  failed = search rules;
}
