use Rattle.std.proofs.Common.{rules, ◌≡◌, ◌∷◌, [], length, map, sym, ap, subst, List}
use Rattle.std.proofs.lemmas.List.{nil_from_length}
use Rattle.rr_cells.specs.CellBounds.{NamedCell}
use Rattle.rr_cells.specs.Listing.{owned_cell}
use Rattle.rr_io.specs.Counted.{inner_of}
use Rattle.rr_journal.specs.Text.{raw_of}
use Rattle.rr_checkpoint.specs.Text.{HaveCells}
use Rattle.rr_checkpoint.proofs.TextLemmas.{both_ok, no_cells, none_written, one_record, whole_prefix}
use Rattle.rr_checkpoint.proofs.progress.write_cells.Goals as goal

pub returns-then-is_empty-clause-written : goal.returns-then-is_empty-clause-written
returns-then-is_empty-clause-written g c =
    let a = g.W.Write.contents (inner_of c.args.output.now) in
    let len : length c.args.cells.now ≡ 0 = search rules in
    let none = nil_from_length c.args.cells.now len in
    record {
      records = [];
      have = subst (λ (l : List NamedCell). HaveCells [] l) (sym (ap (map owned_cell) none)) no_cells;
      text = none_written a a c.args.place.now.digest;
      chains = search rules;
    }

pub returns-then-is_empty-clause-some : goal.returns-then-is_empty-clause-some
returns-then-is_empty-clause-some g c =
    let a = g.W.Write.contents (inner_of c.args.output.now) in
    record {
      records = [];
      prefix = whole_prefix a a _ (none_written a a c.args.place.now.digest);
      failures_never_fall = search rules;
      failed = search rules;
    }

pub returns-in_err-raw-clause-some : goal.returns-in_err-raw-clause-some
returns-in_err-raw-clause-some g c =
    let a = g.W.Write.contents (inner_of c.args.output.now) in
    record {
      records = [];
      prefix = whole_prefix a a _ (none_written a a c.args.place.now.digest);
      failures_never_fall = search rules;
      failed = search rules;
    }

pub returns-clause-written : goal.returns-clause-written
returns-clause-written g c =
    both_ok c.write_raw.result c.write_raw.ensures.written c.write_raw.ensures.chains
    (λ text chains. record {
      records = raw_of c.in_ok-raw.raw ∷ [];
      have = one_record c.args.cells.now c.in_ok-raw.raw c.in_ok-raw.ensures;
      text = text;
      chains = chains;
    })
