use Rattle.std.proofs.Common.{rules, ◌∷◌, [], subst}
use Rattle.rr_io.specs.Counted.{inner_of}
use Rattle.rr_io.specs.Stream.{WritesWhole}
use Rattle.rr_journal.specs.Text.{Raw, records_text}
use Rattle.rr_checkpoint.proofs.TextLemmas.{none_written, one_ok, whole_prefix}
use Rattle.rr_checkpoint.proofs.progress.write_end.Goals as goal

pub returns-in_err-raw-clause-some : goal.returns-in_err-raw-clause-some
returns-in_err-raw-clause-some g c =
    let a = g.W.Write.contents (inner_of c.args.output.now) in
    record {
      records = [];
      prefix = whole_prefix a a _ (none_written a a c.args.progress.place.digest);
      failures_never_fall = search rules;
      failed = search rules;
    }

pub returns-clause-written : goal.returns-clause-written
returns-clause-written g c =
    one_ok c.write_raw.result c.write_raw.ensures.written
    (λ text. subst (λ (r : Raw). WritesWhole g.W.Write.contents c.args.output.now c.write_raw.new.output
    (records_text c.args.progress.place.digest (r ∷ []))) c.in_ok-raw.ensures.text text)
