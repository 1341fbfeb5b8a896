use Rattle.std.proofs.Common.{rules, ◌∷◌, []}
use Rattle.rr_io.specs.Counted.{inner_of}
use Rattle.rr_journal.specs.Text.{raw_of}
use Rattle.rr_checkpoint.proofs.TextLemmas.{one_prefix, one_written, whole_prefix}
use Rattle.rr_checkpoint.proofs.progress.write_raw.Goals as goal

pub returns-in_err-write_record-clause-some : goal.returns-in_err-write_record-clause-some
returns-in_err-write_record-clause-some g c = record {
  records = raw_of c.args.raw.now ∷ [];
  prefix = one_prefix (g.W.Write.contents (inner_of c.args.output.now))
      (g.W.Write.contents (inner_of c.write_record.new.output)) c.args.place.now.digest (raw_of c.args.raw.now)
      c.in_err-write_record.ensures.writes.prefix;
  failures_never_fall = search rules;
  failed = search rules;
}

pub returns-clause-written : goal.returns-clause-written
returns-clause-written g c =
    one_written (g.W.Write.contents (inner_of c.args.output.now))
    (g.W.Write.contents (inner_of c.write_record.new.output)) c.args.place.now.digest (raw_of c.args.raw.now)
    c.in_ok-write_record.ensures.writes.whole

pub returns-clause-some : goal.returns-clause-some
returns-clause-some g c =
    let a = g.W.Write.contents (inner_of c.args.output.now) in
    let b = g.W.Write.contents (inner_of c.write_record.new.output) in
    let before = c.args.place.now.digest in
    record {
      records = raw_of c.args.raw.now ∷ [];
      prefix = whole_prefix a b _ (one_written a b before (raw_of c.args.raw.now)
          c.in_ok-write_record.ensures.writes.whole);
      failures_never_fall = search rules;
      failed = search rules;
    }
