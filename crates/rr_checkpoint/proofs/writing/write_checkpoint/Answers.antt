use Rattle.std.proofs.Common.{rules, ◌≡◌, ◌++◌, ◌∷◌, [], ap, subst, ◌∙◌, arith}
use Rattle.rr_schema.specs.Schema.{Layout}
use Rattle.rr_io.specs.Counted.{inner_of}
use Rattle.rr_io.specs.Stream.{AppendsPrefix}
use Rattle.rr_journal.specs.Header.{header_text}
use Rattle.rr_journal.specs.Text.{records_text}
use Rattle.rr_checkpoint.specs.Text.{end_text}
use Rattle.rr_io.proofs.StreamLemmas.{prefix_before}
use Rattle.rr_checkpoint.proofs.TextLemmas.{file_ends, file_prefix, file_written, nothing_prefix, whole_prefix}
use Rattle.rr_checkpoint.proofs.writing.write_checkpoint.Goals as goal

pub returns-in_err-header-clause-some : goal.returns-in_err-header-clause-some
returns-in_err-header-clause-some g c = record {
  records = [];
  prefix = nothing_prefix (g.W.Write.contents (inner_of c.args.output.now)) _;
  failures_never_fall = search rules;
  failed = search rules;
}

pub returns-in_err-write_all-clause-some : goal.returns-in_err-write_all-clause-some
returns-in_err-write_all-clause-some g c =
    let a = g.W.Write.contents (inner_of c.args.output.now) in
    let b = g.W.Write.contents (inner_of c.write_all.new.output) in
    let header = header_text c.args.reader.now.schema c.args.begins.now in
    let is : c.deref.result.now ≡ header = c.deref.ensures.value ∙ c.in_ok-header.ensures
    ∙ ap (λ (s : Layout). header_text s c.args.begins.now) c.schema.ensures.value in
    record {
      records = [];
      prefix = prefix_before a b header (records_text c.args.begins.now.digest [])
          (subst (AppendsPrefix a b) is c.in_err-write_all.ensures.prefix);
      failures_never_fall = search rules;
      failed = search rules;
    }

pub returns-in_err-write_walk-clause-some : goal.returns-in_err-write_walk-clause-some
returns-in_err-write_walk-clause-some g c =
    let a = g.W.Write.contents (inner_of c.args.output.now) in
    let b = g.W.Write.contents (inner_of c.write_all.new.output) in
    let d = g.W.Write.contents (inner_of c.write_walk.new.output) in
    let header = header_text c.args.reader.now.schema c.args.begins.now in
    let is : c.deref.result.now ≡ header = c.deref.ensures.value ∙ c.in_ok-header.ensures
    ∙ ap (λ (s : Layout). header_text s c.args.begins.now) c.schema.ensures.value in
    record {
      records = c.in_err-write_walk.ensures.some.records;
      prefix = file_prefix a b d header c.deref.result.now _ is c.in_ok-write_all.ensures.whole
          c.in_err-write_walk.ensures.some.prefix;
      failures_never_fall = search rules;
      failed = search rules;
    }

pub returns-in_err-write_walk-clause-too_many : goal.returns-in_err-write_walk-clause-too_many
returns-in_err-write_walk-clause-too_many g c = λ is. c.in_err-write_walk.ensures.too_many (search rules)

pub returns-in_err-write_end-clause-some : goal.returns-in_err-write_end-clause-some
returns-in_err-write_end-clause-some g c =
    let a = g.W.Write.contents (inner_of c.args.output.now) in
    let b = g.W.Write.contents (inner_of c.write_all.new.output) in
    let d = g.W.Write.contents (inner_of c.write_walk.new.output) in
    let e = g.W.Write.contents (inner_of c.write_end.new.output) in
    let header = header_text c.args.reader.now.schema c.args.begins.now in
    let is : c.deref.result.now ≡ header = c.deref.ensures.value ∙ c.in_ok-header.ensures
    ∙ ap (λ (s : Layout). header_text s c.args.begins.now) c.schema.ensures.value in
    let walk = c.in_ok-write_walk.ensures.written.written.records in
    record {
      records = walk.records ++ c.in_err-write_end.ensures.some.records;
      prefix = file_ends a b d e header c.deref.result.now c.args.begins.now.digest c.write_walk.new.progress.place.digest
          walk.records c.in_err-write_end.ensures.some.records is walk.chains c.in_ok-write_all.ensures.whole walk.text
          c.in_err-write_end.ensures.some.prefix;
      failures_never_fall = search rules;
      failed = search rules;
    }

pub returns-clause-written : goal.returns-clause-written
returns-clause-written g c =
    let a = g.W.Write.contents (inner_of c.args.output.now) in
    let b = g.W.Write.contents (inner_of c.write_all.new.output) in
    let d = g.W.Write.contents (inner_of c.write_walk.new.output) in
    let e = g.W.Write.contents (inner_of c.write_end.new.output) in
    let header = header_text c.args.reader.now.schema c.args.begins.now in
    let is : c.deref.result.now ≡ header = c.deref.ensures.value ∙ c.in_ok-header.ensures
    ∙ ap (λ (s : Layout). header_text s c.args.begins.now) c.schema.ensures.value in
    let all = c.in_ok-write_walk.ensures.written in
    let walk = all.written.records in
    let count = all.written.count in
    record {
      reads = all.reads;
      walk = all.walk;
      records = walk.records;
      have = walk.have;
      count = omega (arith, count);
      text = file_written a b d e header c.deref.result.now c.args.begins.now.digest
          c.write_walk.new.progress.place.digest walk.records (end_text c.write_walk.new.progress.cells ∷ []) is
          walk.chains c.in_ok-write_all.ensures.whole walk.text c.in_ok-write_end.ensures.written;
    }

pub returns-clause-some : goal.returns-clause-some
returns-clause-some g c =
    let a = g.W.Write.contents (inner_of c.args.output.now) in
    let b = g.W.Write.contents (inner_of c.write_all.new.output) in
    let d = g.W.Write.contents (inner_of c.write_walk.new.output) in
    let e = g.W.Write.contents (inner_of c.write_end.new.output) in
    let header = header_text c.args.reader.now.schema c.args.begins.now in
    let is : c.deref.result.now ≡ header = c.deref.ensures.value ∙ c.in_ok-header.ensures
    ∙ ap (λ (s : Layout). header_text s c.args.begins.now) c.schema.ensures.value in
    let walk = c.in_ok-write_walk.ensures.written.written.records in
    let end = end_text c.write_walk.new.progress.cells ∷ [] in
    record {
      records = walk.records ++ end;
      prefix = whole_prefix a e _ (file_written a b d e header c.deref.result.now c.args.begins.now.digest
          c.write_walk.new.progress.place.digest walk.records end is walk.chains c.in_ok-write_all.ensures.whole walk.text
          c.in_ok-write_end.ensures.written);
      failures_never_fall = search rules;
      failed = search rules;
    }
