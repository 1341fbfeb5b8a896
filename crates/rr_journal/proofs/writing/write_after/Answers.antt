use Rattle.std.proofs.Common.{rules}
use Rattle.rr_io.specs.Counted.{inner_of}
use Rattle.rr_journal.proofs.WritingLemmas.{record_first, record_second, record_third, record_whole, record_prefix}
use Rattle.rr_journal.proofs.writing.write_after.Goals as goal

pub returns-in_err-write_all-clause-writes : goal.returns-in_err-write_all-clause-writes
returns-in_err-write_all-clause-writes g c = record {
  whole = search rules;
  prefix = record_first c.args.digest.now c.head-head.result c.args.body.now c.link-own.result c.args.kind
      c.head-head.ensures c.link-own.ensures (g.W.Write.contents (inner_of c.args.output.now))
      (g.W.Write.contents (inner_of c.write_all.new.output))
      (g.W.Write.contents (inner_of c.write_all.new.output)) (g.W.Write.contents (inner_of c.write_all.new.output))
      c.in_err-write_all.ensures.prefix;
  failures_never_fall = search rules;
  failed = search rules;
}

pub returns-in_err-write_all-2-clause-writes : goal.returns-in_err-write_all-2-clause-writes
returns-in_err-write_all-2-clause-writes g c = record {
  whole = search rules;
  prefix = record_second c.args.digest.now c.head-head.result c.args.body.now c.link-own.result c.args.kind
      c.head-head.ensures c.link-own.ensures (g.W.Write.contents (inner_of c.args.output.now))
      (g.W.Write.contents (inner_of c.write_all.new.output))
      (g.W.Write.contents (inner_of c.write_all-2.new.output))
      (g.W.Write.contents (inner_of c.write_all-2.new.output))
      c.in_ok-write_all.ensures.whole c.in_err-write_all-2.ensures.prefix;
  failures_never_fall = search rules;
  failed = search rules;
}

pub returns-in_err-write_all-3-clause-writes : goal.returns-in_err-write_all-3-clause-writes
returns-in_err-write_all-3-clause-writes g c = record {
  whole = search rules;
  prefix = record_third c.args.digest.now c.head-head.result c.args.body.now c.link-own.result c.args.kind
      c.head-head.ensures c.link-own.ensures (g.W.Write.contents (inner_of c.args.output.now))
      (g.W.Write.contents (inner_of c.write_all.new.output))
      (g.W.Write.contents (inner_of c.write_all-2.new.output))
      (g.W.Write.contents (inner_of c.write_all-3.new.output))
      c.in_ok-write_all.ensures.whole c.in_ok-write_all-2.ensures.whole c.in_err-write_all-3.ensures.prefix;
  failures_never_fall = search rules;
  failed = search rules;
}

pub returns-clause-writes : goal.returns-clause-writes
returns-clause-writes g c = record {
  whole = record_whole c.args.digest.now c.head-head.result c.args.body.now c.link-own.result c.args.kind
      c.head-head.ensures c.link-own.ensures (g.W.Write.contents (inner_of c.args.output.now))
      (g.W.Write.contents (inner_of c.write_all.new.output))
      (g.W.Write.contents (inner_of c.write_all-2.new.output))
      (g.W.Write.contents (inner_of c.write_all-3.new.output))
      c.in_ok-write_all.ensures.whole c.in_ok-write_all-2.ensures.whole c.in_ok-write_all-3.ensures.whole;
  prefix = record_prefix c.args.digest.now c.head-head.result c.args.body.now c.link-own.result c.args.kind
      c.head-head.ensures c.link-own.ensures (g.W.Write.contents (inner_of c.args.output.now))
      (g.W.Write.contents (inner_of c.write_all.new.output))
      (g.W.Write.contents (inner_of c.write_all-2.new.output))
      (g.W.Write.contents (inner_of c.write_all-3.new.output))
      c.in_ok-write_all.ensures.whole c.in_ok-write_all-2.ensures.whole c.in_ok-write_all-3.ensures.whole;
  failures_never_fall = search rules;
  failed = search rules;
}
