use Rattle.std.proofs.Common.{rules, sym, ap, ◌∙◌}
use Rattle.std.proofs.lemmas.Result.{err_from_is_err_and}
use Rattle.rr_io.specs.Counted.{inner_of}
use Rattle.rr_gossip.specs.declared.fault.GossipFault.TheVariants.{WriteFailed}
use Rattle.rr_gossip.specs.declared.giver.Giver.{Giver}
use Rattle.rr_gossip.specs.Giver.{giver_takes}
use Rattle.rr_gossip.proofs.GivingLemmas.{failed_to_reply, gave}
use Rattle.rr_gossip.proofs.HeardLemmas.{giver_fault}
use Rattle.rr_gossip.proofs.ReadLemmas.{stops_unwritten}
use Rattle.rr_gossip.proofs.StepLemmas.{err_is}
use Rattle.rr_gossip.proofs.giving.give_within.Goals as goal

pub returns-in_err-take_names : goal.returns-in_err-take_names
returns-in_err-take_names g c = record {
  session = record {
    given = search rules;
    stopped = search rules;
    flushed = search rules;
    asked = search rules;
    blame = record {
      ended = search rules;
      read_failed = search rules;
      write_failed =
          λ e.
          let p = err_from_is_err_and c.from_residual.result c.from_residual.ensures.1 in
          let s = g.S.Source.layout c.args.source.now in
          let m = g.S.Source.cells c.take_names.new.source in
          let stopped = c.in_err-take_names.ensures.stopped in
          absurd (stops_unwritten (giver_takes m s stopped.last) stopped.piece c.in_err-take_names.field-0.0
          (λ content. giver_fault m s stopped.last content c.in_err-take_names.field-0.0) stopped.stopped
          (sym p.2 ∙ err_is {A = Unit {0}} p.0 WriteFailed (sym p.1 ∙ e)));
      read_count = search rules;
      write_count = search rules;
    };
  };
}

pub returns : goal.returns
returns g c = record {
  session = record {
    given =
        let heard = rw c.with_limit-giver.ensures at c.in_ok-take_names.ensures.heard in
        rw c.send_pages.ensures.unchanged
        (gave c.args.frames (g.S.Source.layout c.args.source.now) (g.S.Source.cells c.take_names.new.source)
        c.args.before.now (g.R.Read.remaining (inner_of c.args.input.now))
        (g.R.Read.remaining (inner_of c.take_names.new.input))
        (g.W.Write.contents (inner_of c.args.output.now)) (g.W.Write.contents (inner_of c.send_pages.new.output))
        c.take_names.new.giver heard c.send_pages.result
        (c.in_ok-take_names.ensures.limit ∙ ap (λ (x : Giver). x.limit) c.with_limit-giver.ensures)
        c.send_pages.ensures.sent.few c.send_pages.ensures.sent.whole);
    stopped =
        let heard = rw c.with_limit-giver.ensures at c.in_ok-take_names.ensures.heard in
        rw c.send_pages.ensures.unchanged
        (failed_to_reply c.args.frames (g.S.Source.layout c.args.source.now) (g.S.Source.cells c.take_names.new.source)
        c.args.before.now (g.R.Read.remaining (inner_of c.args.input.now))
        (g.R.Read.remaining (inner_of c.take_names.new.input))
        (g.W.Write.contents (inner_of c.args.output.now)) (g.W.Write.contents (inner_of c.send_pages.new.output))
        c.take_names.new.giver heard c.send_pages.result
        (c.in_ok-take_names.ensures.limit ∙ ap (λ (x : Giver). x.limit) c.with_limit-giver.ensures)
        c.send_pages.ensures.refused c.send_pages.ensures.sent.prefix);
    flushed = search rules;
    asked = search rules;
    blame = record {
      ended = search rules;
      read_failed = search rules;
      write_failed = search rules;
      read_count = search rules;
      write_count = search rules;
    };
  };
}
