use Rattle.std.proofs.Common.{rules, refl}
use Rattle.rr_gossip.specs.declared.fault.GossipFault.TheVariants.{WriteFailed}
use Rattle.rr_gossip.specs.Puller.{puller_takes}
use Rattle.rr_gossip.proofs.ReadLemmas.{stops_unwritten}
use Rattle.rr_gossip.proofs.StepLemmas.{puller_fault}
use Rattle.rr_gossip.proofs.pulling.pull_within.Goals as goal

pub returns : goal.returns
returns g c = record {
  session = record {
    sent = search rules;
    few = search rules;
    prefix = search rules;
    flushed = search rules;
    pulled = search rules;
    stopped = search rules;
    blame = record {
      ended = search rules;
      read_failed = search rules;
      write_failed =
          λ e.
          let s = g.T.Target.layout c.args.target.now in
          let stopped = (rw e at c.take_pages.ensures.stopped).2 in
          absurd (stops_unwritten (puller_takes s stopped.last) stopped.piece WriteFailed
          (λ content. puller_fault s stopped.last content WriteFailed) stopped.stopped refl);
      read_count = search rules;
      write_count = search rules;
    };
  };
}
