use Rattle.std.proofs.Common.{[], refl, ap, ◌∙◌, rules}
use Rattle.std.proofs.lemmas.List.{append-nil}
use Rattle.std.proofs.KnownBytes.{Appends-kept}
use Rattle.rr_io.proofs.StreamLemmas.{prefix_kept}
use Rattle.rr_feed.specs.Feed.{FeedState}
use Rattle.rr_process.proofs.ReportLemmas.{HasReported-all, HasReported-end}
use Rattle.rr_process.proofs.StreamLemmas.{report_of_all}
use Rattle.rr_process.proofs.checker.Checker.finish.Goals as goal

pub returns-in_err-write_items : goal.returns-in_err-write_items
returns-in_err-write_items g c = record {
  reported = search rules;
  refused = search rules;
  prefix = λ pushed before start has appends.
      let last = HasReported-end c.args.self.now _ pushed before c.end.ensures
      (record { lines = refl; refused = refl; precision = refl; now = refl }) has in
      rw append-nil at (c.in_err-write_items.ensures.prefix pushed before [] start last appends (λ e. (refl, refl)));
  flushed = search rules;
  writes = search rules;
}

pub returns-in_err-flush : goal.returns-in_err-flush
returns-in_err-flush g c = record {
  reported = search rules;
  refused = search rules;
  prefix = λ pushed before start has appends.
      let last = HasReported-end c.args.self.now _ pushed before c.end.ensures
      (record { lines = refl; refused = refl; precision = refl; now = refl }) has in
      let part = rw append-nil at (c.in_ok-write_items.ensures.prefix pushed before [] start last appends
      (λ e. (refl, refl))) in
      prefix_kept start _ _ _ part c.in_err-flush.ensures.bytes;
  flushed = search rules;
  writes = search rules;
}

pub returns : goal.returns
returns g c =
    let all = c.in_ok-write_items.ensures.reported in
    let ended = all.1.reports.ended ∙ ap (λ (s : FeedState). s.ended) c.end.ensures in
    record {
      reported = λ pushed before start has appends.
          let last = HasReported-end c.args.self.now _ pushed before c.end.ensures
          (record { lines = refl; refused = refl; precision = refl; now = refl }) has in
          Appends-kept start _ _ _ (report_of_all _ _ pushed before all.0 start _ _ all.1.reports all.1.all_taken ended
          last appends all.2) c.in_ok-flush.ensures.bytes;
      refused = λ pushed before has.
          let last = HasReported-end c.args.self.now _ pushed before c.end.ensures
          (record { lines = refl; refused = refl; precision = refl; now = refl }) has in
          rw all.1.reports.precision at (HasReported-all c.write_items.new.self pushed _ all.1.all_taken ended
          (all.1.reports.reported pushed before last)).1;
      prefix = λ pushed before start has appends.
          let last = HasReported-end c.args.self.now _ pushed before c.end.ensures
          (record { lines = refl; refused = refl; precision = refl; now = refl }) has in
          let part = rw append-nil at (c.in_ok-write_items.ensures.prefix pushed before [] start last appends
          (λ e. (refl, refl))) in
          prefix_kept start _ _ _ part c.in_ok-flush.ensures.bytes;
      flushed = search rules;
      writes = search rules;
    }
