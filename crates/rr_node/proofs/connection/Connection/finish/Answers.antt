use Rattle.std.proofs.Common.{◌≡◌, [], ◌++◌, refl, sym, ap, subst, ◌∙◌, rules}
use Rattle.std.proofs.lemmas.List.{append-nil}
use Rattle.std.proofs.lemmas.Result.{err_from_is_err_and}
use Rattle.std.proofs.KnownBytes.{Appends-trans}
use Rattle.rr_io.specs.Counted.{inner_of}
use Rattle.rr_desk.specs.KeeperState.{KeeperState}
use Rattle.rr_feed.specs.Feed.{FeedState}
use Rattle.rr_node.specs.declared.rules.Rules.{Rules}
use Rattle.rr_node.specs.Connection.{ComesAfter, IsWhole, Stops}
use Rattle.rr_node.proofs.ConnectionLemmas.{HasServed-end}
use Rattle.rr_node.proofs.StreamLemmas.{IsDone, comes_at_end, stops_answering, stops_of, stops_reporting, whole_of}
use Rattle.rr_node.proofs.connection.Connection.finish.Goals as goal

pub returns-in_err-answer_lines : goal.returns-in_err-answer_lines
returns-in_err-answer_lines g c = record {
  served = search rules;
  stopped =
      let given = err_from_is_err_and c.from_residual.result c.from_residual.ensures.1 in
      let stopped = c.in_err-answer_lines.ensures.stopped in
      rw given.1 (
        stopped.0,
        stopped.1,
        λ start pushed parsed text first has appends.
            let last = HasServed-end c.args.self.now _ start c.args.keeper.now pushed text parsed c.end.ensures
            (record { lines = refl; report = refl; rules = refl }) has in
            stops_of _ c.args.self.now.rules start _ (ComesAfter c.end.new.self pushed) (λ bytes. bytes ≡ pushed)
            (parsed ++ stopped.0) first _ refl (comes_at_end c.end.new.self pushed)
            (stopped.2 start pushed parsed text first last appends),
      );
  renewed = search rules;
  flushed = search rules;
  writes = search rules;
}

pub returns-in_err-publish : goal.returns-in_err-publish
returns-in_err-publish g c = record {
  served = search rules;
  stopped =
      let given = err_from_is_err_and c.from_residual-in_err-publish.result c.from_residual-in_err-publish.ensures.1 in
      let served = c.in_ok-answer_lines.ensures.served in
      let since = g.W.Write.contents (inner_of c.answer_lines.new.output) in
      rw given.1 (
        served.0,
        served.2,
        λ start pushed parsed text first has appends.
            let last = HasServed-end c.args.self.now _ start c.args.keeper.now pushed text parsed c.end.ensures
            (record { lines = refl; report = refl; rules = refl }) has in
            let stops = stops_answering _ c.answer_lines.new.self start c.args.keeper.now c.answer_lines.new.keeper
            pushed
            text served.1 parsed served.0 first _ since served.4.items last appends
            (served.1, [], sym (append-nil served.1), served.3) in
            subst (λ (k : KeeperState). Stops c.args.self.now.rules start k (λ bytes. bytes ≡ pushed)
            (parsed ++ served.0)
            first since) (sym c.in_err-publish.ensures.state.unchanged)
            (stops_of _ c.args.self.now.rules start c.answer_lines.new.keeper (ComesAfter c.end.new.self pushed)
            (λ bytes. bytes ≡ pushed) (parsed ++ served.0) first since refl (comes_at_end c.end.new.self pushed) stops),
      );
  renewed = search rules;
  flushed = search rules;
  writes = search rules;
}

pub returns-in_err-send_report : goal.returns-in_err-send_report
returns-in_err-send_report g c = record {
  served = search rules;
  stopped =
      let given = err_from_is_err_and c.from_residual-in_err-send_report.result
      c.from_residual-in_err-send_report.ensures.1 in
      let served = c.in_ok-answer_lines.ensures.served in
      let new = c.answer_lines.new.self in
      let ended = served.4.items.ended ∙ ap (λ (s : FeedState). s.ended) c.end.ensures in
      rw given.1 (
        served.0,
        served.2,
        λ start pushed parsed text first has appends.
            let last = HasServed-end c.args.self.now _ start c.args.keeper.now pushed text parsed c.end.ensures
            (record { lines = refl; report = refl; rules = refl }) has in
            let done : IsDone new start c.answer_lines.new.keeper pushed (parsed ++ served.0) (text ++ served.1) =
            record {
              has = served.4.items.served start pushed parsed text last;
              nothing =
                  served.4.all_taken;
              ended = ended;
            } in
            stops_of new.rules c.args.self.now.rules start c.publish.new.self (λ bytes. bytes ≡ pushed)
            (λ bytes. bytes ≡ pushed) (parsed ++ served.0) first _ served.4.items.rules (λ bytes e. e)
            (stops_reporting new start c.answer_lines.new.keeper c.publish.new.self pushed (text ++ served.1)
            (parsed ++ served.0) first _ _ done c.in_ok-publish.ensures.state.made
            (Appends-trans _ _ _ text served.1 appends served.3) c.in_err-send_report.ensures.sends.prefix),
      );
  renewed = search rules;
  flushed = search rules;
  writes = search rules;
}

pub returns : goal.returns
returns g c = record {
  served =
      let served = c.in_ok-answer_lines.ensures.served in
      let new = c.answer_lines.new.self in
      let ended = served.4.items.ended ∙ ap (λ (s : FeedState). s.ended) c.end.ensures in (
        served.0,
        served.2,
        λ start pushed parsed text first has appends.
            let last = HasServed-end c.args.self.now _ start c.args.keeper.now pushed text parsed c.end.ensures
            (record { lines = refl; report = refl; rules = refl }) has in
            let done : IsDone new start c.answer_lines.new.keeper pushed (parsed ++ served.0) (text ++ served.1) =
            record {
              has = served.4.items.served start pushed parsed text last;
              nothing =
                  served.4.all_taken;
              ended = ended;
            } in
            subst (λ (r : Rules). IsWhole r start c.publish.new.self new.report pushed (parsed ++ served.0) first
            (g.W.Write.contents (inner_of c.send_report.new.output))) served.4.items.rules
            (whole_of new start c.answer_lines.new.keeper c.publish.new.self pushed (text ++ served.1)
            (parsed ++ served.0)
            new.report first _ _ done c.in_ok-publish.ensures.state.made refl
            (Appends-trans _ _ _ text served.1 appends served.3) c.in_ok-send_report.ensures.sends.whole),
      );
  stopped = search rules;
  renewed = search rules;
  flushed = search rules;
  writes = search rules;
}
