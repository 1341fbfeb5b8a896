use Rattle.std.proofs.Common.{ℕ, ◌+◌, Some, None, List, [], ◌∷◌, ◌++◌, refl, sym, ap, ◌∙◌, append_assoc, append-nil, rules}
use Rattle.std.proofs.lemmas.Result.{err_from_is_err_and}
use Rattle.rr_feed.specs.Items.{item_view}
use Rattle.rr_feed.specs.Feed.{HandsOut}
use Rattle.rr_feed.proofs.FedLemmas.{items_left-handed}
use Rattle.rr_node.specs.Connection.{text_to}
use Rattle.rr_host.proofs.ClockLemmas.{HasGiven-nil, HasGiven-trans}
use Rattle.rr_node.proofs.ConnectionLemmas.{ServedItems-nothing, ServedItems-item, ServedItems-none, StoppedByMemory-taking, StoppedByMemory-after, taken_whole}
use Rattle.rr_node.proofs.AmongLemmas.{ServesAmong-item, ServesAmong-none, ServesAmong-nothing}
use Rattle.rr_node.proofs.connection.Connection.write_lines.Goals as goal

pub loop-item-init : goal.loop-item-init
loop-item-init g c = record {
  served = (
    [],
    [],
    HasGiven-nil _,
    sym (append-nil c.args.answers.now.items),
    ServedItems-nothing c.args.self.now c.args.keeper.now,
  );
  among = (
    [],
    [],
    [],
    HasGiven-nil _,
    sym (append-nil c.args.answers.now.items),
    ServesAmong-nothing c.args.self.now c.args.keeper.now,
  );
  renewals = refl;
}

pub returns-in_err-answer-clause-ended : goal.returns-in_err-answer-clause-ended
returns-in_err-answer-clause-ended g c =
    let given = err_from_is_err_and c.from_residual.result c.from_residual.ensures.1 in
    let old = c.loop-item.self in
    let item = item_view c.in-Some.item in
    let hands : HandsOut old.feed (Some item) c.next_line.follows.lender-at-none =
    rw c.in-Some.is at c.next_line.follows.holds-at-none in
    let so_far = c.loop-item.invariant.served in
    let takes = c.in_err-answer.ensures.handled in
    rw given.1 (
      so_far.0 ++ takes.asked,
      HasGiven-trans _ _ _ so_far.0 takes.asked so_far.2 takes.gave,
      StoppedByMemory-taking c.args.self.now old _ c.args.keeper.now c.loop-item.keeper _ so_far.0 takes.asked so_far.1
          item _
          so_far.4 hands takes.taken,
    )

pub returns-in_err-count-clause-ended : goal.returns-in_err-count-clause-ended
returns-in_err-count-clause-ended g c =
    let given = err_from_is_err_and c.from_residual-in_err-count.result c.from_residual-in_err-count.ensures.1 in
    let old = c.loop-item.self in
    let item = item_view c.in-Some.item in
    let hands : HandsOut old.feed (Some item) c.next_line.follows.lender-at-none =
    rw c.in-Some.is at c.next_line.follows.holds-at-none in
    let so_far = c.loop-item.invariant.served in
    let takes = c.in_ok-answer.ensures.handled in
    let whole = taken_whole old.rules item takes.asked c.loop-item.keeper _ _ takes.taken in
    rw given.1 (
      so_far.0 ++ takes.asked,
      HasGiven-trans _ _ _ so_far.0 takes.asked so_far.2 takes.gave,
      StoppedByMemory-after c.args.self.now old _ c.args.keeper.now c.loop-item.keeper _ so_far.0 takes.asked so_far.1
          item
          so_far.4 hands whole.0 whole.1,
    )

pub returns-in_err-publish_in_turn-clause-ended : goal.returns-in_err-publish_in_turn-clause-ended
returns-in_err-publish_in_turn-clause-ended g c =
    let given = err_from_is_err_and c.from_residual-in_err-publish_in_turn.result
    c.from_residual-in_err-publish_in_turn.ensures.1 in
    let old = c.loop-item.self in
    let item = item_view c.in-Some.item in
    let hands : HandsOut old.feed (Some item) c.next_line.follows.lender-at-none =
    rw c.in-Some.is at c.next_line.follows.holds-at-none in
    let so_far = c.loop-item.invariant.served in
    let takes = c.in_ok-answer.ensures.handled in
    let whole = taken_whole old.rules item takes.asked c.loop-item.keeper _ _ takes.taken in
    rw given.1 (
      so_far.0 ++ takes.asked,
      HasGiven-trans _ _ _ so_far.0 takes.asked so_far.2 takes.gave,
      StoppedByMemory-after c.args.self.now old _ c.args.keeper.now c.loop-item.keeper _ so_far.0 takes.asked so_far.1
          item
          so_far.4 hands whole.0 (c.in_err-publish_in_turn.ensures.unchanged ∙ whole.1),
    )

pub loop-item-preserved : goal.loop-item-preserved
loop-item-preserved g c =
    let old = c.loop-item.self in
    let item = item_view c.in-Some.item in
    let hands : HandsOut old.feed (Some item) c.next_line.follows.lender-at-none =
    rw c.in-Some.is at c.next_line.follows.holds-at-none in
    let so_far = c.loop-item.invariant.served in
    let takes = c.in_ok-answer.ensures.handled in
    let answer = c.in_ok-answer.answer in
    let whole = taken_whole old.rules item takes.asked c.loop-item.keeper _ answer takes.taken in
    let counted = c.in_ok-count.ensures in
    let lines = counted.lines in
    let text = text_to (old.lines + 1) answer in
    record {
      served = (
        so_far.0 ++ takes.asked,
        so_far.1 ++ text,
        HasGiven-trans _ _ _ so_far.0 takes.asked so_far.2 takes.gave,
        counted.answered ∙ ap (λ (t : List ℕ). t ++ text) so_far.3
            ∙ append_assoc c.args.answers.now.items so_far.1 text,
        ServedItems-item c.args.self.now old c.count.new.self c.args.keeper.now c.loop-item.keeper _ so_far.0
            takes.asked
            so_far.1 item answer (record {
              hands = rw counted.feed hands;
              few = whole.0;
              keeper = rw (lines, whole.1) at c.in_ok-publish_in_turn.ensures.published;
              reported = whole.2;
              lines = lines;
              report = counted.report;
              rules = counted.rules;
              pieces = counted.pieces;
            }) so_far.4,
      );
      among =
          let others = c.loop-item.invariant.among in (
            others.0 ++ item ∷ [],
            others.1 ++ takes.asked,
            others.2 ++ text,
            HasGiven-trans _ _ _ others.1 takes.asked others.3 takes.gave,
            counted.answered ∙ ap (λ (t : List ℕ). t ++ text) others.4
                ∙ append_assoc c.args.answers.now.items others.2 text,
            ServesAmong-item c.args.self.now old c.count.new.self c.args.keeper.now c.loop-item.keeper _ others.0
                others.1 takes.asked others.2 item answer (record {
                  hands = rw counted.feed hands;
                  few = whole.0;
                  keeper = rw (lines, whole.1) at c.in_ok-publish_in_turn.ensures.published;
                  reported = whole.2;
                  lines = lines;
                  report = counted.report;
                  rules = counted.rules;
                  pieces = counted.pieces;
                }) others.5,
          );
      renewals = search rules;
    }

pub returns-clause-served : goal.returns-clause-served
returns-clause-served g c =
    let hands : HandsOut c.loop-item.self.feed None c.next_line.follows.lender-at-none =
    rw c.in_default.is at c.next_line.follows.holds-at-none in
    let so_far = c.loop-item.invariant.served in (
      so_far.0,
      so_far.1,
      so_far.2,
      so_far.3,
      record {
        items = ServedItems-none c.args.self.now c.loop-item.self _ c.args.keeper.now
            c.loop-item.keeper so_far.0 so_far.1 hands (record { lines = refl; report = refl; rules = refl }) refl
            so_far.4;
        all_taken = sym (items_left-handed None _ _ hands) ∙ hands.none refl;
      },
    )

pub returns-clause-among : goal.returns-clause-among
returns-clause-among g c =
    let hands : HandsOut c.loop-item.self.feed None c.next_line.follows.lender-at-none =
    rw c.in_default.is at c.next_line.follows.holds-at-none in
    let others = c.loop-item.invariant.among in (
      others.0,
      others.1,
      others.2,
      others.3,
      others.4,
      record {
        items = ServesAmong-none c.args.self.now c.loop-item.self _ c.args.keeper.now c.loop-item.keeper others.0
            others.1 others.2 hands (record { lines = refl; report = refl; rules = refl }) others.5;
        all_taken = sym (items_left-handed None _ _ hands) ∙ hands.none refl;
        ended = hands.ended ∙ c.loop-item.invariant.served.4.ended;
      },
    )
