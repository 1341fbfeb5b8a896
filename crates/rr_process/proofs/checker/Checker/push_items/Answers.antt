use Rattle.std.proofs.Common.{◌≡◌, Some, None, List, ℕ, ◌+◌, ◌++◌, refl, sym, ap, ◌∙◌, append_assoc, rules}
use Rattle.std.proofs.Math.Facts.{to_z-of_z}
use Rattle.std.specs.Int.{w64}
use Rattle.rr_feed.specs.Items.{item_view}
use Rattle.rr_feed.specs.Feed.{HandsOut}
use Rattle.rr_feed.proofs.FedLemmas.{items_left-handed}
use Rattle.std.specs.Prelude.{if◌then◌else◌}
use Rattle.rr_process.specs.Report.{item_text, is_refused}
use Rattle.rr_process.specs.Writing.{written}
use Rattle.rr_process.proofs.ReportLemmas.{Reports-item}
use Rattle.rr_process.proofs.checker.Checker.push_items.Goals as goal

pub loop-item-preserved : goal.loop-item-preserved
loop-item-preserved c =
    let old = c.loop-item.self in
    let item = item_view c.in-Some.item in
    let hands : HandsOut old.feed (Some item) c.next_line.follows.lender-at-none =
    rw c.in-Some.is at c.next_line.follows.holds-at-none in
    let back = to_z-of_z {w = w64} {z = old.now} (search rules) in
    let so_far = c.loop-item.invariant.reported in
    let text = item_text old.precision old.now (old.lines + 1) item in
    let pushed : written c.push_item.new.report ≡ written c.loop-item.report ++ text =
    rw back at c.in_ok-refused.ensures.pushed in
    let byte : c.from.result ≡ (if is_refused old.precision item then 1 else 0) =
    rw (← c.in_ok-refused.ensures.refused) (search rules) in
    record {
      between = c.in_ok-refused.ensures.between;
      reported = (
        so_far.0 ++ text,
        pushed ∙ ap (λ (t : List ℕ). t ++ text) so_far.1 ∙ append_assoc (written c.args.report.now) so_far.0 text,
        Reports-item c.args.self.now old _ so_far.0 item
            (record {
              hands = hands;
              lines = refl;
              refused = ap (λ (n : ℕ). old.refused + n) byte;
              precision = refl;
              now =
                  refl;
              pieces = refl;
            }) so_far.2,
      );
    }

pub returns-clause-all_taken : goal.returns-clause-all_taken
returns-clause-all_taken c =
    let hands : HandsOut c.loop-item.self.feed None c.next_line.follows.lender-at-none =
    rw c.in_default.is at c.next_line.follows.holds-at-none in
    sym (items_left-handed None _ _ hands) ∙ hands.none refl
