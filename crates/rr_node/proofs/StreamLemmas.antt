-- Lines that are served while their stream is read.
use Rattle.std.proofs.Common.{◌≡◌, ℕ, ℤ, true, List, [], ◌++◌, Option, refl, sym, ap, subst, ◌∙◌, append_assoc, inl, inr}
use Rattle.std.proofs.lemmas.List.{append-nil}
use Rattle.std.specs.Prelude.{count_by}
use Rattle.std.specs.Io.KnownBytes.{Appends}
use Rattle.std.proofs.KnownBytes.{Appends-trans}
use Rattle.rr_io.specs.Stream.{AppendsPrefix}
use Rattle.rr_io.proofs.StreamLemmas.{prefix_after, prefix_before}
use Rattle.rr_feed.specs.Feed.{FeedState, items_left}
use Rattle.rr_feed.specs.Items.{items}
use Rattle.rr_feed.proofs.FedLemmas.{IsFed-all}
use Rattle.rr_desk.specs.KeeperState.{KeeperState, with_all_published}
use Rattle.rr_node.specs.declared.connection.Connection.{Connection}
use Rattle.rr_node.specs.declared.report.Report.{Report}
use Rattle.rr_node.specs.declared.rules.Rules.{Rules}
use Rattle.rr_node.specs.Connection.{ComesAfter, StoppedByMemory, HasServed, IsWhole, ServedItems, served_so_far, Stops}
use Rattle.rr_node.specs.Lines.{Served, after, answer_of, asks_clock, report_text}
use Rattle.rr_node.proofs.ConnectionLemmas.{answer_prefix, answers_prefix, comes_too, ends_here, ends_of, served_all}

-- a writer that has the answers so far has a prefix of the whole answer
pub answered_so_far : (c : Connection) (start k : KeeperState) (pushed text : List ℕ) (given moments later : List ℤ)
    (bytes : List ℕ) (first written : Option (List ℕ)) → HasServed c start pushed given k text
    → ComesAfter c.feed pushed bytes → Appends first written text
    → AppendsPrefix first written (answer_of (after c.rules start ((given ++ moments) ++ later) (items true bytes)))
answered_so_far c start k pushed text given moments later bytes first written has comes appends =
    let prefix = answer_prefix c start k pushed text given (moments ++ later) bytes has comes in (
      text,
      prefix.0,
      ap (λ (m : List ℤ). answer_of (after c.rules start m (items true bytes)))
          (append_assoc given moments later) ∙ prefix.1,
      appends,
    )

-- so does one that has a prefix of these answers
pub answered_in_part : (c : Connection) (start k : KeeperState) (pushed text : List ℕ) (given later : List ℤ)
    (bytes : List ℕ) (first since : Option (List ℕ)) → HasServed c start pushed given k text
    → ComesAfter c.feed pushed bytes → AppendsPrefix first since text
    → AppendsPrefix first since (answer_of (after c.rules start (given ++ later) (items true bytes)))
answered_in_part c start k pushed text given later bytes first since has comes part =
    let prefix = answer_prefix c start k pushed text given later bytes has comes in
    subst (AppendsPrefix first since) (sym prefix.1) (prefix_before first since text prefix.0 part)

-- so it has of the answers alone
pub answers_so_far : (c : Connection) (start k : KeeperState) (pushed text : List ℕ) (given moments later : List ℤ)
    (bytes : List ℕ) (first written : Option (List ℕ)) → HasServed c start pushed given k text
    → ComesAfter c.feed pushed bytes → Appends first written text
    → AppendsPrefix first written (after c.rules start ((given ++ moments) ++ later) (items true bytes)).answers
answers_so_far c start k pushed text given moments later bytes first written has comes appends =
    let prefix = answers_prefix c start k pushed text given (moments ++ later) bytes has comes in (
      text,
      prefix.0,
      ap (λ (m : List ℤ). (after c.rules start m (items true bytes)).answers)
          (append_assoc given moments later) ∙ prefix.1,
      appends,
    )

pub answers_in_part : (c : Connection) (start k : KeeperState) (pushed text : List ℕ) (given later : List ℤ)
    (bytes : List ℕ) (first since : Option (List ℕ)) → HasServed c start pushed given k text
    → ComesAfter c.feed pushed bytes → AppendsPrefix first since text
    → AppendsPrefix first since (after c.rules start (given ++ later) (items true bytes)).answers
answers_in_part c start k pushed text given later bytes first since has comes part =
    let prefix = answers_prefix c start k pushed text given later bytes has comes in
    subst (AppendsPrefix first since) (sym prefix.1) (prefix_before first since text prefix.0 part)

-- memory ran out while lines were served, and nothing more was written
pub stops_serving : (c : Connection) (start k now : KeeperState) (pushed text : List ℕ) (given moments : List ℤ)
    (first written : Option (List ℕ)) → StoppedByMemory c k now moments → HasServed c start pushed given k text
    → Appends first written text
    → Stops c.rules start now (ComesAfter c.feed pushed) (given ++ moments) first written
stops_serving c start k now pushed text given moments first written ends has appends = record {
  ends = ends start pushed given text has;
  answered = λ bytes comes later. answered_so_far c start k pushed text given moments later bytes first written has
      comes appends;
  reported = inr (λ bytes comes later. answers_so_far c start k pushed text given moments later bytes first written has
      comes appends);
}

-- lines were served, and a prefix of the answers to them was written
pub stops_answering : (old new : Connection) (start k now : KeeperState) (pushed text more : List ℕ)
    (given moments : List ℤ) (first written since : Option (List ℕ)) → ServedItems old new k now moments more
    → HasServed old start pushed given k text → Appends first written text → AppendsPrefix written since more
    → Stops old.rules start now (ComesAfter old.feed pushed) (given ++ moments) first since
stops_answering old new start k now pushed text more given moments first written since serves has appends part =
    let served = serves.served start pushed given text has in
    let comes : (bytes : List ℕ) → ComesAfter old.feed pushed bytes
    → ComesAfter new.feed pushed bytes = λ bytes. comes_too old.feed new.feed pushed bytes serves.ended in
    record {
      ends = ends_of new.rules old.rules start now (ComesAfter new.feed pushed) (ComesAfter old.feed pushed)
          (given ++ moments) (given ++ moments) serves.rules refl comes
          (ends_here new start now pushed (text ++ more) (given ++ moments) served);
      answered = λ bytes coming later. subst (λ (r : Rules). AppendsPrefix first since
          (answer_of (after r start ((given ++ moments) ++ later) (items true bytes)))) serves.rules
          (answered_in_part new start now pushed (text ++ more) (given ++ moments) later bytes first since served
          (comes bytes coming) (prefix_after first written since text more appends part));
      reported = inr (λ bytes coming later. subst (λ (r : Rules). AppendsPrefix first since
          (after r start ((given ++ moments) ++ later) (items true bytes)).answers) serves.rules
          (answers_in_part new start now pushed (text ++ more) (given ++ moments) later bytes first since served
          (comes bytes coming) (prefix_after first written since text more appends part)));
    }

-- the same, of fewer inputs and of rules that are the same
stops_fewer : (rules : Rules) (start now : KeeperState) (Comes Fewer : List ℕ → Type 0) (moments : List ℤ)
    (first since : Option (List ℕ)) → ((bytes : List ℕ) → Fewer bytes → Comes bytes)
    → Stops rules start now Comes moments first since → Stops rules start now Fewer moments first since
stops_fewer rules start now Comes Fewer moments first since fewer stops = record {
  ends = record {
    lines = stops.ends.lines;
    last = stops.ends.last;
    count = stops.ends.count;
    input = λ bytes comes. stops.ends.input bytes (fewer bytes comes);
    asked = stops.ends.asked;
    keeper = elim (stops.ends.keeper) [
      | inl part ↦ inl part
      | inr all ↦
          inr (all.0, λ bytes comes. all.1 bytes (fewer bytes comes), all.2)
    ];
  };
  answered = λ bytes comes later. stops.answered bytes (fewer bytes comes) later;
  reported = elim (stops.reported) [
    | inl all ↦ inl all
    | inr part ↦
        inr (λ bytes comes later. part bytes (fewer bytes comes) later)
  ];
}

pub stops_of : (rules same : Rules) (start now : KeeperState) (Comes Fewer : List ℕ → Type 0) (moments : List ℤ)
    (first since : Option (List ℕ)) → rules ≡ same → ((bytes : List ℕ) → Fewer bytes → Comes bytes)
    → Stops rules start now Comes moments first since → Stops same start now Fewer moments first since
stops_of rules same start now Comes Fewer moments first since by_rules fewer stops =
    subst (λ (r : Rules). Stops r start now Fewer moments first since) by_rules
    (stops_fewer rules start now Comes Fewer moments first since fewer stops)

-- at the end of the input what was pushed is all of it
pub comes_at_end : (feed : FeedState) (pushed bytes : List ℕ) → bytes ≡ pushed → ComesAfter feed pushed bytes
comes_at_end feed pushed bytes e = ([], e ∙ sym (append-nil pushed), λ ended. (refl, refl))

-- all lines are served, and all is published
pub record IsDone (c : Connection) (start k : KeeperState) (pushed : List ℕ) (given : List ℤ) (text : List ℕ)
    : Type 0 where
  pub has : HasServed c start pushed given k text
  pub nothing : items_left c.feed ≡ []
  pub ended : c.feed.ended ≡ true

-- whatever the clock gives later
done_later : (c : Connection) (start k : KeeperState) (pushed text : List ℕ) (given later : List ℤ)
    → IsDone c start k pushed given text → after c.rules start (given ++ later) (items true pushed)
    ≡ served_so_far c k text later
done_later c start k pushed text given later done =
    let all : done.has.handed ≡ items true pushed = IsFed-all pushed done.has.handed c.feed done.nothing done.has.fed
    ∙ ap (λ b. items b pushed) done.ended in
    ap (after c.rules start (given ++ later)) (sym all) ∙ done.has.served later

-- then only the report is left to write
pub stops_reporting : (c : Connection) (start k now : KeeperState) (pushed text : List ℕ) (given : List ℤ)
    (first written since : Option (List ℕ)) → IsDone c start k pushed given text → now ≡ with_all_published k
    → Appends first written text → AppendsPrefix written since (report_text c.report)
    → Stops c.rules start now (λ bytes. bytes ≡ pushed) given first since
stops_reporting c start k now pushed text given first written since done published appends part =
    let all = served_all c start k pushed text given true done.nothing done.ended done.has in
    record {
      ends = record {
        lines = items true pushed;
        last = [];
        count = 0;
        input = λ bytes e. (
          [],
          append-nil (items true pushed ++ []) ∙ append-nil (items true pushed)
              ∙ ap (items true) (sym e),
        );
        asked = all.0 ∙ ap (count_by (asks_clock c.rules)) (sym (append-nil (items true pushed)));
        keeper = inr (
          refl,
          λ bytes e. ap (items true) (sym e),
          published
              ∙ ap (λ (s : Served). with_all_published s.keeper) (sym all.1),
        );
      };
      answered = λ bytes e later.
          let whole : answer_of (after c.rules start (given ++ later) (items true bytes)) ≡ text
          ++ report_text c.report =
          ap (λ (b : List ℕ). answer_of (after c.rules start (given ++ later) (items true b))) e
          ∙ ap answer_of (done_later c start k pushed text given later done) in
          subst (AppendsPrefix first since) (sym whole)
          (prefix_after first written since text (report_text c.report) appends part);
      reported = inl (refl, published ∙ ap (λ (s : Served). with_all_published s.keeper) (sym all.1));
    }

-- once it is written all is answered
pub whole_of : (c : Connection) (start k now : KeeperState) (pushed text : List ℕ) (given : List ℤ) (counted : Report)
    (first written since : Option (List ℕ)) → IsDone c start k pushed given text → now ≡ with_all_published k
    → counted ≡ c.report → Appends first written text → Appends written since (report_text c.report)
    → IsWhole c.rules start now counted pushed given first since
whole_of c start k now pushed text given counted first written since done published same appends reported =
    let all = served_all c start k pushed text given true done.nothing done.ended done.has in
    record {
      asked = all.0;
      keeper = published ∙ ap (λ (s : Served). with_all_published s.keeper) (sym all.1);
      report = same ∙ ap (λ (s : Served). s.report) (sym all.1);
      answered = subst (Appends first since) (ap answer_of (sym all.1))
          (Appends-trans first written since text (report_text c.report) appends reported);
    }
