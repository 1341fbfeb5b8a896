-- Lines of a connection, served among the writes of others.
use Rattle.std.proofs.Common.{◌≡◌, ℕ, ◌+◌, ℤ, true, List, [], ◌∷◌, ◌++◌, length, Some, None, refl, sym, ap, subst, ◌∙◌, arith, append_assoc, length-append}
use Rattle.std.specs.Prelude.{count_by, fold, if◌then◌else◌}
use Rattle.std.proofs.lemmas.List.{append-nil}
use Rattle.std.proofs.lemmas.List.Sums.{fold-append, sum_by-append}
use Rattle.rr_desk.specs.KeeperState.{KeeperState, own_replica}
use Rattle.rr_feed.specs.Items.{Item, items}
use Rattle.rr_feed.specs.Feed.{FeedState, state, HandsOut}
use Rattle.rr_feed.specs.Laws.{IsFed}
use Rattle.rr_feed.proofs.FedLemmas.{IsFed-new, IsFed-push, IsFed-next_line, IsFed-end, IsFed-all}
use Rattle.rr_node.specs.declared.answer.Answer.{Answer}
use Rattle.rr_node.specs.declared.connection.Connection.{Connection}
use Rattle.rr_node.specs.declared.line_stream.LineStream.{LineStream}
use Rattle.rr_node.specs.declared.rules.Rules.{Rules}
use Rattle.rr_node.specs.Connection.{ConnectionTakesPiece, IsNew, ServesAllAmong, ServesAmong, served_so_far, text_to}
use Rattle.rr_node.specs.Lines.{Served, answer_to, asks_clock, first_of, verdict_of, with_item, with_verdict}
use Rattle.rr_node.specs.LineStream.{EndsAmong, IsFresh, TakesAmong, rules_by, stands}
use Rattle.rr_node.proofs.ConnectionLemmas.{Counts, SameButFeed, asked_more, item_served, report_of_answer, text_of_answer}

-- ---- items of a connection

pub ServesAmong-nothing : (c : Connection) (k : KeeperState) → ServesAmong c c k k [] [] []
ServesAmong-nothing c k = record {
  fed = λ pushed earlier fed. subst (λ (l : List Item). IsFed pushed l c.feed) (sym (append-nil earlier)) fed;
  asked = refl;
  served = λ later. refl;
  rules = refl;
}

pub ServesAmong-item : (first old new : Connection) (k0 k now : KeeperState) (handed : List Item)
    (given asked : List ℤ) (text : List ℕ) (item : Item) (answer : Answer) → Counts old new k now item asked answer
    → ServesAmong first old k0 k handed given text
    → ServesAmong first new k0 now (handed ++ item ∷ []) (given ++ asked) (text ++ text_to (old.lines + 1) answer)
ServesAmong-item first old new k0 k now handed given asked text item answer counts so_far =
    let v = verdict_of old.rules (first_of asked) (own_replica k) item in
    record {
      fed = λ pushed earlier fed. subst (λ (l : List Item). IsFed pushed l new.feed)
          (append_assoc earlier handed (item ∷ []))
          (IsFed-next_line pushed (earlier ++ handed) (Some item) old.feed new.feed counts.hands
          (so_far.fed pushed earlier fed));
      asked = rw counts.rules (asked_more old.rules handed item given asked so_far.asked counts.few);
      served = λ later.
          let s : Served = served_so_far old k text later in
          let base : Served = served_so_far first k0 [] ((given ++ asked) ++ later) in
          let prefix : fold (with_item old.rules) base handed ≡ served_so_far old k text (asked ++ later) =
          ap (λ (m : List ℤ). fold (with_item old.rules) (served_so_far first k0 [] m) handed)
          (append_assoc given asked later)
          ∙ so_far.served (asked ++ later) in
          let whole : fold (with_item old.rules) base (handed ++ item ∷ []) ≡ with_verdict s v later =
          fold-append (with_item old.rules) base handed (item ∷ [])
          ∙ ap (λ (x : Served). with_item old.rules x item) prefix
          ∙ item_served old.rules k old.lines text old.report item asked later (asks_clock old.rules item) refl
          counts.few in
          let answered = text_of_answer (old.lines + 1) v answer counts.reported in
          let reported = report_of_answer old.report v answer counts.reported in
          rw (counts.rules, counts.lines, counts.report, counts.keeper, answered, reported) whole;
      rules = counts.rules ∙ so_far.rules;
    }

-- nothing is handed out
pub ServesAmong-none : (first old new : Connection) (k0 k : KeeperState) (handed : List Item) (given : List ℤ)
    (text : List ℕ) → HandsOut old.feed None new.feed → SameButFeed old new
    → ServesAmong first old k0 k handed given text → ServesAmong first new k0 k handed given text
ServesAmong-none first old new k0 k handed given text hands same so_far = record {
  fed = λ pushed earlier fed. subst (λ (l : List Item). IsFed pushed l new.feed) (append-nil (earlier ++ handed))
      (IsFed-next_line pushed (earlier ++ handed) None old.feed new.feed hands (so_far.fed pushed earlier fed));
  asked = rw same.rules so_far.asked;
  served = λ later. rw (same.rules, same.lines, same.report) (so_far.served later);
  rules = same.rules ∙ so_far.rules;
}

-- ---- pieces of a stream

pub IsFresh-new : (rules : Rules) (c : Connection) → IsNew rules c → IsFresh (record { connection = c })
IsFresh-new rules c new = record {
  handed = record {
    fed = rw new.feed IsFed-new;
    whole = rw new.feed refl;
    going = ap (λ (f : FeedState). f.ended) new.feed;
  };
  lines = new.lines;
  report = new.report;
}

-- answers with others before them
abbrev with_answers : List ℕ → Served → Served
with_answers text s = record {
  keeper = s.keeper;
  moments = s.moments;
  lines = s.lines;
  answers = text ++ s.answers;
  report = s.report;
}

-- lines are served alike, whatever was answered before
answered_alike : (rules : Rules) (text : List ℕ) (s : Served) (handed : List Item)
    → fold (with_item rules) (with_answers text s) handed ≡ with_answers text (fold (with_item rules) s handed)
answered_alike rules text s [] = refl
answered_alike rules text s (item ∷ later) =
    let next : Served = with_item rules s item in
    let here = answer_to (s.lines + 1) (verdict_of rules (first_of s.moments) (own_replica s.keeper) item) in
    let step : with_item rules (with_answers text s) item ≡ with_answers text next =
    ap (λ (a : List ℕ). record {
      keeper = next.keeper;
      moments = next.moments;
      lines = next.lines;
      answers = a;
      report = next.report;
    }) (append_assoc text s.answers here) in
    ap (λ (x : Served). fold (with_item rules) x later) step ∙ answered_alike rules text next later

pub TakesAmong-nothing : (s : LineStream) (k : KeeperState) → TakesAmong s s k k [] [] [] []
TakesAmong-nothing s k = record {
  fed = λ came earlier has. rw (append-nil came, append-nil earlier) has;
  asked = refl;
  served = λ later. refl;
  rules = refl;
}

-- the moments of some lines, and those of more
asked_both : (rules : Rules) (first second : List Item) (given later : List ℤ)
    → length given ≡ count_by (asks_clock rules) first → length later ≡ count_by (asks_clock rules) second
    → length (given ++ later) ≡ count_by (asks_clock rules) (first ++ second)
asked_both rules first second given later one two =
    omega (
      arith,
      one,
      two,
      length-append given later,
      sum_by-append (λ x. if asks_clock rules x then 1 else 0) first second,
    )

-- the bytes of one call, and then those of the next
pub TakesAmong-trans : (a b c : LineStream) (k l m : KeeperState) (first second : List ℕ) (handed next : List Item)
    (moments later : List ℤ) (text more : List ℕ) → TakesAmong a b k l first handed moments text
    → TakesAmong b c l m second next later more
    → TakesAmong a c k m (first ++ second) (handed ++ next) (moments ++ later) (text ++ more)
TakesAmong-trans a b c k l m first second handed next moments later text more one two = record {
  fed = λ came earlier has. rw (sym (append_assoc came first second), sym (append_assoc earlier handed next))
      (two.fed (came ++ first) (earlier ++ handed) (one.fed came earlier has));
  asked = rw two.rules (asked_both (rules_by b) handed next moments later one.asked (rw two.rules at two.asked));
  served = λ after.
      let r : Rules = rules_by c in
      let first_served : fold (with_item r) (stands a k [] (moments ++ (later ++ after))) handed
      ≡ stands b l text (later ++ after) = rw two.rules (one.served (later ++ after)) in
      let before : Served = stands b l [] (later ++ after) in
      let from_text : stands b l text (later ++ after) ≡ with_answers text before =
      ap (λ (t : List ℕ). stands b l t (later ++ after)) (sym (append-nil text)) in
      ap (λ (t : List ℤ). fold (with_item r) (stands a k [] t) (handed ++ next)) (append_assoc moments later after)
      ∙ fold-append (with_item r) (stands a k [] (moments ++ (later ++ after))) handed next
      ∙ ap (λ (x : Served). fold (with_item r) x next) (first_served ∙ from_text)
      ∙ answered_alike r text before next
      ∙ ap (with_answers text) (two.served after);
  rules = two.rules ∙ one.rules;
}

-- a piece was pushed, and its lines were served
pub TakesAmong-piece : (old mid new : Connection) (k now : KeeperState) (piece : List ℕ) (handed : List Item)
    (moments : List ℤ) (text : List ℕ) → ConnectionTakesPiece old mid piece
    → ServesAllAmong mid new k now handed moments text
    → TakesAmong (record { connection = old }) (record { connection = new }) k now piece handed moments text
TakesAmong-piece old mid new k now piece handed moments text pushed served = record {
  fed = λ came earlier has. record {
    fed = served.items.fed (came ++ piece) earlier
        (rw pushed.feed (IsFed-push came piece earlier old.feed has.going has.fed));
    whole = served.all_taken;
    going = served.ended ∙ (ap (λ (f : FeedState). f.ended) pushed.feed ∙ has.going);
  };
  asked = served.items.asked;
  served = λ later. rw (pushed.lines, pushed.report) at (served.items.served later);
  rules = served.items.rules ∙ pushed.rules;
}

-- no more bytes come, and the lines that are left were served
pub EndsAmong-ended : (old mid new : Connection) (k now : KeeperState) (handed : List Item) (moments : List ℤ)
    (text : List ℕ) → mid.feed ≡ state old.feed.left old.feed.skipping true → SameButFeed old mid
    → ServesAllAmong mid new k now handed moments text
    → EndsAmong (record { connection = old }) k now handed moments text new.report
EndsAmong-ended old mid new k now handed moments text ended same served =
    let rules : new.rules ≡ old.rules = served.items.rules ∙ same.rules in
    let is_ended = served.ended ∙ ap (λ (f : FeedState). f.ended) ended in
    record {
      lines = new.lines;
      fed = λ came earlier has. IsFed-all came (earlier ++ handed) new.feed served.all_taken
          (served.items.fed came earlier (rw ended (IsFed-end came earlier old.feed has.fed)))
          ∙ ap (λ b. items b came) is_ended;
      asked = rw rules at served.items.asked;
      served = λ later. rw (rules, same.lines, same.report) at (served.items.served later);
    }
