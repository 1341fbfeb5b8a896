-- How far the lines of a connection are served, item by item.
use Rattle.std.proofs.Common.{◌≡◌, ℕ, ◌+◌, ℤ, pos, Bool, true, false, List, [], ◌∷◌, ◌++◌, length, Some, None, Ok, Err, refl, sym, ap, subst, ◌∙◌, arith, append_assoc, length-append, inl, inr}
use Rattle.std.specs.Prelude.{count_by, fold, if◌then◌else◌}
use Rattle.std.proofs.lemmas.List.{append-nil}
use Rattle.std.proofs.lemmas.List.Sums.{fold-append, sum_by-append}
use Rattle.std.specs.declared.alloc.AllocError.{AllocError}
use Rattle.rr_desk.specs.KeeperState.{KeeperState, own_replica}
use Rattle.rr_feed.specs.Items.{Item, items}
use Rattle.rr_feed.specs.Feed.{FeedState, state, items_left, with_more, HandsOut}
use Rattle.rr_feed.specs.Laws.{IsFed}
use Rattle.rr_feed.proofs.FedLemmas.{IsFed-push, IsFed-next_line, IsFed-end, IsFed-all}
use Rattle.rr_node.specs.declared.answer.Answer.{Answer}
use Rattle.rr_node.specs.declared.answer.Answer.TheVariants as says
use Rattle.rr_node.specs.declared.connection.Connection.{Connection}
use Rattle.rr_node.specs.declared.report.Report.{Report}
use Rattle.rr_node.specs.declared.rules.Rules.{Rules}
use Rattle.rr_node.specs.Connection.{IsAnswer, HandledAt, HasServed, ServedItems, ConnectionTakesPiece, counted_in, moments_asked, served_so_far, text_to, StoppedByMemory, EndsWithin, ComesAfter}
use Rattle.rr_node.specs.Lines.{Verdict, skipped, put, refused, Served, after, answer_of, answer_to, asks_clock, served_at_start, first_of, keeper_with, keeper_with_some, keeper_within, later_than_first, published_after, report_text, report_with, verdict_of, with_item, with_verdict}
use Rattle.rr_node.proofs.VerdictLemmas.{count_in, keeper_with_all, verdict_unasked}

-- ---- one item

-- what an answer adds to the answers and the report is what its verdict adds
pub text_of_answer : (number : ℕ) (v : Verdict) (answer : Answer) → IsAnswer v answer
    → text_to number answer ≡ answer_to number v
text_of_answer number skipped says.Nothing is = refl
text_of_answer number skipped (says.Put count) is = absurd is
text_of_answer number skipped (says.Refused text) is = absurd is
text_of_answer number (put p time) says.Nothing is = absurd is
text_of_answer number (put p time) (says.Put count) is = refl
text_of_answer number (put p time) (says.Refused text) is = absurd is
text_of_answer number (refused name) says.Nothing is = absurd is
text_of_answer number (refused name) (says.Put count) is = absurd is
text_of_answer number (refused name) (says.Refused text) is = rw is refl

pub report_of_answer : (r : Report) (v : Verdict) (answer : Answer) → IsAnswer v answer
    → counted_in r answer ≡ report_with r v
report_of_answer r skipped says.Nothing is = refl
report_of_answer r skipped (says.Put count) is = absurd is
report_of_answer r skipped (says.Refused text) is = absurd is
report_of_answer r (put p time) says.Nothing is = absurd is
report_of_answer r (put p time) (says.Put count) is = rw is refl
report_of_answer r (put p time) (says.Refused text) is = absurd is
report_of_answer r (refused name) says.Nothing is = absurd is
report_of_answer r (refused name) (says.Put count) is = absurd is
report_of_answer r (refused name) (says.Refused text) is = refl

-- a line takes the moments that it asks for, and leaves the later ones
pub item_served : (rules : Rules) (k : KeeperState) (lines : ℕ) (text : List ℕ) (report : Report) (item : Item)
    (asked later : List ℤ) (b : Bool) → asks_clock rules item ≡ b → length asked ≡ (if b then 1 else 0)
    → with_item rules (record { keeper = k; moments = asked ++ later; lines = lines; answers = text; report = report })
    item
    ≡ with_verdict (record { keeper = k; moments = later; lines = lines; answers = text; report = report })
    (verdict_of rules (first_of asked) (own_replica k) item) later
item_served rules k lines text report item [] later true e few = absurd (omega (arith, few))
item_served rules k lines text report item (moment ∷ []) later true e few =
    let s : Served = record { keeper = k; moments = later; lines = lines; answers = text; report = report } in
    ap (λ (b : Bool). with_verdict s (verdict_of rules moment (own_replica k) item)
    (if b then later else moment ∷ later)) e
item_served rules k lines text report item (moment ∷ next ∷ more) later true e few = absurd (omega (arith, few))
item_served rules k lines text report item [] later false e few =
    let s : Served = record { keeper = k; moments = later; lines = lines; answers = text; report = report } in
    ap (λ (b : Bool). with_verdict s (verdict_of rules (first_of later) (own_replica k) item)
    (if b then later_than_first later else later)) e
    ∙ ap (λ (v : Verdict). with_verdict s v later)
    (verdict_unasked rules (first_of later) (pos 0) (own_replica k) item e)
item_served rules k lines text report item (moment ∷ more) later false e few = absurd (omega (arith, few))

-- moments are given as lines ask for them
pub asked_more : (rules : Rules) (handed : List Item) (item : Item) (given asked : List ℤ)
    → length given ≡ count_by (asks_clock rules) handed → length asked ≡ moments_asked rules item
    → length (given ++ asked) ≡ count_by (asks_clock rules) (handed ++ item ∷ [])
asked_more rules handed item given asked before here =
    omega (
      arith,
      before,
      here,
      length-append given asked,
      sum_by-append (λ x. if asks_clock rules x then 1 else 0) handed (item ∷ []),
    )

-- an item is handed out, the keeper takes it with the moments that it asked for, and it is counted and answered
pub record Counts (old new : Connection) (k now : KeeperState) (item : Item) (asked : List ℤ) (answer : Answer)
    : Type 0 where
  pub hands : HandsOut old.feed (Some item) new.feed
  pub few : length asked ≡ moments_asked old.rules item
  pub keeper : now ≡ published_after (old.lines + 1)
      (keeper_with k (verdict_of old.rules (first_of asked) (own_replica k) item))
  pub reported : IsAnswer (verdict_of old.rules (first_of asked) (own_replica k) item) answer
  pub lines : new.lines ≡ old.lines + 1
  pub report : new.report ≡ counted_in old.report answer
  pub rules : new.rules ≡ old.rules
  pub pieces : new.pieces ≡ old.pieces

HasServed-item : (old new : Connection) (start k now : KeeperState) (pushed text : List ℕ) (given asked : List ℤ)
    (item : Item) (answer : Answer) → Counts old new k now item asked answer → HasServed old start pushed given k text
    → HasServed new start pushed (given ++ asked) now (text ++ text_to (old.lines + 1) answer)
HasServed-item old new start k now pushed text given asked item answer counts has =
    let v = verdict_of old.rules (first_of asked) (own_replica k) item in
    record {
      handed = has.handed ++ item ∷ [];
      fed = IsFed-next_line pushed has.handed (Some item) old.feed new.feed counts.hands has.fed;
      asked = rw counts.rules (asked_more old.rules has.handed item given asked has.asked counts.few);
      served = λ later.
          let s : Served = served_so_far old k text later in
          let prefix : after old.rules start ((given ++ asked) ++ later) has.handed
          ≡ served_so_far old k text (asked ++ later) =
          ap (λ (m : List ℤ). after old.rules start m has.handed) (append_assoc given asked later)
          ∙ has.served (asked ++ later) in
          let whole : after old.rules start ((given ++ asked) ++ later) (has.handed ++ item ∷ [])
          ≡ with_verdict s v later =
          fold-append (with_item old.rules) (served_at_start start ((given ++ asked) ++ later)) has.handed (item ∷ [])
          ∙ ap (λ (x : Served). with_item old.rules x item) prefix
          ∙ item_served old.rules k old.lines text old.report item asked later (asks_clock old.rules item) refl
          counts.few in
          let keeper = counts.keeper in
          let answered = text_of_answer (old.lines + 1) v answer counts.reported in
          let reported = report_of_answer old.report v answer counts.reported in
          rw (counts.rules, counts.lines, counts.report, counts.keeper, answered, reported) whole;
    }

pub ServedItems-item : (start old new : Connection) (k0 k now : KeeperState) (given asked : List ℤ) (text : List ℕ)
    (item : Item) (answer : Answer) → Counts old new k now item asked answer → ServedItems start old k0 k given text
    → ServedItems start new k0 now (given ++ asked) (text ++ text_to (old.lines + 1) answer)
ServedItems-item start old new k0 k now given asked text item answer counts so_far = record {
  served = λ first pushed before parsed has.
      let more = HasServed-item old new first k now pushed (parsed ++ text) (before ++ given) asked item answer counts
      (so_far.served first pushed before parsed has) in
      subst (λ (m : List ℤ). HasServed new first pushed m now (parsed ++ (text ++ text_to (old.lines + 1) answer)))
      (append_assoc before given asked)
      (subst (HasServed new first pushed ((before ++ given) ++ asked) now)
      (append_assoc parsed text (text_to (old.lines + 1) answer)) more);
  ended = counts.hands.ended ∙ so_far.ended;
  pieces = counts.pieces ∙ so_far.pieces;
  rules = counts.rules ∙ so_far.rules;
}

pub ServedItems-nothing : (c : Connection) (k : KeeperState) → ServedItems c c k k [] []
ServedItems-nothing c k = record {
  served = λ start pushed given text has. subst (λ (m : List ℤ). HasServed c start pushed m k (text ++ []))
      (sym (append-nil given)) (subst (HasServed c start pushed given k) (sym (append-nil text)) has);
  ended = refl;
  pieces = refl;
  rules = refl;
}

-- the same connection but for its feed
pub record SameButFeed (old new : Connection) : Type 0 where
  pub lines : new.lines ≡ old.lines
  pub report : new.report ≡ old.report
  pub rules : new.rules ≡ old.rules

-- nothing is handed out
pub ServedItems-none : (first old new : Connection) (k0 k : KeeperState) (given : List ℤ) (text : List ℕ)
    → HandsOut old.feed None new.feed → SameButFeed old new → new.pieces ≡ old.pieces
    → ServedItems first old k0 k given text → ServedItems first new k0 k given text
ServedItems-none first old new k0 k given text hands same pieces so_far = record {
  served = λ start pushed parsed before has.
      let now = so_far.served start pushed parsed before has in
      record {
        handed = now.handed;
        fed = subst (λ (l : List Item). IsFed pushed l new.feed) (append-nil now.handed)
            (IsFed-next_line pushed now.handed None old.feed new.feed hands now.fed);
        asked = rw same.rules now.asked;
        served = λ later. rw (same.rules, same.lines, same.report) (now.served later);
      };
  ended = hands.ended ∙ so_far.ended;
  pieces = pieces ∙ so_far.pieces;
  rules = same.rules ∙ so_far.rules;
}

pub HasServed-new : (c : Connection) (start : KeeperState) → c.feed ≡ state [] false false → c.lines ≡ 0
    → c.report ≡ record { points = 0; samples = 0; refused = 0 } → HasServed c start [] [] start []
HasServed-new c start feed lines report = record {
  handed = [];
  fed = rw feed (λ more ended may. refl);
  asked = refl;
  served = λ later. rw (lines, report) refl;
}

-- ---- the bytes that come

pub HasServed-push : (old new : Connection) (start k : KeeperState) (pushed piece text : List ℕ) (given : List ℤ)
    → old.feed.ended ≡ false → ConnectionTakesPiece old new piece → HasServed old start pushed given k text
    → HasServed new start (pushed ++ piece) given k text
HasServed-push old new start k pushed piece text given going takes has = record {
  handed = has.handed;
  fed = rw takes.feed (IsFed-push pushed piece has.handed old.feed going has.fed);
  asked = rw takes.rules has.asked;
  served = λ later. rw (takes.rules, takes.lines, takes.report) (has.served later);
}

pub HasServed-end : (old new : Connection) (start k : KeeperState) (pushed text : List ℕ) (given : List ℤ)
    → new.feed ≡ state old.feed.left old.feed.skipping true → SameButFeed old new
    → HasServed old start pushed given k text → HasServed new start pushed given k text
HasServed-end old new start k pushed text given ended same has = record {
  handed = has.handed;
  fed = rw ended (IsFed-end pushed has.handed old.feed has.fed);
  asked = rw same.rules has.asked;
  served = λ later. rw (same.rules, same.lines, same.report) (has.served later);
}

-- ---- where it ends

-- what was handed out is a prefix of the items, whatever comes
handed_prefix : (feed : FeedState) (pushed bytes : List ℕ) (handed : List Item) → IsFed pushed handed feed
    → ComesAfter feed pushed bytes → (rest : List Item) × (items true bytes ≡ handed ++ rest)
handed_prefix feed pushed bytes handed fed comes =
    (items_left (with_more feed comes.0 true), ap (items true) comes.1 ∙ fed comes.0 true comes.2)

-- after all that was handed out
pub ends_here : (c : Connection) (start k : KeeperState) (pushed text : List ℕ) (given : List ℤ)
    → HasServed c start pushed given k text → EndsWithin c.rules start k (ComesAfter c.feed pushed) given
ends_here c start k pushed text given has = record {
  lines = has.handed;
  last = [];
  count = 0;
  input = λ bytes comes.
      let prefix = handed_prefix c.feed pushed bytes has.handed has.fed comes in
      (prefix.0, ap (λ (l : List Item). l ++ prefix.0) (append-nil has.handed) ∙ sym prefix.1);
  asked = has.asked ∙ ap (count_by (asks_clock c.rules)) (sym (append-nil has.handed));
  keeper = inl (sym (ap (λ (s : Served). s.keeper)
      (subst (λ (m : List ℤ). after c.rules start m has.handed ≡ served_so_far c k text []) (append-nil given)
      (has.served []))));
}

-- within an item
pub ends_within : (old : Connection) (new : FeedState) (start k now : KeeperState) (pushed text : List ℕ)
    (given asked : List ℤ) (item : Item) (count : ℕ) → HandsOut old.feed (Some item) new
    → length asked ≡ moments_asked old.rules item
    → now ≡ keeper_with_some k (verdict_of old.rules (first_of asked) (own_replica k) item) count
    → HasServed old start pushed given k text → EndsWithin old.rules start now (ComesAfter old.feed pushed)
    (given ++ asked)
ends_within old new start k now pushed text given asked item count hands few is has = record {
  lines = has.handed;
  last = item ∷ [];
  count = count;
  input = λ bytes comes.
      let fed = IsFed-next_line pushed has.handed (Some item) old.feed new hands has.fed in
      let prefix = handed_prefix new pushed bytes (has.handed ++ item ∷ []) fed
      (comes.0, comes.1, λ e. comes.2 (sym hands.ended ∙ e)) in
      (prefix.0, sym prefix.1);
  asked = asked_more old.rules has.handed item given asked has.asked few;
  keeper = inl (is ∙ sym (ap (λ (s : Served). keeper_within old.rules s (item ∷ []) count)
      (subst (λ (m : List ℤ). after old.rules start (given ++ m) has.handed ≡ served_so_far old k text asked)
      (append-nil asked) (subst (λ (m : List ℤ). after old.rules start (given ++ (asked ++ [])) has.handed
      ≡ served_so_far old k text m) (append-nil asked) (has.served (asked ++ []))))));
}

-- the same, of fewer inputs
pub ends_of : (rules same : Rules) (start now : KeeperState) (Comes Fewer : List ℕ → Type 0) (moments others : List ℤ)
    → rules ≡ same → moments ≡ others → ((bytes : List ℕ) → Fewer bytes → Comes bytes)
    → EndsWithin rules start now Comes moments → EndsWithin same start now Fewer others
ends_of rules same start now Comes Fewer moments others by_rules by_moments fewer ends =
    subst (λ (r : Rules). EndsWithin r start now Fewer others) by_rules
    (subst (EndsWithin rules start now Fewer) by_moments (record {
      lines = ends.lines;
      last = ends.last;
      count = ends.count;
      input = λ bytes comes. ends.input bytes (fewer bytes comes);
      asked = ends.asked;
      keeper = elim (ends.keeper) [
        | inl part ↦ inl part
        | inr all ↦
            inr (all.0, λ bytes comes. all.1 bytes (fewer bytes comes), all.2)
      ];
    }))

-- what comes after a feed comes after one that is ended where it is
pub comes_too : (old new : FeedState) (pushed bytes : List ℕ) → new.ended ≡ old.ended → ComesAfter old pushed bytes
    → ComesAfter new pushed bytes
comes_too old new pushed bytes same comes = (comes.0, comes.1, λ e. comes.2 (sym same ∙ e))

-- memory ran out before an item was taken, after others were served
pub StoppedByMemory-before : (first old : Connection) (k0 k now : KeeperState) (given asked : List ℤ) (text : List ℕ)
    → ServedItems first old k0 k given text → asked ≡ [] → now ≡ k → StoppedByMemory first k0 now (given ++ asked)
StoppedByMemory-before first old k0 k now given asked text so_far none same start pushed parsed before has =
    let here = ends_here old start k pushed (before ++ text) (parsed ++ given)
    (so_far.served start pushed parsed before has) in
    let moments : parsed ++ given ≡ parsed ++ (given ++ asked) =
    ap (λ (m : List ℤ). parsed ++ m) (sym (append-nil given) ∙ ap (λ (m : List ℤ). given ++ m) (sym none)) in
    subst (λ (x : KeeperState). EndsWithin first.rules start x (ComesAfter first.feed pushed)
    (parsed ++ (given ++ asked))) (sym same)
    (ends_of old.rules first.rules start k (ComesAfter old.feed pushed) (ComesAfter first.feed pushed) (parsed ++ given)
    (parsed ++ (given ++ asked)) so_far.rules moments
    (λ bytes. comes_too first.feed old.feed pushed bytes so_far.ended) here)

-- memory ran out once some of an item's operations were pending
pub StoppedByMemory-within : (first old : Connection) (new : FeedState) (k0 k now : KeeperState) (given asked : List ℤ)
    (text : List ℕ) (item : Item) (count : ℕ) → ServedItems first old k0 k given text
    → HandsOut old.feed (Some item) new → length asked ≡ moments_asked old.rules item
    → now ≡ keeper_with_some k (verdict_of old.rules (first_of asked) (own_replica k) item) count
    → StoppedByMemory first k0 now (given ++ asked)
StoppedByMemory-within first old new k0 k now given asked text item count so_far hands few is start pushed parsed before
    has =
    let here = ends_within old new start k now pushed (before ++ text) (parsed ++ given) asked item count hands few is
    (so_far.served start pushed parsed before has) in
    ends_of old.rules first.rules start now (ComesAfter old.feed pushed) (ComesAfter first.feed pushed)
    ((parsed ++ given) ++ asked) (parsed ++ (given ++ asked)) so_far.rules (append_assoc parsed given asked)
    (λ bytes. comes_too first.feed old.feed pushed bytes so_far.ended) here

-- or all of them
pub StoppedByMemory-after : (first old : Connection) (new : FeedState) (k0 k now : KeeperState) (given asked : List ℤ)
    (text : List ℕ) (item : Item) → ServedItems first old k0 k given text → HandsOut old.feed (Some item) new
    → length asked ≡ moments_asked old.rules item
    → now ≡ keeper_with k (verdict_of old.rules (first_of asked) (own_replica k) item)
    → StoppedByMemory first k0 now (given ++ asked)
StoppedByMemory-after first old new k0 k now given asked text item so_far hands few is =
    let v = verdict_of old.rules (first_of asked) (own_replica k) item in
    StoppedByMemory-within first old new k0 k now given asked text item (count_in v) so_far hands few
    (is ∙ keeper_with_all k v)

-- memory ran out as an item was taken
pub StoppedByMemory-taking : (first old : Connection) (new : FeedState) (k0 k now : KeeperState) (given asked : List ℤ)
    (text : List ℕ) (item : Item) (e : AllocError) → ServedItems first old k0 k given text
    → HandsOut old.feed (Some item) new
    → HandledAt old.rules item asked k now (Err e) → StoppedByMemory first k0 now (given ++ asked)
StoppedByMemory-taking first old new k0 k now given asked text item e so_far hands (inl part) =
    StoppedByMemory-within first old new k0 k now given asked text item part.1.0 so_far hands part.0 part.1.1
StoppedByMemory-taking first old new k0 k now given asked text item e so_far hands (inr untouched) =
    StoppedByMemory-before first old k0 k now given asked text so_far untouched.0 untouched.1

-- an item that is answered was taken
pub taken_whole : (rules : Rules) (item : Item) (asked : List ℤ) (old new : KeeperState) (answer : Answer)
    → HandledAt rules item asked old new (Ok answer)
    → (length asked ≡ moments_asked rules item) × (new
    ≡ keeper_with old (verdict_of rules (first_of asked) (own_replica old) item))
    × IsAnswer (verdict_of rules (first_of asked) (own_replica old) item) answer
taken_whole rules item asked old new answer (inl taken) = (taken.0, taken.1.0, taken.1.1)
taken_whole rules item asked old new answer (inr untouched) = let e : Ok answer ≡ Err untouched.2.0 = untouched.2.1 in
    absurd cc

-- ---- what is answered

-- answers are only added to
answers_grow : (rules : Rules) (s : Served) (lines : List Item)
    → (rest : List ℕ) × ((fold (with_item rules) s lines).answers ≡ s.answers ++ rest)
answers_grow rules s [] = ([], sym (append-nil s.answers))
answers_grow rules s (item ∷ later) =
    let more = answers_grow rules (with_item rules s item) later in
    let here = answer_to (s.lines + 1) (verdict_of rules (first_of s.moments) (own_replica s.keeper) item) in
    (here ++ more.0, more.1 ∙ append_assoc s.answers here more.0)

-- the whole answer begins with what is answered so far
pub answer_prefix : (c : Connection) (start k : KeeperState) (pushed text : List ℕ) (given later : List ℤ)
    (bytes : List ℕ) → HasServed c start pushed given k text → ComesAfter c.feed pushed bytes
    → (rest : List ℕ) × (answer_of (after c.rules start (given ++ later) (items true bytes)) ≡ text ++ rest)
answer_prefix c start k pushed text given later bytes has comes =
    let prefix = handed_prefix c.feed pushed bytes has.handed has.fed comes in
    let s = served_so_far c k text later in
    let all : after c.rules start (given ++ later) (items true bytes) ≡ fold (with_item c.rules) s prefix.0 =
    ap (after c.rules start (given ++ later)) prefix.1
    ∙ fold-append (with_item c.rules) (served_at_start start (given ++ later)) has.handed prefix.0
    ∙ ap (λ (x : Served). fold (with_item c.rules) x prefix.0) (has.served later) in
    let more = answers_grow c.rules s prefix.0 in
    let report = report_text (fold (with_item c.rules) s prefix.0).report in
    (more.0 ++ report, ap answer_of all ∙ ap (λ (t : List ℕ). t ++ report) more.1 ∙ append_assoc text more.0 report)

-- so do the answers to all lines, before the report
pub answers_prefix : (c : Connection) (start k : KeeperState) (pushed text : List ℕ) (given later : List ℤ)
    (bytes : List ℕ) → HasServed c start pushed given k text → ComesAfter c.feed pushed bytes
    → (rest : List ℕ) × ((after c.rules start (given ++ later) (items true bytes)).answers ≡ text ++ rest)
answers_prefix c start k pushed text given later bytes has comes =
    let prefix = handed_prefix c.feed pushed bytes has.handed has.fed comes in
    let s = served_so_far c k text later in
    let all : after c.rules start (given ++ later) (items true bytes) ≡ fold (with_item c.rules) s prefix.0 =
    ap (after c.rules start (given ++ later)) prefix.1
    ∙ fold-append (with_item c.rules) (served_at_start start (given ++ later)) has.handed prefix.0
    ∙ ap (λ (x : Served). fold (with_item c.rules) x prefix.0) (has.served later) in
    let more = answers_grow c.rules s prefix.0 in
    (more.0, ap (λ (x : Served). x.answers) all ∙ more.1)

-- once nothing is left, all of the stream is served
pub served_all : (c : Connection) (start k : KeeperState) (pushed text : List ℕ) (given : List ℤ) (ended : Bool)
    → items_left c.feed ≡ [] → c.feed.ended ≡ ended → HasServed c start pushed given k text
    → (length given ≡ count_by (asks_clock c.rules) (items ended pushed))
    × (after c.rules start given (items ended pushed) ≡ served_so_far c k text [])
served_all c start k pushed text given ended nothing is has =
    let all : has.handed ≡ items ended pushed = IsFed-all pushed has.handed c.feed nothing has.fed
    ∙ ap (λ (b : Bool). items b pushed) is in (
      has.asked ∙ ap (count_by (asks_clock c.rules)) all,
      ap (after c.rules start given) (sym all) ∙ subst
          (λ (m : List ℤ). after c.rules start m has.handed ≡ served_so_far c k text []) (append-nil given)
          (has.served []),
    )
