-- How far the lines of a stream are reported, call by call.
use Rattle.std.proofs.Common.{◌≡◌, ℕ, ◌+◌, ℤ, Bool, true, false, List, [], ◌∷◌, ◌++◌, length, Some, sym, ap, subst, ◌∙◌, arith, append_assoc, length-append}
use Rattle.std.specs.Prelude.{count_by, if◌then◌else◌}
use Rattle.std.proofs.lemmas.List.{append-nil}
use Rattle.std.proofs.lemmas.List.Sums.{sum_by-append}
use Rattle.rr_feed.specs.Items.{Item, items}
use Rattle.rr_feed.specs.Feed.{state, items_left, with_more, HandsOut, MayCome}
use Rattle.rr_feed.proofs.FedLemmas.{IsFed-push, IsFed-next_line, IsFed-end, IsFed-all}
use Rattle.rr_line.specs.declared.precision.Precision.{Precision}
use Rattle.rr_process.specs.declared.checker.Checker.{Checker}
use Rattle.rr_process.specs.Report.{item_text, report_from, report_of, is_refused, refused_count}
use Rattle.rr_process.specs.Checker.{HasReported, Reports, CheckerTakesPiece}

-- the report of items, and then that of later ones
report_from-append : (precision : Precision) (now : ℤ) (number : ℕ) (first later : List Item)
    → report_from precision now number (first ++ later) ≡ report_from precision now number first
    ++ report_from precision now (number + length first) later
report_from-append precision now number [] later =
    let same : number ≡ number + 0 = omega arith in
    ap (λ (k : ℕ). report_from precision now k later) same
report_from-append precision now number (item ∷ first) later =
    let same : number + 1 + length first ≡ number + length (item ∷ first) = omega arith in
    ap (λ (text : List ℕ). item_text precision now number item ++ text)
    (report_from-append precision now (number + 1) first later
    ∙ ap (λ (k : ℕ). report_from precision now (number + 1) first ++ report_from precision now k later) same)
    ∙ sym (append_assoc (item_text precision now number item) (report_from precision now (number + 1) first)
    (report_from precision now (number + length (item ∷ first)) later))

-- the same checker but for its feed
pub record SameButFeed (old new : Checker) : Type 0 where
  pub lines : new.lines ≡ old.lines
  pub refused : new.refused ≡ old.refused
  pub precision : new.precision ≡ old.precision
  pub now : new.now ≡ old.now

pub HasReported-push : (old new : Checker) (pushed piece text : List ℕ) → old.feed.ended ≡ false
    → CheckerTakesPiece old new piece → HasReported old pushed text → HasReported new (pushed ++ piece) text
HasReported-push old new pushed piece text going takes has = record {
  handed = has.handed;
  fed = rw takes.feed (IsFed-push pushed piece has.handed old.feed going has.fed);
  reported = rw (takes.precision, takes.now) has.reported;
  lines = takes.lines ∙ has.lines;
  refused = rw takes.precision (takes.refused ∙ has.refused);
}

pub HasReported-end : (old new : Checker) (pushed text : List ℕ) → new.feed ≡ state old.feed.left old.feed.skipping true
    → SameButFeed old new → HasReported old pushed text → HasReported new pushed text
HasReported-end old new pushed text ended same has = record {
  handed = has.handed;
  fed = rw ended (IsFed-end pushed has.handed old.feed has.fed);
  reported = rw (same.precision, same.now) has.reported;
  lines = same.lines ∙ has.lines;
  refused = rw same.precision (same.refused ∙ has.refused);
}

-- an item is handed out, reported and counted
pub record Counts (old new : Checker) (item : Item) : Type 0 where
  pub hands : HandsOut old.feed (Some item) new.feed
  pub lines : new.lines ≡ old.lines + 1
  pub refused : new.refused ≡ old.refused + (if is_refused old.precision item then 1 else 0)
  pub precision : new.precision ≡ old.precision
  pub now : new.now ≡ old.now
  pub pieces : new.pieces ≡ old.pieces

HasReported-item : (old new : Checker) (pushed text : List ℕ) (item : Item) → Counts old new item
    → HasReported old pushed text → HasReported new pushed
    (text ++ item_text old.precision old.now (old.lines + 1) item)
HasReported-item old new pushed text item counts has =
    let handed = has.handed in
    let number : old.lines + 1 ≡ 1 + length handed = omega (arith, has.lines) in
    let last : item_text old.precision old.now (old.lines + 1) item
    ≡ report_from old.precision old.now (1 + length handed) (item ∷ []) =
    ap (λ (k : ℕ). item_text old.precision old.now k item) number
    ∙ sym (append-nil (item_text old.precision old.now (1 + length handed) item)) in
    record {
      handed = handed ++ item ∷ [];
      fed = IsFed-next_line pushed handed (Some item) old.feed new.feed counts.hands has.fed;
      reported = rw (counts.precision, counts.now) (ap
          (λ (t : List ℕ). t ++ item_text old.precision old.now (old.lines + 1) item) has.reported
          ∙ ap (λ (t : List ℕ). report_from old.precision old.now 1 handed ++ t) last
          ∙ sym (report_from-append old.precision old.now 1 handed (item ∷ [])));
      lines = omega (arith, counts.lines, has.lines, length-append handed (item ∷ []));
      refused = rw counts.precision (omega (
        arith,
        counts.refused,
        has.refused,
        sum_by-append (λ x. if is_refused old.precision x then 1 else 0) handed (item ∷ []),
      ));
    }

pub Reports-item : (start old new : Checker) (text : List ℕ) (item : Item) → Counts old new item
    → Reports start old text → Reports start new (text ++ item_text old.precision old.now (old.lines + 1) item)
Reports-item start old new text item counts so_far = record {
  reported = λ pushed before has. subst (HasReported new pushed)
      (append_assoc before text (item_text old.precision old.now (old.lines + 1) item))
      (HasReported-item old new pushed (before ++ text) item counts (so_far.reported pushed before has));
  ended = counts.hands.ended ∙ so_far.ended;
  pieces = counts.pieces ∙ so_far.pieces;
  precision = counts.precision ∙ so_far.precision;
  now = counts.now ∙ so_far.now;
}

-- once nothing is left, the whole stream is reported
pub HasReported-all : (c : Checker) (pushed text : List ℕ) → items_left c.feed ≡ [] → c.feed.ended ≡ true
    → HasReported c pushed text → (text ≡ report_of c.precision c.now pushed)
    × (c.refused ≡ refused_count c.precision pushed)
HasReported-all c pushed text nothing ended has =
    let all : has.handed ≡ items true pushed = IsFed-all pushed has.handed c.feed nothing has.fed
    ∙ ap (λ (b : Bool). items b pushed) ended in
    (has.reported ∙ ap (report_from c.precision c.now 1) all, has.refused ∙ ap (count_by (is_refused c.precision)) all)

-- what is reported is a prefix of the report of the whole stream, whatever comes
pub HasReported-prefix : (c : Checker) (pushed text more : List ℕ) → MayCome c.feed more true
    → HasReported c pushed text
    → (rest : List ℕ) × (report_of c.precision c.now (pushed ++ more) ≡ text ++ rest)
HasReported-prefix c pushed text more may has =
    let left = items_left (with_more c.feed more true) in
    let rest = report_from c.precision c.now (1 + length has.handed) left in (
      rest,
      ap (report_from c.precision c.now 1) (has.fed more true may)
          ∙ report_from-append c.precision c.now 1 has.handed left ∙ ap (λ (t : List ℕ). t ++ rest) (sym has.reported),
    )
