-- The side that gives, over streams: the frames that it sends, and a whole session.
use Rattle.std.proofs.Common.{◌≡◌, ◌⊎◌, inl, inr, ℕ, ◌+◌, ◌<◌, ◌≤◌, Bool, true, false, List, [], ◌∷◌, ◌++◌, length, map, take, drop, Option, None, Some, Result, Ok, Err, refl, sym, ap, subst, ◌∙◌, append_assoc, arith}
use Rattle.std.specs.Prelude.{nat_le, ◌&&◌, is_some, OnOk, IfErr}
use Rattle.std.specs.FinMap.{entries}
use Rattle.std.specs.Io.KnownBytes.{Appends}
use Rattle.std.specs.List.{concat}
use Rattle.std.proofs.lemmas.Bool.{leb-false, leb-true}
use Rattle.std.proofs.lemmas.List.{append-nil, length-append, length-drop}
use Rattle.rr_text.specs.Results.{◌>>=◌, unless}
use Rattle.rr_schema.specs.Schema.{Layout}
use Rattle.rr_io.specs.Stream.{AppendsPrefix}
use Rattle.rr_text.specs.declared.limits.TheConstants.{MAX_PAGE_CELLS}
use Rattle.rr_delta.specs.Difference.{newer_cells}
use Rattle.rr_delta.specs.Names.{NamedVersion}
use Rattle.rr_page.specs.Page.{page_text}
use Rattle.rr_page.specs.Version.{latest}
use Rattle.rr_cells.specs.Cells.{Cells}
use Rattle.rr_gossip.specs.declared.fault.GossipFault.{GossipFault}
use Rattle.rr_gossip.specs.declared.fault.GossipFault.TheVariants as why
use Rattle.rr_gossip.specs.declared.frame.Kind.TheVariants as kind
use Rattle.rr_gossip.specs.declared.giver.Giver.{Giver}
use Rattle.rr_gossip.specs.declared.giver.Stage.{Stage}
use Rattle.rr_gossip.specs.declared.giver.Stage.TheVariants.{Opening, Listing, Giving, Done, Failed}
use Rattle.rr_gossip.specs.Frame.{frame_text}
use Rattle.rr_gossip.specs.Giver.{first_giver, count_with, giver_sends, stage_sends}
use Rattle.rr_gossip.specs.Pages.{CellsLeft}
use Rattle.rr_gossip.specs.Session.{CannotSend, HasFailedToGive, HasGiven, HasHeard, is_giving, replied_by, reply_left}
use Rattle.rr_gossip.specs.Transcript.{pieces}
use Rattle.rr_gossip.proofs.SendLemmas.{same_pieces}
use Rattle.rr_gossip.proofs.StepLemmas.{bind_ok, err_is, ok_is, unless_ok}

-- ---- what a giver still sends

-- all of the answer to some names is left
pub answer_left : (s : Layout) (names : List NamedVersion) (m : Cells) (stage : Stage)
    → stage ≡ Giving (s, newer_cells names (entries m)) → reply_left stage ≡ replied_by s names m
unfolding reply_left replied_by
answer_left s names m stage is = ap reply_left is

-- the pages are not over, or their end is sent
abbrev pub is_replying : Stage → Bool
is_replying Opening = false
is_replying (Listing names) = false
is_replying (Giving left) = true
is_replying Done = true
is_replying Failed = false

abbrev StageSends : Stage → Stage → Option (List ℕ) → Type 0
StageSends stage next None = reply_left stage ≡ []
StageSends stage next (Some frame) = (reply_left stage ≡ frame ∷ reply_left next) × (is_replying next ≡ true)

page_sends : (left : CellsLeft) (x : Stage × Option (List ℕ)) → stage_sends (Giving left) ≡ Ok x
    → StageSends (Giving left) x.0 x.1
unfolding reply_left pieces
page_sends (s, []) x e = subst (λ (y : Stage × Option (List ℕ)). StageSends (Giving (s, [])) y.0 y.1)
    (ok_is {E = GossipFault} _ x e) (refl, refl)
page_sends (s, e ∷ es) x is =
    let left = drop MAX_PAGE_CELLS (e ∷ es) in
    let less = length-drop MAX_PAGE_CELLS (e ∷ es) in
    let page = frame_text kind.Page (page_text latest s (take MAX_PAGE_CELLS (e ∷ es))) in
    subst (λ (y : Stage × Option (List ℕ)). StageSends (Giving (s, e ∷ es)) y.0 y.1) (ok_is {E = GossipFault} _ x is) (
      ap (λ ps. page ∷ (map (λ piece. frame_text kind.Page (page_text latest s piece)) ps
          ++ frame_text kind.PageEnd [] ∷ [])) (same_pieces (length es) (length left) 255 left (omega (arith, less))
          (omega arith)),
      refl,
    )

stage_step : (stage : Stage) (x : Stage × Option (List ℕ)) → is_replying stage ≡ true → stage_sends stage ≡ Ok x
    → StageSends stage x.0 x.1
unfolding reply_left
stage_step Opening x going e = absurd cc
stage_step (Listing names) x going e = absurd cc
stage_step (Giving left) x going e = page_sends left x e
stage_step Done x going e = subst (λ (y : Stage × Option (List ℕ)). StageSends Done y.0 y.1)
    (ok_is {E = GossipFault} _ x e) refl
stage_step Failed x going e = absurd cc

-- of these frames some were sent, and a giver sends the others
pub record Replies (all : List (List ℕ)) (limit : ℕ) (g : Giver) (before : List (List ℕ)) : Type 0 where
  pub going : is_replying g.stage ≡ true
  pub all_are : all ≡ before ++ reply_left g.stage
  pub count : g.sent ≡ length before
  pub limit_is : g.limit ≡ limit
  pub few : length before ≤ limit

abbrev after_stage : Giver → Stage × Option (List ℕ) → Result (Giver × Option (List ℕ)) GossipFault
after_stage g next = unless why.TooManyFrames (is_some next.1 && nat_le g.limit g.sent)
    (Ok (record { stage = next.0; sent = count_with g.sent next.1; taken = g.taken; limit = g.limit }, next.1))

-- what one call of a giver sends
record GiverSends (g q : Giver) (o : Option (List ℕ)) : Type 0 where
  stage : StageSends g.stage q.stage o
  count : q.sent ≡ count_with g.sent o
  limit : q.limit ≡ g.limit
  room : (is_some o && nat_le g.limit g.sent) ≡ false

giver_step : (g q : Giver) (o : Option (List ℕ)) → is_replying g.stage ≡ true → giver_sends g ≡ Ok (q, o)
    → GiverSends g q o
unfolding giver_sends
giver_step g q o going e =
    let a = bind_ok (stage_sends g.stage) (after_stage g) (q, o) e in
    let next = a.0 in
    let b = unless_ok why.TooManyFrames (is_some next.1 && nat_le g.limit g.sent)
    (Ok (record { stage = next.0; sent = count_with g.sent next.1; taken = g.taken; limit = g.limit }, next.1))
    (q, o) a.2 in
    let is = ok_is {E = GossipFault} (
      record {
        stage = next.0;
        sent = count_with g.sent next.1;
        taken = g.taken;
        limit =
            g.limit;
      },
      next.1,
    ) (q, o) b.1 in
    subst (λ (y : Giver × Option (List ℕ)). GiverSends g y.0 y.1) is
    (record { stage = stage_step g.stage next going a.1; count = refl; limit = refl; room = b.0 })

pub first_replies : (g : Giver) → is_giving g.stage ≡ true → g.sent ≡ 0 → Replies (reply_left g.stage) g.limit g []
first_replies g giving none = record {
  going = by_stage g.stage giving;
  all_are = refl;
  count = none;
  limit_is = refl;
  few = omega arith;
}
  where
    by_stage : (stage : Stage) → is_giving stage ≡ true → is_replying stage ≡ true
    by_stage Opening e = absurd cc
    by_stage (Listing names) e = absurd cc
    by_stage (Giving left) e = refl
    by_stage Done e = absurd cc
    by_stage Failed e = absurd cc

pub record OneReplied (all : List (List ℕ)) (limit : ℕ) (g q : Giver) (before : List (List ℕ)) (frame : List ℕ)
    : Type 0 where
  pub replies : Replies all limit q (before ++ frame ∷ [])
  pub left : List (List ℕ)
  pub all_are : all ≡ before ++ frame ∷ left
  pub room : g.sent < g.limit
  pub few : length before < limit
  pub count : q.sent ≡ g.sent + 1
  pub limit_is : q.limit ≡ g.limit

pub one_replied : (all : List (List ℕ)) (limit : ℕ) (g q : Giver) (before : List (List ℕ)) (frame : List ℕ)
    → Replies all limit g before → giver_sends g ≡ Ok (q, Some frame) → OneReplied all limit g q before frame
one_replied all limit g q before frame replies e =
    let step = giver_step g q (Some frame) replies.going e in
    let left = reply_left q.stage in
    let are : all ≡ before ++ frame ∷ left = replies.all_are ∙ ap (λ l. before ++ l) step.stage.0 in
    let count : q.sent ≡ g.sent + 1 = step.count in
    let room = leb-false g.limit g.sent step.room in
    let few : length before < limit = omega (arith, room, replies.count, replies.limit_is) in
    record {
      replies = record {
        going = step.stage.1;
        all_are = are ∙ sym (append_assoc before (frame ∷ []) left);
        count = omega (arith, count, replies.count, length-append before (frame ∷ []));
        limit_is = step.limit ∙ replies.limit_is;
        few = omega (arith, few, length-append before (frame ∷ []));
      };
      left = left;
      all_are = are;
      room = room;
      few = few;
      count = count;
      limit_is = step.limit;
    }

-- after the last frame all are sent
pub all_replied : (all : List (List ℕ)) (limit : ℕ) (g q : Giver) (before : List (List ℕ)) → Replies all limit g before
    → giver_sends g ≡ Ok (q, None) → all ≡ before
all_replied all limit g q before replies e = replies.all_are
    ∙ ap (λ l. before ++ l) (giver_step g q None replies.going e).stage ∙ append-nil before

-- why not all are sent
stage_fault : (stage : Stage) (fault : GossipFault) → is_replying stage ≡ true → stage_sends stage ≡ Err fault → ⊥
stage_fault Opening fault going e = absurd cc
stage_fault (Listing names) fault going e = absurd cc
stage_fault (Giving left) fault going e = absurd cc
stage_fault Done fault going e = absurd cc
stage_fault Failed fault going e = absurd cc

too_many : (all : List (List ℕ)) (limit : ℕ) (g : Giver) (before : List (List ℕ)) (fault : GossipFault)
    (next : Stage × Option (List ℕ)) → Replies all limit g before → stage_sends g.stage ≡ Ok next → (b : Bool)
    → (is_some next.1 && nat_le g.limit g.sent) ≡ b
    → unless {A = Giver × Option (List ℕ)} why.TooManyFrames b
    (Ok (record { stage = next.0; sent = count_with g.sent next.1; taken = g.taken; limit = g.limit }, next.1))
    ≡ Err fault → (fault ≡ why.TooManyFrames) × (limit < length all)
too_many all limit g before fault next replies is false t e = absurd cc
too_many all limit g before fault (stage, None) replies is true t e = absurd cc
too_many all limit g before fault (stage, Some frame) replies is true t e =
    let step = stage_step g.stage (stage, Some frame) replies.going is in
    let full = leb-true g.limit g.sent t in
    let len : length all ≡ length before + length (frame ∷ reply_left stage) =
    ap length (replies.all_are ∙ ap (λ l. before ++ l) step.0) ∙ length-append before (frame ∷ reply_left stage) in (
      sym (err_is {A = Giver × Option (List ℕ)} why.TooManyFrames fault e),
      omega (arith, full, len, replies.count, replies.limit_is),
    )

pub cannot_reply : (all : List (List ℕ)) (limit : ℕ) (g : Giver) (before : List (List ℕ)) (fault : GossipFault)
    → Replies all limit g before → (fault ≡ why.Memory) ⊎ (giver_sends g ≡ Err fault)
    → (fault ≡ why.Memory) ⊎ ((fault ≡ why.TooManyFrames) × (limit < length all))
unfolding giver_sends
cannot_reply all limit g before fault replies (inl memory) = inl memory
cannot_reply all limit g before fault replies (inr e) = inr (by_stage (stage_sends g.stage) refl)
  where
    by_stage : (r : Result (Stage × Option (List ℕ)) GossipFault) → stage_sends g.stage ≡ r
        → (fault ≡ why.TooManyFrames) × (limit < length all)
    by_stage (Ok next) is = too_many all limit g before fault next replies is (is_some next.1 && nat_le g.limit g.sent)
        refl (sym (ap (λ r. r >>= after_stage g) is) ∙ e)
    by_stage (Err other) is = absurd (stage_fault g.stage other replies.going is)

-- no writer is to blame for it
pub reply_unwritten : (all : List (List ℕ)) (limit : ℕ) (fault : GossipFault)
    → (fault ≡ why.Memory) ⊎ ((fault ≡ why.TooManyFrames) × (limit < length all)) → fault ≡ why.WriteFailed → ⊥
reply_unwritten all limit fault (inl memory) w = absurd (cc (sym memory ∙ w))
reply_unwritten all limit fault (inr many) w = absurd (cc (sym many.0 ∙ w))

-- ---- a whole session

module _ (limit : ℕ) (s : Layout) (m : Cells) (before : List ℕ) (had left wrote written : Option (List ℕ))
    (last : Giver) (heard : HasHeard s m (first_giver limit) last before had left) where
  answer : reply_left last.stage ≡ replied_by s heard.names m
  answer = answer_left s heard.names m last.stage heard.giving

  pub gave : {A : Type 0} (r : Result A GossipFault) → last.limit ≡ limit
      → OnOk r (length (reply_left last.stage) ≤ last.limit)
      → OnOk r (Appends wrote written (concat (reply_left last.stage)))
      → OnOk r (HasGiven limit s m before had left wrote written)
  gave (Ok x) same few sent = record {
    last = last;
    heard = heard;
    few = omega (arith, few, same, ap length answer);
    replied =
        subst (λ (frames : List (List ℕ)). Appends wrote written (concat frames)) answer sent;
  }
  gave (Err fault) same few sent = tt

  pub failed_to_reply : {A : Type 0} (r : Result A GossipFault) → last.limit ≡ limit
      → IfErr r (CannotSend last.limit (reply_left last.stage))
      → AppendsPrefix wrote written (concat (take last.limit (reply_left last.stage)))
      → IfErr r (HasFailedToGive limit s m before had left wrote written)
  failed_to_reply (Ok x) same why prefix = tt
  failed_to_reply (Err fault) same why prefix =
      inr (record {
        last = last;
        heard = heard;
        why = subst (λ (frames : List (List ℕ)). CannotSend limit frames fault) answer
            (subst (λ (n : ℕ). CannotSend n (reply_left last.stage) fault) same why);
        prefix = subst (λ (frames : List (List ℕ)). AppendsPrefix wrote written (concat (take limit frames))) answer
            (subst (λ (n : ℕ). AppendsPrefix wrote written (concat (take n (reply_left last.stage)))) same prefix);
      })
