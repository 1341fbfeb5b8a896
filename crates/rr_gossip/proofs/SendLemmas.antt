-- Frames that are sent, one after the other.
use Rattle.std.proofs.Common.{◌≡◌, ◌⊎◌, inl, inr, ℕ, zero, suc, ◌+◌, ◌-◌, ◌<◌, ◌≤◌, Bool, true, false, List, [], ◌∷◌, ◌++◌, length, map, take, drop, Option, None, Some, Result, Ok, Err, refl, sym, ap, subst, ◌∙◌, append_assoc, arith}
use Rattle.std.specs.Prelude.{nat_le, ◌&&◌, is_some}
use Rattle.std.specs.FinMap.{entries}
use Rattle.std.specs.Io.KnownBytes.{Appends}
use Rattle.std.specs.List.{concat}
use Rattle.std.proofs.Math.Seq.{take-append-add}
use Rattle.std.proofs.lemmas.Bool.{leb-false, leb-true}
use Rattle.std.proofs.lemmas.List.{append-nil, length-append, length-drop}
use Rattle.std.proofs.lemmas.List.Folds.{concat-append}
use Rattle.rr_text.specs.Results.{◌>>=◌, unless}
use Rattle.rr_schema.specs.Schema.{Layout}
use Rattle.rr_io.specs.Stream.{AppendsPrefix}
use Rattle.rr_io.proofs.StreamLemmas.{prefix_after, prefix_before}
use Rattle.rr_delta.specs.declared.name.Name.{Name}
use Rattle.rr_delta.specs.Names.{NamedVersion, named_version, versions_of}
use Rattle.rr_delta.specs.Summaries.{cells_after}
use Rattle.rr_cells.specs.Cells.{Cells}
use Rattle.rr_gossip.specs.declared.fault.GossipFault.{GossipFault}
use Rattle.rr_gossip.specs.declared.fault.GossipFault.TheVariants.{TooManyFrames, WriteFailed, Memory}
use Rattle.rr_gossip.specs.declared.fault.GossipFault.TheVariants as why
use Rattle.rr_gossip.specs.declared.frame.Kind.TheVariants as kind
use Rattle.rr_gossip.specs.declared.puller.Puller.{Puller}
use Rattle.rr_gossip.specs.declared.puller.Stage.{Stage}
use Rattle.rr_gossip.specs.declared.puller.Stage.TheVariants.{Opening, Listing, Waiting, Done, Failed}
use Rattle.rr_gossip.specs.declared.summary.TheConstants.{MAX_ENTRIES}
use Rattle.rr_gossip.specs.Frame.{frame_text}
use Rattle.rr_gossip.specs.Giver.{count_with}
use Rattle.rr_gossip.specs.Puller.{first_puller, names_sent, stage_sends, puller_sends}
use Rattle.rr_gossip.specs.Session.{CannotSend, sent_by}
use Rattle.rr_gossip.specs.Summary.{summary_text}
use Rattle.rr_gossip.specs.Transcript.{cut, pieces, frames_of_names, waiting}
use Rattle.rr_gossip.proofs.SentLemmas.{name_in, next_left}
use Rattle.rr_gossip.proofs.StepLemmas.{bind_ok, unless_ok, ok_is, err_is}

-- ---- a row of frames, of which some are written, at most so many

-- the first of a list are among its first ones
first_of : {X : Type 0} (n : ℕ) (before left : List X) → length before ≤ n
    → (rest : List X) × (take n (before ++ left) ≡ before ++ rest)
first_of n before left few =
    let k = n - length before in
    let is : length before + k ≡ n = omega (arith, few) in
    (take k left, ap (λ m. take m (before ++ left)) (sym is) ∙ take-append-add before left k)

-- those before a frame are, and a prefix of it
pub frames_prefix : (a b c : Option (List ℕ)) (n : ℕ) (all before left : List (List ℕ)) (frame : List ℕ)
    → all ≡ before ++ frame ∷ left → length before < n → Appends a b (concat before) → AppendsPrefix b c frame
    → AppendsPrefix a c (concat (take n all))
frames_prefix a b c n all before left frame is few done part =
    let one = before ++ frame ∷ [] in
    let first = first_of n one left (omega (arith, few, length-append before (frame ∷ []))) in
    let rest = first.0 in
    let are : take n all ≡ before ++ frame ∷ rest =
    ap (take n) (is ∙ sym (append_assoc before (frame ∷ []) left)) ∙ first.1
    ∙ append_assoc before (frame ∷ []) rest in
    subst (AppendsPrefix a c) (append_assoc (concat before) frame (concat rest)
    ∙ sym (concat-append before (frame ∷ rest)) ∙ ap concat (sym are))
    (prefix_before a c (concat before ++ frame) (concat rest) (prefix_after a b c (concat before) frame done part))

pub frames_before : (a b : Option (List ℕ)) (n : ℕ) (all before left : List (List ℕ)) → all ≡ before ++ left
    → length before ≤ n → Appends a b (concat before) → AppendsPrefix a b (concat (take n all))
frames_before a b n all before left is few done =
    let first = first_of n before left few in
    (concat before, concat first.0, ap concat (ap (take n) is ∙ first.1) ∙ concat-append before first.0, done)

-- all of them are
pub frames_whole : (a b : Option (List ℕ)) (all before : List (List ℕ)) → all ≡ before → Appends a b (concat before)
    → Appends a b (concat all)
frames_whole a b all before is done = subst (λ (frames : List (List ℕ)). Appends a b (concat frames)) (sym is) done

pub concat_more : (frames : List (List ℕ)) (frame : List ℕ) → concat (frames ++ frame ∷ []) ≡ concat frames ++ frame
concat_more frames frame = concat-append frames (frame ∷ [])
    ∙ ap (λ (l : List ℕ). concat frames ++ l) (append-nil frame)

-- ---- a list in pieces

-- as many pieces as there are elements are enough
pub same_pieces : {X : Type 0} (j k n : ℕ) (xs : List X) → length xs ≤ j → length xs ≤ k
    → pieces j (suc n) xs ≡ pieces k (suc n) xs
unfolding pieces
same_pieces zero zero n xs few enough = refl
same_pieces zero (suc k) n [] few enough = refl
same_pieces zero (suc k) n (x ∷ xs) few enough = absurd (omega arith)
same_pieces (suc j) zero n [] few enough = refl
same_pieces (suc j) zero n (x ∷ xs) few enough = absurd (omega arith)
same_pieces (suc j) (suc k) n [] few enough = refl
same_pieces (suc j) (suc k) n (x ∷ xs) few enough =
    let less = length-drop (suc n) (x ∷ xs) in
    ap (λ l. take (suc n) (x ∷ xs) ∷ l) (same_pieces j k n (drop (suc n) (x ∷ xs)) (omega (arith, less, few))
    (omega (arith, less, enough)))

-- ---- what a puller still sends

abbrev names_left : List NamedVersion → List (List ℕ)
names_left vs = map (λ piece. frame_text kind.Summary (summary_text piece)) (cut MAX_ENTRIES vs)
    ++ frame_text kind.SummaryEnd [] ∷ []

abbrev pub stage_left : Cells → Layout → Stage → List (List ℕ)
stage_left m s Opening = frames_of_names s (versions_of m)
stage_left m s (Listing after) = names_left (map named_version (cells_after (name_in after) (entries m)))
stage_left m s Waiting = []
stage_left m s Done = []
stage_left m s Failed = []

-- it is not past the other side's pages
abbrev pub is_sending : Stage → Bool
is_sending Opening = true
is_sending (Listing after) = true
is_sending Waiting = true
is_sending Done = false
is_sending Failed = false

abbrev StageSends : Cells → Layout → Stage → Stage → Option (List ℕ) → Type 0
StageSends m s stage next None = (stage ≡ Waiting) × (next ≡ Waiting)
StageSends m s stage next (Some frame) = (stage_left m s stage ≡ frame ∷ stage_left m s next) × (is_sending next ≡ true)

module _ (m : Cells) (s : Layout) where
  all_left : sent_by s m ≡ stage_left m s Opening
  unfolding sent_by
  all_left = refl

  listing : (after : Option Name) (vs : List NamedVersion)
      → vs ≡ map named_version (cells_after (name_in after) (entries m))
      → StageSends m s (Listing after) (names_sent (take MAX_ENTRIES vs)).0 (Some (names_sent (take MAX_ENTRIES vs)).1)
  unfolding pieces
  listing after [] is = (ap names_left (sym is), refl)
  listing after (v ∷ vs) is =
      let left = drop MAX_ENTRIES (v ∷ vs) in
      let less = length-drop MAX_ENTRIES (v ∷ vs) in
      let frame = frame_text kind.Summary (summary_text (take MAX_ENTRIES (v ∷ vs))) in (
        ap names_left (sym is)
            ∙ ap (λ ps. frame ∷ (map (λ piece. frame_text kind.Summary (summary_text piece)) ps
            ++ frame_text kind.SummaryEnd [] ∷ [])) (same_pieces (length vs) (length left) 255 left
            (omega (arith, less)) (omega arith))
            ∙ ap (λ ws. frame ∷ names_left ws) (sym (next_left m after 255 v vs is)),
        refl,
      )

  stage_step : (stage : Stage) (x : Stage × Option (List ℕ)) → is_sending stage ≡ true → stage_sends m s stage ≡ Ok x
      → StageSends m s stage x.0 x.1
  stage_step Opening x going e = subst (λ (y : Stage × Option (List ℕ)). StageSends m s Opening y.0 y.1)
      (ok_is {E = GossipFault} _ x e) (refl, refl)
  stage_step (Listing after) x going e =
      subst (λ (y : Stage × Option (List ℕ)). StageSends m s (Listing after) y.0 y.1) (ok_is {E = GossipFault} _ x e)
      (listing after (map named_version (cells_after (name_in after) (entries m))) refl)
  stage_step Waiting x going e = subst (λ (y : Stage × Option (List ℕ)). StageSends m s Waiting y.0 y.1)
      (ok_is {E = GossipFault} _ x e) (refl, refl)
  stage_step Done x going e = absurd cc
  stage_step Failed x going e = absurd cc

  -- the frames of a session of these cells: some were sent, and a puller sends the others
  pub record Sends (limit : ℕ) (p : Puller) (before : List (List ℕ)) : Type 0 where
    pub going : is_sending p.stage ≡ true
    pub all : sent_by s m ≡ before ++ stage_left m s p.stage
    pub count : p.sent ≡ length before
    pub none_taken : p.taken ≡ 0
    pub limit_is : p.limit ≡ limit
    pub few : length before ≤ limit

  abbrev after_stage : Puller → Stage × Option (List ℕ) → Result (Puller × Option (List ℕ)) GossipFault
  after_stage p next = unless TooManyFrames (is_some next.1 && nat_le p.limit p.sent)
      (Ok (record { stage = next.0; sent = count_with p.sent next.1; taken = p.taken; limit = p.limit }, next.1))

  -- what one call of a puller sends
  record PullerSends (p q : Puller) (o : Option (List ℕ)) : Type 0 where
    stage : StageSends m s p.stage q.stage o
    count : q.sent ≡ count_with p.sent o
    taken : q.taken ≡ p.taken
    limit : q.limit ≡ p.limit
    room : (is_some o && nat_le p.limit p.sent) ≡ false

  puller_step : (p q : Puller) (o : Option (List ℕ)) → is_sending p.stage ≡ true → puller_sends m s p ≡ Ok (q, o)
      → PullerSends p q o
  unfolding puller_sends
  puller_step p q o going e =
      let a = bind_ok (stage_sends m s p.stage) (after_stage p) (q, o) e in
      let next = a.0 in
      let b = unless_ok TooManyFrames (is_some next.1 && nat_le p.limit p.sent)
      (Ok (record { stage = next.0; sent = count_with p.sent next.1; taken = p.taken; limit = p.limit }, next.1))
      (q, o) a.2 in
      let is = ok_is {E = GossipFault} (
        record {
          stage = next.0;
          sent = count_with p.sent next.1;
          taken =
              p.taken;
          limit = p.limit;
        },
        next.1,
      ) (q, o) b.1 in
      subst (λ (y : Puller × Option (List ℕ)). PullerSends p y.0 y.1) is
      (record { stage = stage_step p.stage next going a.1; count = refl; taken = refl; limit = refl; room = b.0 })

  pub first_sends : (p : Puller) → p ≡ first_puller p.limit → Sends p.limit p []
  first_sends p is = record {
    going = ap (λ (y : Puller). is_sending y.stage) is;
    all = all_left ∙ ap (λ (y : Puller). stage_left m s y.stage) (sym is);
    count = ap (λ (y : Puller). y.sent) is;
    none_taken = ap (λ (y : Puller). y.taken) is;
    limit_is = refl;
    few = omega arith;
  }

  pub record OneSent (limit : ℕ) (p q : Puller) (before : List (List ℕ)) (frame : List ℕ) : Type 0 where
    pub sends : Sends limit q (before ++ frame ∷ [])
    pub left : List (List ℕ)
    pub all : sent_by s m ≡ before ++ frame ∷ left
    pub room : p.sent < p.limit
    pub few : length before < limit
    pub count : q.sent ≡ p.sent + 1
    pub limit_is : q.limit ≡ p.limit

  pub one_sent : (limit : ℕ) (p q : Puller) (before : List (List ℕ)) (frame : List ℕ) → Sends limit p before
      → puller_sends m s p ≡ Ok (q, Some frame) → OneSent limit p q before frame
  one_sent limit p q before frame sends e =
      let step = puller_step p q (Some frame) sends.going e in
      let left = stage_left m s q.stage in
      let all : sent_by s m ≡ before ++ frame ∷ left = sends.all ∙ ap (λ l. before ++ l) step.stage.0 in
      let count : q.sent ≡ p.sent + 1 = step.count in
      let room = leb-false p.limit p.sent step.room in
      let few : length before < limit = omega (arith, room, sends.count, sends.limit_is) in
      record {
        sends = record {
          going = step.stage.1;
          all = all ∙ sym (append_assoc before (frame ∷ []) left);
          count = omega (arith, count, sends.count, length-append before (frame ∷ []));
          none_taken = step.taken ∙ sends.none_taken;
          limit_is = step.limit ∙ sends.limit_is;
          few = omega (arith, few, length-append before (frame ∷ []));
        };
        left = left;
        all = all;
        room = room;
        few = few;
        count = count;
        limit_is = step.limit;
      }

  -- after the last frame it waits
  pub all_sent : (limit : ℕ) (p q : Puller) (before : List (List ℕ)) → Sends limit p before
      → puller_sends m s p ≡ Ok (q, None) → (sent_by s m ≡ before) × (q ≡ waiting (length (sent_by s m)) 0 limit)
  all_sent limit p q before sends e =
      let step = puller_step p q None sends.going e in
      let all : sent_by s m ≡ before = sends.all ∙ ap (λ (stage : Stage). before ++ stage_left m s stage) step.stage.0
      ∙ append-nil before in (
        all,
        λ i. record {
          stage = step.stage.1 i;
          sent = (step.count ∙ sends.count ∙ ap length (sym all)) i;
          taken = (step.taken ∙ sends.none_taken) i;
          limit = (step.limit ∙ sends.limit_is) i;
        },
      )

  -- why not all is sent
  stage_fault : (stage : Stage) (fault : GossipFault) → is_sending stage ≡ true → stage_sends m s stage ≡ Err fault → ⊥
  stage_fault Opening fault going e = absurd cc
  stage_fault (Listing after) fault going e = absurd cc
  stage_fault Waiting fault going e = absurd cc
  stage_fault Done fault going e = absurd cc
  stage_fault Failed fault going e = absurd cc

  too_many : (limit : ℕ) (p : Puller) (before : List (List ℕ)) (fault : GossipFault) (next : Stage × Option (List ℕ))
      → Sends limit p before → stage_sends m s p.stage ≡ Ok next → (b : Bool)
      → (is_some next.1 && nat_le p.limit p.sent) ≡ b
      → unless {A = Puller × Option (List ℕ)} TooManyFrames b
      (Ok (record { stage = next.0; sent = count_with p.sent next.1; taken = p.taken; limit = p.limit }, next.1))
      ≡ Err fault → (fault ≡ TooManyFrames) × (limit < length (sent_by s m))
  too_many limit p before fault next sends is false t e = absurd cc
  too_many limit p before fault (stage, None) sends is true t e = absurd cc
  too_many limit p before fault (stage, Some frame) sends is true t e =
      let step = stage_step p.stage (stage, Some frame) sends.going is in
      let full = leb-true p.limit p.sent t in
      let len : length (sent_by s m) ≡ length before + length (frame ∷ stage_left m s stage) =
      ap length (sends.all ∙ ap (λ l. before ++ l) step.0) ∙ length-append before (frame ∷ stage_left m s stage) in (
        sym (err_is {A = Puller × Option (List ℕ)} TooManyFrames fault e),
        omega (arith, full, len, sends.count, sends.limit_is),
      )

  pub cannot_send : (limit : ℕ) (p : Puller) (before : List (List ℕ)) (fault : GossipFault) → Sends limit p before
      → (fault ≡ Memory) ⊎ (puller_sends m s p ≡ Err fault) → CannotSend limit (sent_by s m) fault
  unfolding puller_sends
  cannot_send limit p before fault sends (inl memory) = inr (inl memory)
  cannot_send limit p before fault sends (inr e) = inr (inr (by_stage (stage_sends m s p.stage) refl))
    where
      by_stage : (r : Result (Stage × Option (List ℕ)) GossipFault) → stage_sends m s p.stage ≡ r
          → (fault ≡ TooManyFrames) × (limit < length (sent_by s m))
      by_stage (Ok next) is = too_many limit p before fault next sends is (is_some next.1 && nat_le p.limit p.sent) refl
          (sym (ap (λ r. r >>= after_stage p) is) ∙ e)
      by_stage (Err other) is = absurd (stage_fault p.stage other sends.going is)

  -- no writer is to blame for it
  pub not_written : (p : Puller) (fault : GossipFault) → (fault ≡ Memory) ⊎ (puller_sends m s p ≡ Err fault)
      → fault ≡ WriteFailed → ⊥
  unfolding puller_sends
  not_written p fault (inl memory) e = absurd (cc (sym memory ∙ e))
  not_written p fault (inr refused) e = by_stage (stage_sends m s p.stage) refl
    where
      by_test : (next : Stage × Option (List ℕ)) (b : Bool)
          → unless {A = Puller × Option (List ℕ)} TooManyFrames b
          (Ok (record { stage = next.0; sent = count_with p.sent next.1; taken = p.taken; limit = p.limit }, next.1))
          ≡ Err fault → ⊥
      by_test next true f = absurd (cc (err_is {A = Puller × Option (List ℕ)} TooManyFrames fault f ∙ e))
      by_test next false f = absurd cc

      by_own : (stage : Stage) → stage_sends m s stage ≡ Err fault → ⊥
      by_own Opening f = absurd cc
      by_own (Listing after) f = absurd cc
      by_own Waiting f = absurd cc
      by_own Done f = absurd cc
      by_own Failed f = absurd (cc (err_is {A = Stage × Option (List ℕ)} why.Failed fault f ∙ e))

      by_stage : (r : Result (Stage × Option (List ℕ)) GossipFault) → stage_sends m s p.stage ≡ r → ⊥
      by_stage (Ok next) is = by_test next (is_some next.1 && nat_le p.limit p.sent)
          (sym (ap (λ r. r >>= after_stage p) is) ∙ refused)
      by_stage (Err other) is = by_own p.stage (is ∙ ap Err
          (err_is {A = Puller × Option (List ℕ)} other fault (sym (ap (λ r. r >>= after_stage p) is) ∙ refused)))
