-- What the two sides are after the frames of a session.
use Rattle.std.proofs.Common.{◌≡◌, ℕ, zero, suc, ◌+◌, ◌<◌, ◌≤◌, Bool, true, false, not, T, List, [], ◌∷◌, ◌++◌, length, map, take, drop, Some, Ok, refl, sym, ap, subst, ◌∙◌, append_assoc, arith, All}
use Rattle.std.specs.Prelude.{nat_le, ◌&&◌}
use Rattle.std.specs.Cmp.Lexicographic.{bytes_decides}
use Rattle.std.specs.FinMap.{entries, is_sorted}
use Rattle.std.specs.FinMap.Entries.{below_all}
use Rattle.std.specs.Ordering.{is_lt}
use Rattle.std.proofs.lemmas.List.{append-nil, length-drop, length-take, take-append-drop}
use Rattle.std.proofs.lemmas.List.Elements.{All-drop, All-take, recursion_from_All}
use Rattle.rr_text.specs.Results.{◌>>=◌, unless}
use Rattle.rr_schema.specs.Schema.{Layout, IsLayout}
use Rattle.rr_schema.specs.SchemaBytes.{schema_bytes}
use Rattle.rr_delta.specs.Difference.{newer_cells}
use Rattle.rr_delta.specs.Names.{NamedVersion, IsNameOf}
use Rattle.rr_join.proofs.Booleans.{first_T, second_T, T_and, true_from_T, T_from_true}
use Rattle.rr_cells.specs.CellNames.{CellName, cell_name_cmp}
use Rattle.rr_page.specs.PageReading.{is_after}
use Rattle.rr_cells.specs.Cells.{Cells}
use Rattle.rr_gossip.specs.declared.fault.GossipFault.TheVariants as why
use Rattle.rr_gossip.specs.declared.frame.Kind.{Kind}
use Rattle.rr_gossip.specs.declared.frame.Kind.TheVariants as kind
use Rattle.rr_gossip.specs.declared.frame.TheConstants.{MAX_FRAME_LEN}
use Rattle.rr_gossip.specs.declared.giver.Giver.{Giver}
use Rattle.rr_gossip.specs.declared.giver.Stage.{Stage}
use Rattle.rr_gossip.specs.declared.giver.Stage.TheVariants.{Opening, Listing, Giving}
use Rattle.rr_gossip.specs.declared.summary.TheConstants.{MAX_ENTRIES}
use Rattle.rr_gossip.specs.Fault.{as_body}
use Rattle.rr_gossip.specs.Frame.{content_at, content_text, frame_text}
use Rattle.rr_gossip.specs.Giver.{hello_taken, summary_taken, end_taken, body_taken, giver_takes, has_failed, is_due}
use Rattle.rr_gossip.specs.Summary.{summary_text, is_rising, last_name, IsPiece}
use Rattle.rr_gossip.specs.Transcript.{pieces, contents, giver_after, GiversTake}
use Rattle.rr_gossip.proofs.FrameLemmas.{frames_are_their_text}
use Rattle.rr_gossip.proofs.LengthLemmas.{schema_fits, summary_len}
use Rattle.rr_gossip.proofs.ReplyLemmas.{under}
use Rattle.rr_gossip.proofs.SummaryLemmas.{last_name_push, summary_again}

-- ---- frames

-- what follows the length of a frame
pub content_is : (k : Kind) (body : List ℕ) → drop 4 (frame_text k body) ≡ content_text k body
unfolding frame_text
content_is k body = refl

-- a frame that is not too long is read
pub frame_read : (k : Kind) (body : List ℕ) → length body < MAX_FRAME_LEN
    → content_at (content_text k body) ≡ Ok (k, body)
frame_read k body short = (frames_are_their_text (content_text k body) k body).1 (refl, omega (arith, short))

-- ---- names in pieces

after_last : (old : List NamedVersion) (v : NamedVersion) (vs : List NamedVersion)
    → T (is_sorted cell_name_cmp (old ++ v ∷ vs)) → is_after (last_name old) v.0 ≡ true
after_last [] v vs h = refl
after_last (x ∷ []) v vs h = true_from_T _ (first_T (is_lt (cell_name_cmp x.0 v.0)) (below_all cell_name_cmp x.0 vs)
    (first_T (below_all cell_name_cmp x.0 (v ∷ vs)) (is_sorted cell_name_cmp (v ∷ vs)) h))
after_last (x ∷ y ∷ old) v vs h = after_last (y ∷ old) v vs
    (second_T (below_all cell_name_cmp x.0 (y ∷ old ++ v ∷ vs)) (is_sorted cell_name_cmp (y ∷ old ++ v ∷ vs)) h)

rising_after : (old vs : List NamedVersion) → T (is_sorted cell_name_cmp (old ++ vs))
    → is_rising (last_name old) vs ≡ true
rising_after old [] h = refl
rising_after old (v ∷ vs) h =
    let rest = rising_after (old ++ v ∷ []) vs (subst (λ l. T (is_sorted cell_name_cmp l))
    (sym (append_assoc old (v ∷ []) vs)) h) in
    (λ i. after_last old v vs h i && is_rising (Some v.0) vs) ∙ ap (λ o. is_rising o vs) (sym (last_name_push old v))
    ∙ rest

below_prefix : (n : CellName) (xs ys : List NamedVersion) → T (below_all cell_name_cmp n (xs ++ ys))
    → T (below_all cell_name_cmp n xs)
below_prefix n [] ys h = tt
below_prefix n (x ∷ xs) ys h = T_and (is_lt (cell_name_cmp n x.0)) (below_all cell_name_cmp n xs)
    (first_T (is_lt (cell_name_cmp n x.0)) (below_all cell_name_cmp n (xs ++ ys)) h)
    (below_prefix n xs ys (second_T (is_lt (cell_name_cmp n x.0)) (below_all cell_name_cmp n (xs ++ ys)) h))

-- the first of names that ascend do
sorted_prefix : (xs ys : List NamedVersion) → T (is_sorted cell_name_cmp (xs ++ ys)) → T (is_sorted cell_name_cmp xs)
sorted_prefix [] ys h = tt
sorted_prefix (x ∷ xs) ys h = T_and (below_all cell_name_cmp x.0 xs) (is_sorted cell_name_cmp xs)
    (below_prefix x.0 xs ys (first_T (below_all cell_name_cmp x.0 (xs ++ ys)) (is_sorted cell_name_cmp (xs ++ ys)) h))
    (sorted_prefix xs ys (second_T (below_all cell_name_cmp x.0 (xs ++ ys)) (is_sorted cell_name_cmp (xs ++ ys)) h))

-- ---- the side that gives

module _ (m : Cells) (s : Layout) (is : IsLayout s) (limit : ℕ) where
  at : Stage → ℕ → Giver
  at stage taken = record { stage = stage; sent = 0; taken = taken; limit = limit }

  -- a frame that is due, and then others
  one_taken : (stage next : Stage) (k : Kind) (body : List ℕ) (last : Bool) (taken : ℕ) → has_failed stage ≡ false
      → is_due stage k ≡ true → taken < limit → length body < MAX_FRAME_LEN
      → body_taken m s stage k body ≡ Ok (next, last)
      → giver_takes m s (at stage taken) (content_text k body) ≡ Ok (at next (taken + 1), last)
  unfolding giver_takes at
  one_taken stage next k body last taken well due room short takes =
      ap (λ b. unless why.Failed b (content_at (content_text k body)) >>= λ (frame : Kind × List ℕ). unless
      why.UnexpectedFrame (not (is_due stage frame.0))
      (unless why.TooManyFrames (nat_le limit taken) (body_taken m s stage frame.0 frame.1)) >>=
      λ (x : Stage × Bool). Ok (record { stage = x.0; sent = 0; taken = taken + 1; limit = limit }, x.1)) well
      ∙ ap (λ r. r >>= λ (frame : Kind × List ℕ). unless why.UnexpectedFrame (not (is_due stage frame.0))
      (unless why.TooManyFrames (nat_le limit taken) (body_taken m s stage frame.0 frame.1)) >>=
      λ (x : Stage × Bool). Ok (record { stage = x.0; sent = 0; taken = taken + 1; limit = limit }, x.1))
      (frame_read k body short)
      ∙ ap (λ b. unless why.UnexpectedFrame (not b)
      (unless why.TooManyFrames (nat_le limit taken) (body_taken m s stage k body)) >>= λ (x : Stage × Bool). Ok
      (record { stage = x.0; sent = 0; taken = taken + 1; limit = limit }, x.1)) due
      ∙ ap (λ b. unless why.TooManyFrames b (body_taken m s stage k body) >>= λ (x : Stage × Bool). Ok
      (record { stage = x.0; sent = 0; taken = taken + 1; limit = limit }, x.1)) (under taken limit room)
      ∙ ap (λ r. r >>= λ (x : Stage × Bool). Ok (
        record { stage = x.0; sent = 0; taken = taken + 1; limit = limit },
        x.1,
      )) takes

  then : (stage next : Stage) (k : Kind) (body : List ℕ) (last : Bool) (taken : ℕ) (others : List (List ℕ))
      (end : Giver) → has_failed stage ≡ false → is_due stage k ≡ true → taken < limit → length body < MAX_FRAME_LEN
      → body_taken m s stage k body ≡ Ok (next, last)
      → giver_after m s (at next (taken + 1)) others ≡ Ok end
      → giver_after m s (at stage taken) (drop 4 (frame_text k body) ∷ others) ≡ Ok end
  unfolding giver_after
  then stage next k body last taken others end well due room short takes rest =
      ap (λ c. giver_takes m s (at stage taken) c >>= λ (x : Giver × Bool). giver_after m s x.0 others)
      (content_is k body)
      ∙ ap (λ r. r >>= λ (x : Giver × Bool). giver_after m s x.0 others)
      (one_taken stage next k body last taken well due room short takes)
      ∙ rest

  hello : body_taken m s Opening kind.Hello (schema_bytes s) ≡ Ok (Listing [], false)
  unfolding hello_taken
  hello = ap (λ b. unless why.SchemaDiffers (not b) (Ok (Listing [])) >>= λ (stage : Stage). Ok (stage, false))
      ((bytes_decides (schema_bytes s) (schema_bytes s)).1 refl)

  summary : (old piece : List NamedVersion) → IsPiece s (last_name old) piece
      → body_taken m s (Listing old) kind.Summary (summary_text piece) ≡ Ok (Listing (old ++ piece), false)
  unfolding summary_taken
  summary old piece h = ap (λ r. (as_body r >>= (λ (names : List NamedVersion). Ok (Listing names))) >>=
      (λ (stage : Stage). Ok (stage, false))) (summary_again s old piece is h)

  summary_end : (vs : List NamedVersion) → body_taken m s (Listing vs) kind.SummaryEnd []
      ≡ Ok (Giving (s, newer_cells vs (entries m)), true)
  unfolding end_taken
  summary_end vs = refl

  abbrev names : ℕ → List NamedVersion → List (List ℕ)
  names k vs = map (λ piece. frame_text kind.Summary (summary_text piece)) (pieces k MAX_ENTRIES vs)
      ++ frame_text kind.SummaryEnd [] ∷ []

  nothing_more : (g : Giver) → giver_after m s g [] ≡ Ok g
  unfolding giver_after
  nothing_more g = refl

  at_the_end : (old : List NamedVersion) (taken : ℕ) → taken + 1 ≤ limit
      → giver_after m s (at (Listing old) taken) (contents (frame_text kind.SummaryEnd [] ∷ []))
      ≡ Ok (at (Giving (s, newer_cells old (entries m))) (taken + 1))
  at_the_end old taken room = then (Listing old) (Giving (s, newer_cells old (entries m))) kind.SummaryEnd [] true taken
      [] _ refl refl (omega arith) (omega arith) (summary_end old)
      (nothing_more (at (Giving (s, newer_cells old (entries m))) (taken + 1)))

  takes_names : (k : ℕ) (old left : List NamedVersion) (taken : ℕ) → length left ≤ k → All (IsNameOf s) left
      → T (is_sorted cell_name_cmp (old ++ left)) → taken + length (names k left) ≤ limit
      → giver_after m s (at (Listing old) taken) (contents (names k left))
      ≡ Ok (at (Giving (s, newer_cells (old ++ left) (entries m))) (taken + length (names k left)))
  unfolding pieces
  takes_names zero old [] taken few all sorted room = at_the_end old taken room
      ∙ ap (λ l. Ok (at (Giving (s, newer_cells l (entries m))) (taken + 1))) (sym (append-nil old))
  takes_names zero old (v ∷ vs) taken few all sorted room = absurd (omega arith)
  takes_names (suc k) old [] taken few all sorted room = at_the_end old taken room
      ∙ ap (λ l. Ok (at (Giving (s, newer_cells l (entries m))) (taken + 1))) (sym (append-nil old))
  takes_names (suc k) old (v ∷ vs) taken few all sorted room =
      let piece = take MAX_ENTRIES (v ∷ vs) in
      let left = drop MAX_ENTRIES (v ∷ vs) in
      let less = length-drop MAX_ENTRIES (v ∷ vs) in
      let many = length-take MAX_ENTRIES (v ∷ vs) in
      let parts : (old ++ piece) ++ left ≡ old ++ (v ∷ vs) = append_assoc old piece left
      ∙ ap (λ l. old ++ l) (take-append-drop MAX_ENTRIES (v ∷ vs)) in
      let sorted_parts = subst (λ l. T (is_sorted cell_name_cmp l)) (sym parts) sorted in
      let names_all = All-take (IsNameOf s) MAX_ENTRIES (v ∷ vs) all in
      let is_piece : IsPiece s (last_name old) piece =
      record {
        some = omega arith;
        few = omega arith;
        names = names_all;
        rising =
            rising_after old piece (sorted_prefix (old ++ piece) left sorted_parts);
      } in
      let short = summary_len s piece (omega arith) (recursion_from_All (IsNameOf s) piece names_all) in
      then (Listing old) (Listing (old ++ piece)) kind.Summary (summary_text piece) false taken
      (contents (names k left)) _ refl refl (omega arith) short (summary old piece is_piece)
      (takes_names k (old ++ piece) left (taken + 1) (omega arith) (All-drop (IsNameOf s) MAX_ENTRIES (v ∷ vs) all)
      sorted_parts (omega arith)
      ∙ (λ i. Ok (at (Giving (s, newer_cells (parts i) (entries m))) (one_later taken (length (names k left)) i))))
    where
      one_later : (a b : ℕ) → a + 1 + b ≡ a + suc b
      one_later a b = omega arith

pub givers_take : GiversTake
unfolding at
givers_take s m vs limit is all ascend room =
    then m s is limit Opening (Listing []) kind.Hello (schema_bytes s) false 0
    (contents (names m s is limit (length vs) vs)) _ refl refl (omega arith) (schema_fits s is) (hello m s is limit)
    (takes_names m s is limit (length vs) [] vs 1 (omega arith) all (T_from_true (is_sorted cell_name_cmp vs) ascend)
    (omega arith)
    ∙ ap (λ n. Ok (at m s is limit (Giving (s, newer_cells vs (entries m))) n))
    (one_first (length (names m s is limit (length vs) vs))))
  where
    one_first : (n : ℕ) → 1 + n ≡ suc n
    one_first n = omega arith
