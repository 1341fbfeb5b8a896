-- What the side that pulls has joined after the frames of a reply.
use Rattle.std.proofs.Common.{◌≡◌, ℕ, zero, suc, ◌+◌, ◌<◌, ◌≤◌, Bool, true, false, not, List, [], ◌∷◌, ◌++◌, length, map, take, drop, Ok, append_assoc, refl, ap, ◌∙◌, arith}
use Rattle.std.specs.Prelude.{nat_le}
use Rattle.std.proofs.lemmas.List.{length-drop, take-append-drop}
use Rattle.rr_text.specs.declared.limits.TheConstants.{MAX_PAGE_CELLS}
use Rattle.rr_text.specs.Results.{◌>>=◌, unless}
use Rattle.rr_schema.specs.Schema.{Layout, IsLayout}
use Rattle.rr_page.specs.Page.{IsPage, page_text}
use Rattle.rr_page.specs.Version.{latest}
use Rattle.rr_page.proofs.HeadLemmas.{masks_wide}
use Rattle.rr_page.proofs.PageLemmas.{page_again}
use Rattle.rr_cells.specs.CellBounds.{NamedCell, IsCellOf}
use Rattle.std.specs.FinMap.{entries, entries_sorted, is_sorted}
use Rattle.std.proofs.lemmas.List.Elements.{All-from_recursion, recursion_from_All}
use Rattle.rr_join.proofs.Booleans.{true_from_T}
use Rattle.rr_cells.specs.CellNames.{cell_name_cmp}
use Rattle.std.specs.List.{AllByRecursion}
use Rattle.rr_delta.specs.Names.{IsNameOf, versions_of}
use Rattle.rr_delta.specs.Difference.{IsSummary, newer_cells}
use Rattle.rr_delta.proofs.HeldLemmas.{named_all}
use Rattle.rr_delta.proofs.Walks.{sorted_versions}
use Rattle.rr_gossip.specs.declared.giver.Stage.TheVariants.{Giving}
use Rattle.rr_gossip.proofs.SentLemmas.{pullers_send}
use Rattle.rr_delta.proofs.DifferenceLemmas.{newer_held, newer_sorted}
use Rattle.rr_delta.proofs.LawLemmas.{difference_brings_the_join}
use Rattle.rr_gossip.specs.declared.fault.GossipFault.TheVariants as why
use Rattle.rr_gossip.specs.declared.frame.Kind.{Kind}
use Rattle.rr_gossip.specs.declared.frame.Kind.TheVariants as kind
use Rattle.rr_gossip.specs.declared.frame.TheConstants.{MAX_FRAME_LEN}
use Rattle.rr_gossip.specs.declared.puller.Puller.{Puller}
use Rattle.rr_gossip.specs.declared.puller.Stage.{Stage}
use Rattle.rr_gossip.specs.declared.puller.Stage.TheVariants.{Waiting, Done}
use Rattle.rr_gossip.specs.Fault.{as_body}
use Rattle.rr_gossip.specs.Frame.{content_text, frame_text}
use Rattle.rr_gossip.specs.Pages.{AreLeft}
use Rattle.rr_gossip.specs.Puller.{Taken, awaits, page_taken, end_taken, body_taken, puller_takes}
use Rattle.rr_gossip.specs.Transcript.{pieces, contents, frames_of_names, reply, waiting, puller_after, PullersTake, SessionsBringTheJoin}
use Rattle.rr_gossip.proofs.LengthLemmas.{page_fits}
use Rattle.rr_gossip.proofs.PagesLemmas.{left_page, left_after}
use Rattle.rr_gossip.proofs.ReplyLemmas.{under, givers_reply}
use Rattle.rr_gossip.proofs.TakenLemmas.{content_is, frame_read, givers_take}

module _ (s : Layout) (is : IsLayout s) (before limit : ℕ) where
  at : Stage → ℕ → Puller
  at stage taken = record { stage = stage; sent = before; taken = taken; limit = limit }

  one_taken : (next : Stage) (es : List NamedCell) (k : Kind) (body : List ℕ) (last : Bool) (taken : ℕ)
      → awaits Waiting k ≡ true → taken < limit → length body < MAX_FRAME_LEN
      → body_taken s k body ≡ Ok ((next, es), last)
      → puller_takes s (at Waiting taken) (content_text k body) ≡ Ok ((at next (taken + 1), es), last)
  unfolding puller_takes at
  one_taken next es k body last taken due room short takes =
      ap (λ r. r >>= λ (frame : Kind × List ℕ). unless why.UnexpectedFrame (not (awaits Waiting frame.0))
      (unless why.TooManyFrames (nat_le limit taken) (body_taken s frame.0 frame.1)) >>= λ (x : Taken). Ok
      ((record { stage = x.0.0; sent = before; taken = taken + 1; limit = limit }, x.0.1), x.1))
      (frame_read k body short)
      ∙ ap (λ b. unless why.UnexpectedFrame (not b)
      (unless why.TooManyFrames (nat_le limit taken) (body_taken s k body)) >>= λ (x : Taken). Ok
      ((record { stage = x.0.0; sent = before; taken = taken + 1; limit = limit }, x.0.1), x.1)) due
      ∙ ap (λ b. unless why.TooManyFrames b (body_taken s k body) >>= λ (x : Taken). Ok
      ((record { stage = x.0.0; sent = before; taken = taken + 1; limit = limit }, x.0.1), x.1))
      (under taken limit room)
      ∙ ap (λ r. r >>= λ (x : Taken). Ok (
        (
          record { stage = x.0.0; sent = before; taken = taken + 1; limit = limit },
          x.0.1,
        ),
        x.1,
      )) takes

  then : (next : Stage) (es : List NamedCell) (k : Kind) (body : List ℕ) (last : Bool) (taken : ℕ)
      (had : List NamedCell) (others : List (List ℕ)) (end : Puller × List NamedCell) → awaits Waiting k ≡ true
      → taken < limit → length body < MAX_FRAME_LEN → body_taken s k body ≡ Ok ((next, es), last)
      → puller_after s (at next (taken + 1)) (had ++ es) others ≡ Ok end
      → puller_after s (at Waiting taken) had (drop 4 (frame_text k body) ∷ others) ≡ Ok end
  unfolding puller_after
  then next es k body last taken had others end due room short takes rest =
      ap (λ c. puller_takes s (at Waiting taken) c >>= λ (x : (Puller × List NamedCell) × Bool). puller_after s x.0.0
      (had ++ x.0.1) others) (content_is k body)
      ∙ ap (λ r. r >>= λ (x : (Puller × List NamedCell) × Bool). puller_after s x.0.0 (had ++ x.0.1) others)
      (one_taken next es k body last taken due room short takes)
      ∙ rest

  page : (es : List NamedCell) → IsPage s es → body_taken s kind.Page (page_text latest s es)
      ≡ Ok ((Waiting, es), false)
  unfolding page_taken
  page es h = ap (λ r. as_body r >>= λ (fs : List NamedCell). Ok ((Waiting, fs), false))
      (page_again s (page_text latest s es) es is h (record { version = latest; wide = masks_wide s is; text = refl }))

  page_end : body_taken s kind.PageEnd [] ≡ Ok ((Done, []), true)
  unfolding end_taken
  page_end = refl

  abbrev pages : ℕ → List NamedCell → List (List ℕ)
  pages k es = map (λ piece. frame_text kind.Page (page_text latest s piece)) (pieces k MAX_PAGE_CELLS es)
      ++ frame_text kind.PageEnd [] ∷ []

  nothing_more : (p : Puller) (had : List NamedCell) → puller_after s p (had ++ []) [] ≡ Ok (p, had ++ [])
  unfolding puller_after
  nothing_more p had = refl

  at_the_end : (had : List NamedCell) (taken : ℕ) → taken + 1 ≤ limit
      → puller_after s (at Waiting taken) had (contents (frame_text kind.PageEnd [] ∷ []))
      ≡ Ok (at Done (taken + 1), had ++ [])
  at_the_end had taken room = then Done [] kind.PageEnd [] true taken had [] _ refl (omega arith) (omega arith) page_end
      (nothing_more (at Done (taken + 1)) had)

  takes_pages : (k : ℕ) (es had : List NamedCell) (taken : ℕ) → length es ≤ k → AreLeft (s, es)
      → taken + length (pages k es) ≤ limit → puller_after s (at Waiting taken) had (contents (pages k es))
      ≡ Ok (at Done (taken + length (pages k es)), had ++ es)
  unfolding pieces
  takes_pages zero [] had taken few left room = at_the_end had taken room
  takes_pages zero (e ∷ es) had taken few left room = absurd (omega arith)
  takes_pages (suc k) [] had taken few left room = at_the_end had taken room
  takes_pages (suc k) (e ∷ es) had taken few left room =
      let piece = take MAX_PAGE_CELLS (e ∷ es) in
      let others = drop MAX_PAGE_CELLS (e ∷ es) in
      let less = length-drop MAX_PAGE_CELLS (e ∷ es) in
      let is_page = left_page s (e ∷ es) left in
      then Waiting piece kind.Page (page_text latest s piece) false taken had (contents (pages k others)) _ refl
      (omega arith) (page_fits s piece is is_page) (page piece is_page)
      (takes_pages k others (had ++ piece) (taken + 1) (omega arith) (left_after s (e ∷ es) left) (omega arith)
      ∙ (λ i. Ok (
        at Done (one_later taken (length (pages k others)) i),
        (append_assoc had piece others ∙ ap (λ (l : List NamedCell). had ++ l)
            (take-append-drop MAX_PAGE_CELLS (e ∷ es))) i,
      )))
    where
      one_later : (a b : ℕ) → a + 1 + b ≡ a + suc b
      one_later a b = omega arith

pub pullers_take : PullersTake
unfolding at
pullers_take s had es before taken limit is left room =
    takes_pages s is before limit (length es) es had taken (omega arith) left room

pub sessions_bring_the_join : SessionsBringTheJoin
sessions_bring_the_join s m given limit is trimmed each each_given agree room room_back =
    let vs = versions_of m in
    let es = newer_cells vs (entries given) in
    let all : AllByRecursion (IsNameOf s) vs = named_all s (entries m)
    (recursion_from_All (IsCellOf s) (entries m) each) in
    let ascend : IsSummary vs = true_from_T (is_sorted cell_name_cmp vs)
    (sorted_versions (entries m) (entries_sorted m)) in
    let left : AreLeft (s, es) = record {
      cells = All-from_recursion (IsCellOf s) es (newer_held s vs (entries given)
          (recursion_from_All (IsCellOf s) (entries given) each_given));
      names_ascend = true_from_T (is_sorted cell_name_cmp es) (newer_sorted vs (entries given) (entries_sorted given));
    } in (
      record {
        puller = waiting (length (frames_of_names s vs)) 0 limit;
        frames = frames_of_names s vs;
        is_sent = pullers_send s m limit limit room room;
        giver = record { stage = Giving (s, es); sent = 0; taken = length (frames_of_names s vs); limit = limit };
        is_heard = givers_take s given vs limit is (All-from_recursion (IsNameOf s) vs all) ascend room;
        pages = reply s es;
        is_replied = givers_reply s es 0 (length (frames_of_names s vs)) limit limit (omega (arith, room_back))
            room_back;
        last = record {
          stage = Done;
          sent = length (frames_of_names s vs);
          taken = 0 + length (reply s es);
          limit =
              limit;
        };
        is_taken = pullers_take s [] es (length (frames_of_names s vs)) 0 limit is left (omega (arith, room_back));
      },
      difference_brings_the_join s given m is trimmed agree,
    )
