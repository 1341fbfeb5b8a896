-- A pull and the give that answers it.
use Rattle.std.proofs.Common.{◌≡◌, ◌⊎◌, inl, inr, append_assoc, ℕ, ◌+◌, Bool, List, [], ◌∷◌, ◌++◌, length, drop, Option, None, Some, Ok, refl, sym, ap, subst, ◌∙◌, arith, drop_at}
use Rattle.std.specs.FinMap.{entries, entries_sorted, is_sorted}
use Rattle.std.specs.List.{concat, AllByRecursion}
use mathlib.Core.List.{IsPrefix}
use Rattle.std.proofs.lemmas.List.{append-nil, map-append}
use Rattle.std.proofs.lemmas.List.Elements.{All-from_recursion, All-push, recursion_from_All}
use Rattle.rr_text.specs.Results.{◌>>=◌}
use Rattle.rr_schema.specs.Schema.{Layout, IsLayout}
use Rattle.rr_delta.specs.Difference.{IsSummary, newer_cells}
use Rattle.rr_delta.specs.Names.{IsNameOf, NamedVersion, versions_of}
use Rattle.rr_delta.proofs.HeldLemmas.{named_all}
use Rattle.rr_delta.proofs.LawLemmas.{difference_brings_the_join, knowledges_agree}
use Rattle.rr_delta.proofs.Walks.{sorted_versions}
use Rattle.rr_join.proofs.Booleans.{true_from_T}
use Rattle.rr_cells.specs.CellNames.{cell_name_cmp}
use Rattle.rr_cells.specs.CellBounds.{NamedCell, IsCellOf}
use Rattle.rr_cells.specs.Cells.{Cells}
use Rattle.rr_cells.specs.Joins.{join_cells}
use Rattle.rr_cells.specs.State.{cells_of_knowledge}
use Rattle.rr_cells.proofs.JoinLaws.{join_unites}
use Rattle.rr_cells.proofs.States.{state_is_trimmed}
use Rattle.rr_gossip.specs.declared.fault.GossipFault.{GossipFault}
use Rattle.rr_gossip.specs.declared.fault.GossipFault.TheVariants.{Memory}
use Rattle.rr_gossip.specs.declared.giver.Giver.{Giver}
use Rattle.rr_gossip.specs.declared.giver.Stage.{Stage}
use Rattle.rr_gossip.specs.declared.giver.Stage.TheVariants as stage
use Rattle.rr_gossip.specs.declared.puller.Puller.{Puller}
use Rattle.rr_gossip.specs.declared.puller.Stage.TheVariants as puller
use Rattle.rr_gossip.specs.Giver.{first_giver}
use Rattle.rr_gossip.specs.Pages.{AreLeft}
use Rattle.rr_gossip.specs.Puller.{ArePrefix, puller_takes}
use Rattle.rr_gossip.specs.Session.{GivesAnswer, GivesHearTheNames, HasPulled, PullsBringTheDifference, PullsBringTheJoin, PullsTakeTheReply, PullsUnite, StoppedPullsTakeAPrefix, is_giving, replied_by, sent_by}
use Rattle.rr_gossip.specs.Stream.{IsFrame, WasRead}
use Rattle.rr_gossip.specs.Transcript.{contents, giver_after, puller_after, reply, frames_of_names, waiting}
use Rattle.rr_gossip.proofs.HeardLemmas as giver
use Rattle.rr_gossip.proofs.JoinedLemmas.{pullers_take}
use Rattle.rr_gossip.proofs.LastFrameLemmas.{giver_once, puller_alone, puller_append, puller_once}
use Rattle.rr_gossip.proofs.OnceLemmas.{GoesOn, cut_once, reply_are, sent_are}
use Rattle.rr_gossip.proofs.ReadLemmas.{frame_taken}
use Rattle.rr_gossip.proofs.SendLemmas.{concat_more}
use Rattle.rr_gossip.proofs.StepLemmas as step
use Rattle.rr_gossip.proofs.StepLemmas.{bind_ok, ok_is}
use Rattle.rr_gossip.proofs.TakenLemmas.{givers_take}

-- ---- what was read of known bytes

-- frames were read of a stream, whose rest is left
record ReadOf (all : List ℕ) (left : Option (List ℕ)) (frames : List (List ℕ)) : Type 0 where
  rest : List ℕ
  left_is : left ≡ Some rest
  parts : all ≡ concat frames ++ rest

read_of : (all : List ℕ) (left : Option (List ℕ)) (frames : List (List ℕ)) → WasRead [] (Some all) left frames []
    → ReadOf all left frames
read_of all None frames r = absurd r.consumed
read_of all (Some rest) frames r = record {
  rest = rest;
  left_is = refl;
  parts = r.consumed
      ∙ ap (λ l. l ++ rest) (r.cut ∙ append-nil (concat frames));
}

-- the same frames leave the same rest
left_behind : (all : List ℕ) (left : Option (List ℕ)) (frames gs : List (List ℕ)) (more : List ℕ)
    (r : ReadOf all left frames) → frames ≡ gs → all ≡ concat gs ++ more → left ≡ Some more
left_behind all left frames gs more r same is =
    let e : concat gs ++ r.rest ≡ concat gs ++ more = ap (λ l. concat l ++ r.rest) (sym same) ∙ sym r.parts ∙ is in
    r.left_is ∙ ap (λ l. Some l) (sym (drop_at (concat gs) r.rest (length (concat gs)) refl)
    ∙ ap (drop (length (concat gs))) e ∙ drop_at (concat gs) more (length (concat gs)) refl)

-- ---- the laws

answer_text : (s : Layout) (names : List NamedVersion) (m : Cells)
    → concat (replied_by s names m) ≡ concat (reply s (newer_cells names (entries m)))
unfolding replied_by
answer_text s names m = refl

cells_given : Stage → List NamedCell
cells_given stage.Opening = []
cells_given (stage.Listing names) = []
cells_given (stage.Giving left) = left.1
cells_given stage.Done = []
cells_given stage.Failed = []

pub gives_hear_the_names : GivesHearTheNames
unfolding cells_given
gives_hear_the_names s m names limit last more left is all ascend heard =
    let frames = frames_of_names s names in
    let n = limit + length frames in
    let r = read_of (concat frames ++ more) left heard.frames heard.read in
    let expected : giver_after m s (first_giver n) (contents frames)
    ≡ Ok (record {
      stage = stage.Giving (s, newer_cells names (entries m));
      sent = 0;
      taken = length frames;
      limit =
          n;
    }) = givers_take s m names n is all ascend (omega arith) in
    let once = giver_once m s (first_giver n) (giver.raised n last)
    (record { stage = stage.Giving (s, newer_cells names (entries m)); sent = 0; taken = length frames; limit = n })
    heard.frames frames
    (giver.after_raised n m s (first_giver limit) last (contents heard.frames) (omega arith) heard.taken)
    (ap is_giving heard.giving) expected refl
    (cut_once heard.frames frames r.rest more (recursion_from_All IsFrame heard.frames heard.read.each)
    (sent_are s is names all) (sym r.parts)) in (
      ap cells_given (sym heard.giving ∙ ap (λ (g : Giver). g.stage) once.1),
      left_behind (concat frames ++ more) left heard.frames frames more r once.0 refl,
    )

pub gives_answer : GivesAnswer
unfolding replied_by
gives_answer s m names limit answer more left is all ascend given =
    let heard = gives_hear_the_names s m names limit given.last more left is all ascend given.heard in (
      given.replied ∙ ap (λ es. concat (reply s es)) heard.0,
      heard.1,
      subst (λ (es : List NamedCell). AreLeft (s, es)) heard.0 given.heard.fits,
    )

-- what a puller has is a beginning of what it has after more frames
begins : (s : Layout) (p : Puller) (had : List NamedCell) (cs : List (List ℕ)) (x : Puller × List NamedCell)
    → puller_after s p had cs ≡ Ok x → IsPrefix had x.1
unfolding puller_after
begins s p had [] x e = (
  [],
  append-nil had ∙ ap (λ (y : Puller × List NamedCell). y.1)
      (ok_is {E = GossipFault} (p, had) x e),
)
begins s p had (c ∷ cs) x e =
    let one = bind_ok (puller_takes s p c) (λ (next : (Puller × List NamedCell) × Bool). puller_after s next.0.0
    (had ++ next.0.1) cs) x e in
    let later = begins s one.0.0.0 (had ++ one.0.0.1) cs x one.2 in
    (one.0.0.1 ++ later.0, sym (append_assoc had one.0.0.1 later.0) ∙ later.1)

-- frames at the beginning of a reply have the first of its cells
prefix_taken : (s : Layout) (es : List NamedCell) (n limit : ℕ) (frames : List (List ℕ)) (x : Puller × List NamedCell)
    (rest more : List ℕ) → IsLayout s → AreLeft (s, es)
    → AllByRecursion IsFrame frames → concat frames ++ rest ≡ concat (reply s es) ++ more
    → puller_after s (waiting n 0 limit) [] (contents frames) ≡ Ok x → IsPrefix x.1 es
prefix_taken s es n limit frames x rest more is fits each parts taken =
    by (cut_once frames whole rest more each (reply_are s is es fits) parts)
  where
    whole : List (List ℕ)
    whole = reply s es

    room : ℕ
    room = limit + length whole

    end : Puller
    end = record { stage = puller.Done; sent = n; taken = 0 + length whole; limit = room }

    expected : puller_after s (waiting n 0 room) [] (contents whole) ≡ Ok (end, es)
    expected = pullers_take s [] es n 0 room is fits (omega arith)

    mine : puller_after s (waiting n 0 room) [] (contents frames) ≡ Ok (step.raised room x.0, x.1)
    mine = step.after_raised room s (waiting n 0 limit) [] x (contents frames) (omega arith) taken

    by : GoesOn frames whole → IsPrefix x.1 es
    by (inl more) =
        let alone = puller_alone s (waiting n 0 room) [] (end, es) (step.raised room x.0, x.1) whole more.0 expected
        refl (ap (λ (l : List (List ℕ)). puller_after s (waiting n 0 room) [] (contents l)) (sym more.1) ∙ mine) in
        ([], append-nil x.1 ∙ sym (ap (λ (y : Puller × List NamedCell). y.1) alone.1))
    by (inr more) =
        begins s (step.raised room x.0) x.1 (contents more.0) (end, es)
        (sym (ap (λ y. y >>= λ (z : Puller × List NamedCell). puller_after s z.0 z.1 (contents more.0)) mine)
        ∙ sym (puller_append s (waiting n 0 room) [] (contents frames) (contents more.0))
        ∙ ap (puller_after s (waiting n 0 room) []) (sym (map-append (drop 4) frames more.0))
        ∙ ap (λ (l : List (List ℕ)). puller_after s (waiting n 0 room) [] (contents l)) (sym more.1)
        ∙ expected)

pub stopped_pulls_take_a_prefix : StoppedPullsTakeAPrefix
stopped_pulls_take_a_prefix s es cells n limit came lost more None fault is fits same stopped =
    absurd stopped.read.consumed
stopped_pulls_take_a_prefix s es cells n limit came lost more (Some rest) fault is fits same stopped = by stopped.joined
  where
    frames : List (List ℕ)
    frames = stopped.frames

    piece : List ℕ
    piece = stopped.piece

    each : AllByRecursion IsFrame frames
    each = recursion_from_All IsFrame frames stopped.read.each

    behind : List ℕ
    behind = rest ++ lost

    parts : concat frames ++ (piece ++ behind) ≡ concat (reply s es) ++ more
    parts =
        sym (append_assoc (concat frames) piece behind)
        ∙ ap (λ (l : List ℕ). l ++ behind) (sym stopped.read.cut)
        ∙ sym (append_assoc stopped.read.bytes rest lost)
        ∙ ap (λ (l : List ℕ). l ++ lost) (sym stopped.read.consumed)
        ∙ same

    by : (cells ≡ stopped.pages) ⊎ ((fault ≡ Memory) × IsFrame piece
        × ((prefix : List NamedCell) × ArePrefix prefix (puller_takes s stopped.last (drop 4 piece))
        × (cells ≡ stopped.pages ++ prefix))) → IsPrefix cells es
    by (inl all) = subst (λ (l : List NamedCell). IsPrefix l es) (sym all)
        (prefix_taken s es n limit frames (stopped.last, stopped.pages) (piece ++ behind) more is fits each parts
        stopped.taken)
    by (inr (memory, frame, (prefix, of, all))) =
        let next = of.found in
        let taken = frame_taken s (waiting n 0 limit) stopped.last next.0.0 [] stopped.pages frames piece next.0.1
        next.1 stopped.taken of.is_read in
        let longer : concat (frames ++ piece ∷ []) ++ behind ≡ concat (reply s es) ++ more =
        ap (λ (l : List ℕ). l ++ behind) (concat_more frames piece) ∙ append_assoc (concat frames) piece behind
        ∙ parts in
        let found = prefix_taken s es n limit (frames ++ piece ∷ []) (next.0.0, stopped.pages ++ next.0.1) behind more
        is
        fits (recursion_from_All IsFrame (frames ++ piece ∷ [])
        (All-push IsFrame frames piece stopped.read.each frame)) longer taken in
        let pages = stopped.pages in
        let whole : (pages ++ prefix) ++ (of.others ++ found.0) ≡ es =
        sym (append_assoc (pages ++ prefix) of.others found.0)
        ∙ ap (λ (l : List NamedCell). l ++ found.0) (append_assoc pages prefix of.others
        ∙ ap (λ (l : List NamedCell). pages ++ l) (sym of.parts))
        ∙ found.1 in
        (of.others ++ found.0, ap (λ (l : List NamedCell). l ++ (of.others ++ found.0)) all ∙ whole)

pub pulls_take_the_reply : PullsTakeTheReply
pulls_take_the_reply s es cells sent_before limit more left is fits pulled =
    let frames = reply s es in
    let n = limit + length frames in
    let r = read_of (concat frames ++ more) left pulled.frames pulled.read in
    let expected = pullers_take s [] es sent_before 0 n is fits (omega arith) in
    let once = puller_once s (waiting sent_before 0 n) [] (step.raised n pulled.last, cells)
    (record { stage = puller.Done; sent = sent_before; taken = 0 + length frames; limit = n }, es) pulled.frames
    frames
    (step.after_raised n s (waiting sent_before 0 limit) [] (pulled.last, cells) (contents pulled.frames) (omega arith)
    pulled.taken) pulled.done expected refl
    (cut_once pulled.frames frames r.rest more (recursion_from_All IsFrame pulled.frames pulled.read.each)
    (reply_are s is es fits) (sym r.parts)) in (
      ap (λ (x : Puller × List NamedCell). x.1) once.1,
      left_behind (concat frames ++ more) left pulled.frames frames more r once.0 refl,
    )

pub pulls_bring_the_difference : PullsBringTheDifference
unfolding sent_by
pulls_bring_the_difference s m given cells limit limit_given answer more more_given left left_given is each gave
    pulled =
    let vs = versions_of m in
    let es = newer_cells vs (entries given) in
    let all : AllByRecursion (IsNameOf s) vs = named_all s (entries m)
    (recursion_from_All (IsCellOf s) (entries m) each) in
    let ascend : IsSummary vs = true_from_T (is_sorted cell_name_cmp vs)
    (sorted_versions (entries m) (entries_sorted m)) in
    let answered = gives_answer s given vs limit_given answer more_given left_given is
    (All-from_recursion (IsNameOf s) vs all) ascend gave in
    let text : answer ≡ concat (reply s es) = answered.0 ∙ answer_text s vs given in
    (pulls_take_the_reply s es cells (length (frames_of_names s vs)) limit more left is answered.2
    (subst (λ (t : List ℕ). HasPulled s (waiting (length (frames_of_names s vs)) 0 limit) (Some (t ++ more)) left
    cells) text pulled)).0

pub pulls_bring_the_join : PullsBringTheJoin
pulls_bring_the_join s m given cells limit limit_given answer more more_given left left_given is trimmed each agree gave
    pulled =
    ap (join_cells s m) (pulls_bring_the_difference s m given cells limit limit_given answer more more_given left
    left_given is each gave pulled)
    ∙ difference_brings_the_join s given m is trimmed agree

pub pulls_unite : PullsUnite
pulls_unite s w k given cells limit limit_given answer more more_given left left_given is ck cg each gave pulled =
    pulls_bring_the_join s (cells_of_knowledge s k) (cells_of_knowledge s given) cells limit limit_given answer more
    more_given left left_given is (state_is_trimmed s is k) each (knowledges_agree s w given k is cg ck) gave pulled
    ∙ join_unites s w k given is ck cg
