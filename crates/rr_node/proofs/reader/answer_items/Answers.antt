use Rattle.std.proofs.Common.{◌≡◌, None, Option, refl, sym, subst, ◌∙◌, arith}
use Rattle.rr_feed.specs.Feed.{FeedState, HandsOut}
use Rattle.rr_feed.specs.Items.{Item}
use Rattle.rr_feed.proofs.FedLemmas.{items_left-handed}
use Rattle.rr_node.proofs.FetchesLemmas.{cut_before, cut_within, prefix_kept, next_err, next_none, next_some, on_err, written_more}
use Rattle.rr_node.proofs.reader.answer_items.Goals as goal

hands_so : (f g : FeedState) (a b : Option Item) → a ≡ b → HandsOut f a g → HandsOut f b g
hands_so f g a b e hands = subst (λ (item : Option Item). HandsOut f item g) e hands

pub returns-in_err-text-clause-part_written : goal.returns-in_err-text-clause-part_written
returns-in_err-text-clause-part_written g c =
    let next = c.in_err-text.ensures in
    let x = next_err _ next.0 _ _ _ next.2 in
    on_err c.from_residual.result _ (cut_before _ _ _ _ _ _ _ _ x.0 c.loop-text.invariant.written
    (hands_so _ _ _ _ x.1 next.1) x.2)

pub returns-in_err-write_all-clause-part_written : goal.returns-in_err-write_all-clause-part_written
returns-in_err-write_all-clause-part_written g c =
    let next = rw c.in-Some.is at c.in_ok-text.ensures in
    let x = next_some _ _ next.0 _ _ _ next.2 in
    on_err c.from_residual-in_err-write_all.result _
    (cut_within _ _ _ _ _ _ _ _ _ x.0 _ c.loop-text.invariant.written (hands_so _ _ _ _ x.1 next.1) x.2
    (rw c.deref.ensures.value at c.in_err-write_all.ensures.prefix))

pub loop-text-preserved : goal.loop-text-preserved
loop-text-preserved g c =
    let next = rw c.in-Some.is at c.in_ok-text.ensures in
    let x = next_some _ _ next.0 _ _ _ next.2 in
    record {
      written = written_more _ _ _ _ _ _ _ _ _ x.0 _ c.loop-text.invariant.written (hands_so _ _ _ _ x.1 next.1) x.2
          (rw c.deref.ensures.value at c.in_ok-write_all.ensures.whole);
      count = omega (arith, c.loop-text.invariant.count, c.in_ok-write_all.ensures.failures_never_fall);
    }

pub returns-in_err-flush-clause-part_written : goal.returns-in_err-flush-clause-part_written
returns-in_err-flush-clause-part_written g c =
    let next = rw c.in_default.is at c.in_ok-text.ensures in
    let x = next_none _ _ next.0 _ _ next.2 in
    on_err c.from_residual-in_err-flush.result _ (prefix_kept _ _ _ _ _ _ _ _ _ c.loop-text.invariant.written
    (hands_so _ _ _ _ x.0 next.1) x.1 c.in_err-flush.ensures.bytes)

pub returns-clause-all_taken : goal.returns-clause-all_taken
returns-clause-all_taken g c =
    let next = rw c.in_default.is at c.in_ok-text.ensures in
    let x = next_none _ _ next.0 _ _ next.2 in
    let hands = hands_so _ _ _ _ x.0 next.1 in
    sym (items_left-handed None _ _ hands) ∙ hands.none refl
