-- Each piece is listed behind the one before it.
use Rattle.std.proofs.Common.{◌≡◌, sym, ap, ◌∙◌}
use Rattle.std.specs.FinMap.{entries}
use Rattle.rr_desk.specs.ReaderState.{cells_seen}
use Rattle.rr_replica.specs.Keys.{keys_after, lent_key}
use Rattle.rr_web.specs.declared.listing.TheConstants.{PIECE}
use Rattle.rr_web.proofs.ListingLemmas.{lists_enough, lists_past, so_far_more, so_far_none}
use Rattle.rr_web.proofs.listing.list_with_prefix.Goals as goal
use Rattle.rr_web.proofs.listing.list_with_prefix.Goals.{then-left-eq0, else-left-eq0}

pub loop-init : goal.loop-init
loop-init g c = rw c.new-text.ensures.items (so_far_none _ _ _ _)

pub loop-preserved : goal.loop-preserved
loop-preserved g c =
    let lent : lent_key c.as_ref.result ≡ c.loop.after = c.as_ref.ensures.value in
    let given = c.in_ok-keys.ensures.answer
    ∙ ap (λ k. keys_after k PIECE (entries (cells_seen c.keys_after.new.self))) lent in
    let left = rw c.deref.ensures.value at c.in_ok-left.ensures.left in
    let lines = rw c.deref.ensures.value at c.in_ok-left.ensures.lines in
    so_far_more _ _ _ _ _ _ _ _ _ _ _ _ _ _ c.loop.invariant c.keys_after.ensures.seen given c.in-Some.ensures.items left lines

pub returns-then-is_last : goal.returns-then-is_last
returns-then-is_last g c =
    let lent : lent_key c.as_ref.result ≡ c.loop.after = c.as_ref.ensures.value in
    let given = c.in_ok-keys.ensures.answer
    ∙ ap (λ k. keys_after k PIECE (entries (cells_seen c.keys_after.new.self))) lent in
    let left = rw c.deref.ensures.value at c.in_ok-left.ensures.left in
    let lines = rw c.deref.ensures.value at c.in_ok-left.ensures.lines in
    let so = so_far_more _ _ _ _ _ _ _ _ _ _ _ _ _ _ c.loop.invariant c.keys_after.ensures.seen given c.in-Some.ensures.items left lines in
    record {
      seen = so.seen;
      answer = elim c.if-left-eq0.branch [
        | then-left-eq0 w ↦ lists_enough _ _ _ _ _ _ _ _ so w.if-left-eq0.true
        | else-left-eq0 w ↦ lists_past _ _ _ _ _ _ _ _ so (sym w.is_past-is_last.ensures ∙ sym w.is_last-is ∙ c.if-is_last.true)
      ];
    }
