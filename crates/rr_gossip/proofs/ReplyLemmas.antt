-- The frames that a giver sends in a row.
use Rattle.std.proofs.Common.{◌≡◌, ℕ, zero, suc, ◌+◌, ◌<◌, ◌≤◌, true, false, List, [], ◌∷◌, ◌++◌, length, map, take, drop, Option, Some, Ok, refl, ap, ◌∙◌, arith}
use Rattle.std.specs.Prelude.{nat_le, ◌&&◌, is_some}
use Rattle.std.proofs.lemmas.Bool.{lt-leb}
use Rattle.std.proofs.lemmas.List.{length-drop}
use Rattle.rr_text.specs.declared.limits.TheConstants.{MAX_PAGE_CELLS}
use Rattle.rr_text.specs.Results.{◌>>=◌, unless}
use Rattle.rr_schema.specs.Schema.{Layout}
use Rattle.rr_page.specs.Page.{page_text}
use Rattle.rr_page.specs.Version.{latest}
use Rattle.rr_cells.specs.CellBounds.{NamedCell}
use Rattle.rr_gossip.specs.declared.fault.GossipFault.TheVariants as why
use Rattle.rr_gossip.specs.declared.frame.Kind.TheVariants as kind
use Rattle.rr_gossip.specs.declared.giver.Giver.{Giver}
use Rattle.rr_gossip.specs.declared.giver.Stage.{Stage}
use Rattle.rr_gossip.specs.declared.giver.Stage.TheVariants.{Giving, Done}
use Rattle.rr_gossip.specs.Frame.{frame_text}
use Rattle.rr_gossip.specs.Giver.{count_with, stage_sends, giver_sends}
use Rattle.rr_gossip.specs.Transcript.{pieces, and_frames, giver_frames, GiversReply}

-- a limit that is not reached
pub under : (before limit : ℕ) → before < limit → nat_le limit before ≡ false
under before limit lt = lt-leb limit before lt

module _ (taken limit : ℕ) where
  at : Stage → ℕ → Giver
  at stage before = record { stage = stage; sent = before; taken = taken; limit = limit }

  one_sent : (stage next : Stage) (frame : List ℕ) (before : ℕ) → before < limit
      → stage_sends stage ≡ Ok (next, Some frame) → giver_sends (at stage before)
      ≡ Ok (at next (before + 1), Some frame)
  unfolding giver_sends at
  one_sent stage next frame before lt sends =
      ap (λ r. r >>= λ (x : Stage × Option (List ℕ)). unless why.TooManyFrames (is_some x.1 && nat_le limit before)
      (Ok (record { stage = x.0; sent = count_with before x.1; taken = taken; limit = limit }, x.1))) sends
      ∙ ap (λ b. unless why.TooManyFrames (true && b)
      (Ok (record { stage = next; sent = before + 1; taken = taken; limit = limit }, Some frame)))
      (under before limit lt)

  none_after : (most before : ℕ) → giver_frames most (at Done before) ≡ Ok []
  unfolding giver_frames giver_sends at
  none_after zero before = refl
  none_after (suc most) before = refl

  frames_from : (stage next : Stage) (frame : List ℕ) (before most : ℕ) (later : List (List ℕ)) → before < limit
      → stage_sends stage ≡ Ok (next, Some frame) → giver_frames most (at next (before + 1)) ≡ Ok later
      → giver_frames (suc most) (at stage before) ≡ Ok (frame ∷ later)
  unfolding giver_frames
  frames_from stage next frame before most later lt sends rest =
      ap (λ r. r >>= λ (x : Giver × Option (List ℕ)). and_frames x.1 (giver_frames most x.0))
      (one_sent stage next frame before lt sends)
      ∙ ap (λ r. r >>= λ (frames : List (List ℕ)). Ok (frame ∷ frames)) rest

  module _ (s : Layout) where
    abbrev pages : ℕ → List NamedCell → List (List ℕ)
    pages k es = map (λ piece. frame_text kind.Page (page_text latest s piece)) (pieces k MAX_PAGE_CELLS es)
        ++ frame_text kind.PageEnd [] ∷ []

    end_alone : (before most : ℕ) → before + 1 ≤ limit → 1 ≤ most
        → giver_frames most (at (Giving (s, [])) before) ≡ Ok (frame_text kind.PageEnd [] ∷ [])
    end_alone before zero room more = absurd (omega arith)
    end_alone before (suc most) room more = frames_from (Giving (s, [])) Done (frame_text kind.PageEnd []) before most
        [] (omega arith) refl (none_after most (before + 1))

    replies : (k : ℕ) (es : List NamedCell) (before most : ℕ) → length es ≤ k → before + length (pages k es) ≤ limit
        → length (pages k es) ≤ most → giver_frames most (at (Giving (s, es)) before) ≡ Ok (pages k es)
    unfolding pieces
    replies zero [] before most few room more = end_alone before most room more
    replies zero (e ∷ es) before most few room more = absurd (omega arith)
    replies (suc k) [] before most few room more = end_alone before most room more
    replies (suc k) (e ∷ es) before zero few room more = absurd (omega arith)
    replies (suc k) (e ∷ es) before (suc most) few room more =
        let left = drop MAX_PAGE_CELLS (e ∷ es) in
        let less = length-drop MAX_PAGE_CELLS (e ∷ es) in
        frames_from (Giving (s, e ∷ es)) (Giving (s, left))
        (frame_text kind.Page (page_text latest s (take MAX_PAGE_CELLS (e ∷ es)))) before most (pages k left)
        (omega arith) refl
        (replies k left (before + 1) most (omega arith) (omega arith) (omega arith))

pub givers_reply : GiversReply
unfolding at
givers_reply s es before taken limit most room more =
    replies taken limit s (length es) es before most (omega arith) room more
