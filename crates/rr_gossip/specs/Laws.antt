-- The laws of the bytes of frames.
use Rattle.std.specs.Prelude.{◌≡◌, ◌↔◌, ◌≤◌, List, ℕ, ◌++◌, length, Ok}
use Rattle.rr_schema.specs.Schema.{Layout, IsLayout}
use Rattle.rr_page.specs.Laws.{AreBytes}
use Rattle.rr_delta.specs.Names.{NamedVersion}
use Rattle.rr_gossip.specs.Frame.{content_text, content_at}
use Rattle.rr_gossip.specs.Summary.{IsPiece, last_name, summary_text}
use Rattle.rr_gossip.specs.SummaryReading.{summary_at}
use Rattle.rr_gossip.specs.declared.frame.Kind.{Kind}
use Rattle.rr_gossip.specs.declared.frame.TheConstants.{MAX_FRAME_LEN}

-- the names so far are followed by others, and the bytes are the text of these
pub record AddsPiece (s : Layout) (bytes : List ℕ) (old new : List NamedVersion) : Type 0 where
  pub names : List NamedVersion
  pub piece : IsPiece s (last_name old) names
  pub added : new ≡ old ++ names
  pub text : bytes ≡ summary_text names

-- the body of a Summary frame is read exactly if it is the text of names that may come after those so far
abbrev pub SummariesAreTheirText : Type 0
SummariesAreTheirText =
    (s : Layout) (bytes : List ℕ) (old new : List NamedVersion) → IsLayout s → AreBytes bytes
    → (summary_at s old bytes ≡ Ok new) ↔ AddsPiece s bytes old new

-- a frame is read exactly if it is the text of a kind and a body, and not too long
abbrev pub FramesAreTheirText : Type 0
FramesAreTheirText =
    (content : List ℕ) (kind : Kind) (body : List ℕ)
    → (content_at content ≡ Ok (kind, body)) ↔ ((content ≡ content_text kind body) × (length content ≤ MAX_FRAME_LEN))
