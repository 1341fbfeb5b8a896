-- Frames: a kind and a body, and their bytes.
use Rattle.std.specs.Prelude.{ℕ, ◌+◌, nat_lt, ◌==◌, if◌then◌else◌, List, [], ◌∷◌, ◌++◌, length, Option, None, Some, Result, Ok, Err}
use Rattle.std.specs.Int.{w32, to_be_bytes}
use Rattle.rr_text.specs.Results.{unless}
use Rattle.rr_gossip.specs.declared.fault.GossipFault.{GossipFault}
use Rattle.rr_gossip.specs.declared.fault.GossipFault.TheVariants.{FrameTooLong, BadFrame}
use Rattle.rr_gossip.specs.declared.frame.Kind.{Kind}
use Rattle.rr_gossip.specs.declared.frame.Kind.TheVariants.{Hello, Summary, SummaryEnd, Page, PageEnd}
use Rattle.rr_gossip.specs.declared.frame.TheConstants.{MAX_FRAME_LEN}

-- the byte of a kind
abbrev pub kind_byte : Kind → ℕ
kind_byte Hello = 1
kind_byte Summary = 2
kind_byte SummaryEnd = 3
kind_byte Page = 4
kind_byte PageEnd = 5

-- the kind of a byte, if it is one
abbrev pub kind_at : ℕ → Option Kind
kind_at byte =
    if byte == 1 then Some Hello
    else if byte == 2 then Some Summary
    else if byte == 3 then Some SummaryEnd
    else if byte == 4 then Some Page
    else if byte == 5 then Some PageEnd
    else None

-- what follows the length in four bytes: the kind in one, and the body
abbrev pub content_text : Kind → List ℕ → List ℕ
content_text kind body = kind_byte kind ∷ body

unfoldable pub frame_text : Kind → List ℕ → List ℕ
frame_text kind body = to_be_bytes w32 (1 + length body) ++ content_text kind body

-- ---- the reading of what follows the length

abbrev pub known_kind : Option Kind → List ℕ → Result (Kind × List ℕ) GossipFault
known_kind None body = Err BadFrame
known_kind (Some kind) body = Ok (kind, body)

abbrev pub kind_of : List ℕ → Result (Kind × List ℕ) GossipFault
kind_of [] = Err BadFrame
kind_of (byte ∷ body) = known_kind (kind_at byte) body

-- the kind and the body
unfoldable pub content_at : List ℕ → Result (Kind × List ℕ) GossipFault
content_at content = unless FrameTooLong (nat_lt MAX_FRAME_LEN (length content)) (kind_of content)
