-- Frames in a stream: the one at the beginning of bytes, and those that a side of a session has read.
use Rattle.std.specs.Prelude.{◌≡◌, ◌⊎◌, ℕ, nat_lt, ◌<◌, List, [], ◌++◌, length, take, drop, All, Option, Result, Ok, Err, if◌then◌else◌}
use Rattle.std.specs.Int.{w32}
use Rattle.std.specs.Io.KnownBytes.{Consumes}
use Rattle.std.specs.List.{concat}
use Rattle.rr_page.specs.declared.fault.PageFault.{PageFault}
use Rattle.rr_page.specs.Reading.{number_at}
use Rattle.rr_gossip.specs.declared.fault.GossipFault.{GossipFault}
use Rattle.rr_gossip.specs.declared.fault.GossipFault.TheVariants.{ReadFailed, Ended, FrameTooLong, Memory}
use Rattle.rr_gossip.specs.declared.frame.TheConstants.{MAX_FRAME_LEN}

-- ---- the frame at the beginning

-- as many bytes as a length says, or why they are not read; and the bytes after what was looked at
abbrev pub content_from : Result (ℕ × List ℕ) PageFault → Result (List ℕ) GossipFault × List ℕ
content_from (Err fault) = (Err Ended, [])
content_from (Ok (len, rest)) =
    if nat_lt MAX_FRAME_LEN len then (Err FrameTooLong, rest)
    else if nat_lt (length rest) len then (Err Ended, [])
    else (Ok (take len rest), drop len rest)

-- what follows the length of the frame at the beginning of bytes, or why there is none; and the bytes after what was
-- looked at: the frame, or only its length if that is too great
unfoldable pub frame_at : List ℕ → Result (List ℕ) GossipFault × List ℕ
frame_at bytes = content_from (number_at w32 bytes)

-- the bytes are a frame, whole, and nothing more
abbrev pub IsFrame : List ℕ → Type 0
IsFrame bytes = frame_at bytes ≡ (Ok (drop 4 bytes), [])

-- ---- what was read

-- bytes were taken from the beginning of what a reader had, if that is known, and follow those that were there
abbrev pub Grows : Option (List ℕ) → Option (List ℕ) → List ℕ → List ℕ → Type 0
Grows had left before bytes = (prefix : List ℕ) × (bytes ≡ before ++ prefix) × Consumes had left prefix

-- why fewer bytes were read than asked for: the reader failed or its input ended; or memory ran out
abbrev pub ReadsFewer : GossipFault → ℕ → ℕ → Type 0
ReadsFewer fault got asked = (fault ≡ Memory) ⊎ (((fault ≡ ReadFailed) ⊎ (fault ≡ Ended)) × (got < asked))

-- no whole frame was read, and nothing after what was looked at: there are too few bytes for one, since they ended or
-- the reader failed, or the length is too great, or memory ran out
pub record BreaksOff (bytes : List ℕ) (fault : GossipFault) : Type 0 where
  pub nothing_behind : (frame_at bytes).1 ≡ []
  pub why : (fault ≡ Memory) ⊎ ((fault ≡ ReadFailed) × ((frame_at bytes).0 ≡ Err Ended))
      ⊎ ((frame_at bytes).0 ≡ Err fault)

-- a frame was read and is refused, or memory ran out
pub record IsRefused {X : Type 0} (takes : List ℕ → Result X GossipFault) (bytes : List ℕ) (fault : GossipFault)
    : Type 0 where
  pub frame : IsFrame bytes
  pub why : (fault ≡ Memory) ⊎ (takes (drop 4 bytes) ≡ Err fault)

-- no further frame is taken, once these bytes of it were read
abbrev pub Stops : {X : Type 0} → (List ℕ → Result X GossipFault) → List ℕ → GossipFault → Type 0
Stops takes bytes fault = BreaksOff bytes fault ⊎ IsRefused takes bytes fault

-- whole frames were read, and a piece of the next; some of the bytes may have been there before
pub record WasRead (before : List ℕ) (had left : Option (List ℕ)) (frames : List (List ℕ)) (piece : List ℕ)
    : Type 0 where
  pub bytes : List ℕ
  pub consumed : Consumes had left bytes
  pub cut : before ++ bytes ≡ concat frames ++ piece
  pub each : All IsFrame frames
