-- The pieces of a connection for lines.
use Rattle.std.specs.Prelude.{◌≡◌, ℕ, ◌+◌, not, nat_lt, ◌≤◌, ◌<◌, min, Bool, true, false, ◌&&◌, ◌||◌, ◌⊎◌, List, [], ◌∷◌, ◌++◌, take, length, Option, Some, None, nat_le, ◌==◌}
use Rattle.rr_text.specs.Bytes.{HasNoLineFeed}
use Rattle.rr_text.specs.declared.bytes.TheConstants.{LINE_FEED}
use Rattle.rr_connection.specs.declared.lines.LineConnection.{LineConnection}
use Rattle.rr_connection.specs.declared.lines.Phase.{Phase}
use Rattle.rr_connection.specs.declared.lines.Phase.TheVariants.{Receives, Waits, WaitsLast, Over}
use Rattle.rr_connection.specs.declared.lines.Piece.{Piece}
use Rattle.rr_connection.specs.declared.lines.TheConstants.{PIECE}
use Rattle.rr_connection.specs.declared.room.TheConstants.{MAX_UNSENT}

-- what was received and isn't in a piece, and what is to be sent
abbrev pub unread_of : LineConnection → List ℕ
unread_of c = c.unread.items

abbrev pub unsent_of : LineConnection → List ℕ
unsent_of c = c.unsent.items

abbrev pub has_ended : LineConnection → Bool
has_ended c = c.has_ended

-- a piece was given
abbrev pub has_given : LineConnection → Bool
has_given c = c.has_given

abbrev pub receives : Phase → Bool
receives Receives = true
receives Waits = false
receives WaitsLast = false
receives Over = false

-- the next piece may be given
abbrev pub is_ready : LineConnection → Bool
is_ready c = receives c.phase && nat_le (length (unsent_of c)) MAX_UNSENT

abbrev pub is_over : Phase → Bool
is_over Receives = false
is_over Waits = false
is_over WaitsLast = false
is_over Over = true

-- more is to be received: it hasn't ended, and neither what is unread nor what is to be sent is too much
abbrev pub wants_read : LineConnection → Bool
wants_read c = not (has_ended c) && (nat_lt (length (unread_of c)) PIECE && nat_le (length (unsent_of c)) MAX_UNSENT)

-- how many bytes are allocated for it
abbrev pub allocated : LineConnection → ℕ
allocated c = (length c.unread.items + c.unread.spare) + (length c.unsent.items + c.unsent.spare)

-- a text ends in a line feed
abbrev pub EndsLine : List ℕ → Type 0
EndsLine text = (line : List ℕ) × (text ≡ line ++ LINE_FEED ∷ [])

-- how many of these unread bytes the next piece has: they end in a line feed, or have none, and either no more will
-- come or they are all that a piece may have; none yet, if they are the beginning of a line
abbrev pub IsNextLen : List ℕ → Bool → Option ℕ → Type 0
IsNextLen unread ended (Some len) =
    (len ≤ min (length unread) PIECE)
    × (EndsLine (take len unread)
    ⊎ (HasNoLineFeed (take len unread) × ((ended || len == PIECE) ≡ true)))
IsNextLen unread ended None = HasNoLineFeed unread × (length unread < PIECE) × (ended ≡ false)

-- while a piece is out: the last one, or another
abbrev pub phase_of : Bool → Phase
phase_of true = WaitsLast
phase_of false = Waits

abbrev pub after_answer : Phase → Phase
after_answer Receives = Receives
after_answer Waits = Receives
after_answer WaitsLast = Over
after_answer Over = Over

-- the piece is the first part of what was unread, and what follows it is still unread
pub record IsPiece (old new : LineConnection) (piece : Piece) : Type 0 where
  pub ready : is_ready old ≡ true
  pub parts : piece.text.items ++ unread_of new ≡ unread_of old
  pub short : length piece.text.items ≤ PIECE
  pub whole : EndsLine piece.text.items ⊎ (HasNoLineFeed piece.text.items × ((has_ended old || length piece.text.items == PIECE) ≡ true))
  pub first : piece.is_first ≡ not (has_given old)
  pub given : has_given new ≡ true
  pub last : piece.is_last ≡ (has_ended old && (length (unread_of new) == 0))
  pub phase : new.phase ≡ phase_of piece.is_last

-- no piece may be given yet, or what is unread is the beginning of a line
abbrev pub AwaitsMore : LineConnection → Type 0
AwaitsMore c = (is_ready c ≡ false) ⊎ IsNextLen (unread_of c) (has_ended c) None
