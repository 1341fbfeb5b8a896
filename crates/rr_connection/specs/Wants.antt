-- What a connection waits for, and how much is allocated for it.
use Rattle.std.specs.Prelude.{ℕ, ◌+◌, Bool, true, false, not, ◌&&◌, ◌||◌, Option, Some, None, is_some, length, min, vec_capacity, nat_le, nat_lt, ◌==◌}
use Rattle.http1.specs.declared.conn.BodySize.{BodySize}
use Rattle.http1.specs.declared.conn.BodySize.TheVariants.{Known, Unknown, Empty}
use Rattle.http1.specs.Conn.{unread_size}
use Rattle.http1.specs.Server.{reading}
use Rattle.rr_connection.specs.declared.http.HttpConnection.{HttpConnection}
use Rattle.rr_connection.specs.declared.http.Phase.{Phase}
use Rattle.rr_connection.specs.declared.http.Phase.TheVariants.{Receives, Waits, Over}
use Rattle.rr_connection.specs.declared.request.Request.{Request}
use Rattle.rr_connection.specs.declared.room.TheConstants.{MAX_UNREAD, MAX_UNSENT}
use Rattle.rr_connection.specs.Stands.{receives, unsent_of}

-- nothing more is read
abbrev pub is_over : Phase → Bool
is_over Receives = false
is_over Waits = false
is_over Over = true

-- more is to be received: it hasn't ended, and neither what is unread nor what is to be sent is too much
abbrev pub wants_read : HttpConnection → Bool
wants_read c =
    not (is_over c.phase)
    && (not c.has_ended && (nat_lt (length c.unread.items) MAX_UNREAD && nat_le (length (unsent_of c)) MAX_UNSENT))

-- a part of a request was received, and all of its head
abbrev pub is_within_request : HttpConnection → Bool
is_within_request c = receives c.phase && (is_some c.part || not (length c.unread.items == 0))

abbrev pub is_within_body : HttpConnection → Bool
is_within_body c = receives c.phase && is_some c.part

-- how many bytes are allocated for it
abbrev pub part_room : Option Request → ℕ
part_room None = 0
part_room (Some part) = vec_capacity part.body

abbrev pub allocated : HttpConnection → ℕ
allocated c =
    (length c.unread.items + c.unread.spare) + (length c.unsent.items + c.unsent.spare) + part_room c.part

-- how many bytes a body has in all, from the part that came and what is left: at most the limit, and the limit itself
-- if that isn't known
abbrev pub size_with : ℕ → Option Request → BodySize → ℕ
size_with max None left = 0
size_with max (Some part) (Known left) = min (length part.body.items + left) max
size_with max (Some part) Unknown = max
size_with max (Some part) Empty = min (length part.body.items + 0) max

abbrev pub body_size : HttpConnection → ℕ
body_size c = size_with c.max_body c.part (unread_size (reading c.server))
