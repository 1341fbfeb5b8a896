-- The names of the origins that a node has taken, and what becomes of items while none is.
use Rattle.std.specs.Prelude.{◌==◌, ℕ, Bool, List, [], length, Option, Some, None, IfSome, Contains, if◌then◌else◌}
use Rattle.rr_connection.specs.Requests.{request_view}
use Rattle.rr_line.specs.declared.precision.Precision.{Precision}
use Rattle.rr_node.specs.declared.report.Report.{Report}
use Rattle.rr_reactor.specs.declared.item.Work.{Work}
use Rattle.rr_reactor.specs.declared.item.Work.TheVariants as work
use Rattle.rr_web.specs.Refusals.{put_off_write, refused_write}
use Rattle.rr_web.specs.Reply.{ReplyView}
use Rattle.rr_batch.specs.Answers.{PendingView, decided, body, lines, closed}

-- an origin is one of those that have a name, where these are known
abbrev pub IsNamed : Option (List ℕ) → ℕ → Type 0
IsNamed named origin = IfSome named (λ all. Contains all origin)

-- no lines came to anything
abbrev pub no_lines : Report
no_lines = record { points = 0; samples = 0; refused = 0 }

-- the bytes of an item, which are lines if any
abbrev pub text_of : Work → List ℕ
text_of (work.Request request) = request.body.items
text_of (work.Piece piece) = piece.text.items

-- a body without a byte has no line; any other is put off
abbrev pub body_put_off : List ℕ → PendingView
body_put_off bytes = if length bytes == 0 then body [] no_lines else decided put_off_write

-- unless the request is refused in any case
abbrev pub request_put_off : Option ReplyView → List ℕ → PendingView
request_put_off (Some reply) bytes = decided reply
request_put_off None bytes = body_put_off bytes

-- a piece without a byte is answered; the connection of any other is closed
abbrev pub piece_put_off : Bool → List ℕ → PendingView
piece_put_off is_last bytes =
    if length bytes == 0 then lines [] (if is_last then Some no_lines else None) else closed

abbrev pub put_off : Precision → Work → PendingView
put_off precision (work.Request request) =
    request_put_off (refused_write precision (request_view request)) request.body.items
put_off precision (work.Piece piece) = piece_put_off piece.is_last piece.text.items
