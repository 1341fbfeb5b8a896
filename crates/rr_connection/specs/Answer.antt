-- The responses to requests.
use Rattle.std.specs.Prelude.{ℕ, Bool, List, [], ◌∷◌, ◌++◌, map, length, codes, if◌then◌else◌, ◌==◌}
use Rattle.http1.specs.declared.conn.BodySize.{BodySize}
use Rattle.http1.specs.declared.conn.BodySize.TheVariants.{Empty, Known}
use Rattle.http1.specs.declared.server.Server.{Server}
use Rattle.http1.specs.Conn.{data_text, finish_text, after_data}
use Rattle.http1.specs.Fields.{Header}
use Rattle.http1.specs.Server.{writing, with_writing, planned_response, after_response, after_end}
use Rattle.rr_connection.specs.declared.reply.Reply.{Reply}
use Rattle.rr_connection.specs.declared.reply.Field.{Field}
use Rattle.rr_connection.specs.declared.reply.Value.{Value}
use Rattle.rr_connection.specs.declared.reply.Value.TheVariants.{Constant, Made}

-- the bytes of a field's value
abbrev pub value_bytes : Value → List ℕ
value_bytes (Constant text) = text.now
value_bytes (Made text) = text.items

abbrev pub header_of : Field → Header
header_of field = (field.name.now, value_bytes field.value)

-- a reply by its bytes
pub record ReplyView : Type 0 where
  pub status : ℕ
  pub fields : List Header
  pub body : List ℕ
  pub closes : Bool

abbrev pub reply_view : Reply → ReplyView
reply_view r = record { status = r.status; fields = map header_of r.fields.items; body = r.body.items; closes = r.closes }

-- the reason phrase of a status
abbrev pub reason_of : ℕ → List ℕ
reason_of status =
    if status == 200 then codes "OK"
    else (if status == 204 then codes "No Content"
    else (if status == 400 then codes "Bad Request"
    else (if status == 404 then codes "Not Found"
    else (if status == 405 then codes "Method Not Allowed"
    else (if status == 409 then codes "Conflict"
    else (if status == 410 then codes "Gone"
    else (if status == 415 then codes "Unsupported Media Type"
    else (if status == 500 then codes "Internal Server Error"
    else (if status == 501 then codes "Not Implemented"
    else (if status == 503 then codes "Service Unavailable" else []))))))))))

abbrev pub close_field : Header
close_field = (codes "connection", codes "close")

-- the fields of a response
abbrev pub headers_of : List Header → Bool → List Header
headers_of fields closes = fields ++ (if closes then close_field ∷ [] else [])

abbrev pub size_of : List ℕ → BodySize
size_of body = if length body == 0 then Empty else Known (length body)

-- the writer behind a response's head, and behind its body
abbrev pub begun : Server → ReplyView → Server
begun asked reply = after_response asked reply.status (size_of reply.body) (headers_of reply.fields reply.closes)

abbrev pub body_written : Bool → Server → List ℕ → Server
body_written is_head server body = if is_head then server else with_writing server (after_data (writing server) (length body))

-- a response, as http1 writes it: its head, its body except after `HEAD`, and its end
abbrev pub response_to : Server → Bool → ReplyView → List ℕ
response_to asked is_head reply =
    planned_response asked reply.status (reason_of reply.status) (size_of reply.body) (headers_of reply.fields reply.closes)
    ++ (if is_head then [] else data_text (writing (begun asked reply)) reply.body)
    ++ finish_text (writing (body_written is_head (begun asked reply) reply.body)) []

-- the writer once a response is written
abbrev pub answered_by : Server → Bool → ReplyView → Server
answered_by asked is_head reply = after_end (body_written is_head (begun asked reply) reply.body)
