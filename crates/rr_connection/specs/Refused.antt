-- Why a connection's requests are refused, and the responses that say so.
use Rattle.std.specs.Prelude.{codes, ◌≡◌, ℕ, ◌<◌, ◌⊎◌, ⊤, true, List, [], ◌++◌, length, if◌then◌else◌, ◌==◌}
use Rattle.http1.specs.declared.conn.Limits.{Limits}
use Rattle.http1.specs.Message as Wire
use Rattle.http1.specs.Message.{known_of}
use Rattle.http1.specs.ReadError.{status_of}
use Rattle.rr_connection.specs.declared.http.TheConstants.{MAX_HEADERS}
use Rattle.rr_connection.specs.declared.refusal.Refusal.{Refusal}
use Rattle.rr_connection.specs.declared.refusal.Refusal.TheVariants.{Malformed, BodyTooLong, UnknownCoding, CutShort, Memory}
use Rattle.rr_connection.specs.Requests.{GoesOnWith}

-- a response with no body, after which the connection ends
abbrev pub last_response : List ℕ → List ℕ
last_response status = codes "HTTP/1.1 " ++ status ++ codes "\r\nconnection: close\r\ncontent-length: 0\r\n\r\n"

-- the response to what can't be read, by its status
abbrev pub text_of_status : ℕ → List ℕ
text_of_status status =
    if status == 414 then last_response (codes "414 URI Too Long")
    else (if status == 431 then last_response (codes "431 Request Header Fields Too Large")
    else last_response (codes "400 Bad Request"))

-- the response that says why nothing more is read
abbrev pub refusal_text : Refusal → List ℕ
refusal_text (Malformed error) = text_of_status (status_of error)
refusal_text BodyTooLong = last_response (codes "413 Content Too Large")
refusal_text UnknownCoding = last_response (codes "501 Not Implemented")
refusal_text CutShort = last_response (codes "400 Bad Request")
refusal_text Memory = []

-- a head or trailers with too many fields
abbrev pub HasTooManyFields : Wire.Request → Type 0
HasTooManyFields m = (MAX_HEADERS < length m.head.fields) ⊎ (MAX_HEADERS < length m.body.trailers)

-- whatever follows what was received, the next request has this fault
abbrev pub OnlyWith : (Wire.Request → Type 0) → Limits → List ℕ → List Wire.Request → Type 0
OnlyWith Fault limits received requests =
    (more : List ℕ) (m : Wire.Request) → GoesOnWith limits (received ++ more) requests m → Fault m

-- what was received doesn't hold another whole request
abbrev pub HasNoOther : Limits → List ℕ → List Wire.Request → Type 0
HasNoOther limits received requests = (m : Wire.Request) → GoesOnWith limits received requests m → ⊥

-- why what was received is refused, with bodies of at most this many bytes
abbrev pub IsRefused : ℕ → Refusal → Limits → List ℕ → List Wire.Request → Type 0
IsRefused max_body (Malformed error) = OnlyWith HasTooManyFields
IsRefused max_body BodyTooLong = OnlyWith (λ m. max_body < length m.body.bytes)
IsRefused max_body UnknownCoding = OnlyWith (λ m. (known_of m.head.fields).other_coding ≡ true)
IsRefused max_body CutShort = HasNoOther
IsRefused max_body Memory = λ limits received requests. ⊤
