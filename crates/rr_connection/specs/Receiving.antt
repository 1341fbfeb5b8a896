-- What is found in what was received.
use Rattle.std.specs.Prelude.{◌≡◌, ℕ, codes, List, [], ◌∷◌, ◌++◌, replicate, flat_map, Some, None, ⊤}
use Rattle.httparse.specs.declared.spans.HeaderSpan.{HeaderSpan}
use Rattle.httparse.specs.declared.spans.RequestSpans.{RequestSpans}
use Rattle.http1.specs.declared.conn.Limits.{Limits}
use Rattle.http1.specs.declared.conn.Progress.{Progress}
use Rattle.http1.specs.declared.server.Server.{Server}
use Rattle.http1.specs.Message as Wire
use Rattle.http1.specs.Message.{ReadsRequests}
use Rattle.http1.specs.Server.{ServerReads}
use Rattle.rr_connection.specs.declared.http.HttpConnection.{HttpConnection}
use Rattle.rr_connection.specs.declared.http.Phase.TheVariants.{Receives, Waits, Over}
use Rattle.rr_connection.specs.declared.receiving.Found.{Found}
use Rattle.rr_connection.specs.declared.receiving.Step.{Step}
use Rattle.rr_connection.specs.declared.receiving.Step.TheVariants.{On, Stop}
use Rattle.rr_connection.specs.Requests.{request_view, given_of}
use Rattle.rr_connection.specs.Refused.{IsRefused, HasNoOther, refusal_text}
use Rattle.rr_connection.specs.Stands.{RequestList, Receiving, HasGiven, unsent_of}

-- what is found in what was received after these requests, with bodies of at most this many bytes
abbrev pub Finds : ℕ → Found → HttpConnection → Limits → List ℕ → RequestList → Type 0
Finds max_body (Found.Request r) new limits received answered =
    (m : Wire.Request) × (request_view r ≡ given_of m) × ReadsRequests limits received (answered ++ m ∷ []) new.unread.items
    × HasGiven new limits received answered (Some m) × (new.phase ≡ Waits)
Finds max_body Found.Nothing new limits received answered =
    HasNoOther limits received answered × HasGiven new limits received answered None × (new.phase ≡ Receives)
Finds max_body (Found.Refused refusal) new limits received answered =
    IsRefused max_body refusal limits received answered × (new.phase ≡ Over)
Finds max_body Found.Ended new limits received answered =
    ReadsRequests limits received answered [] × (new.phase ≡ Over)

-- the response that goes out with it: that of a refusal
abbrev pub found_text : Found → List ℕ
found_text (Found.Request r) = []
found_text Found.Nothing = []
found_text (Found.Refused refusal) = refusal_text refusal
found_text Found.Ended = []

-- the response that lets a client send its body
abbrev pub invitation : List ℕ
invitation = codes "HTTP/1.1 100 Continue\r\n\r\n"

-- a text goes out after what was to be sent, and before it responses that let a body come, if any
abbrev pub Sends : List ℕ → HttpConnection → HttpConnection → Type 0
Sends text old new =
    (count : ℕ) × (unsent_of new ≡ unsent_of old ++ (flat_map (λ continue. continue) (replicate count invitation) ++ text))

-- after an event
abbrev pub Reached : ℕ → Step → HttpConnection → Limits → List ℕ → RequestList → Type 0
Reached max_body On new limits received answered = HasGiven new limits received answered None × (new.phase ≡ Receives)
Reached max_body (Stop found) new limits received answered = Finds max_body found new limits received answered

abbrev pub step_text : Step → List ℕ
step_text On = []
step_text (Stop found) = found_text found

-- an event was read, and its bytes are still unread
abbrev pub AfterRead : HttpConnection → List HeaderSpan → Progress RequestSpans → Limits → List ℕ → RequestList → Type 0
AfterRead c spans read limits received answered =
    (before : Server) × Receiving c.part before c.unread.items limits received answered
    × ServerReads before c.unread.items spans c.server read

-- whatever was received and given, what held before implies what holds now
abbrev pub Leads : (Limits → List ℕ → RequestList → Type 0) → (Limits → List ℕ → RequestList → Type 0) → Type 0
Leads P Q = (limits : Limits) (received : List ℕ) (answered : RequestList) → P limits received answered → Q limits received answered

-- a request is being received
abbrev pub IsReceiving : HttpConnection → Limits → List ℕ → RequestList → Type 0
IsReceiving c limits received answered = (c.phase ≡ Receives) × HasGiven c limits received answered None

-- the same, and what was received holds no other whole request
abbrev pub IsStarved : HttpConnection → Limits → List ℕ → RequestList → Type 0
IsStarved c limits received answered = HasNoOther limits received answered × IsReceiving c limits received answered

-- if there may be more events, this holds
abbrev pub StepsOn : Step → Type 0 → Type 0
StepsOn On P = P
StepsOn (Stop found) P = ⊤
