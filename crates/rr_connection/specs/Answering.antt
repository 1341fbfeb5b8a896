-- What an answer does.
use Rattle.std.specs.Prelude.{◌≡◌, ◌≢◌, ℕ, List, [], ◌∷◌, ◌++◌, Some, None, bytes_eq, codes}
use Rattle.http1.specs.declared.conn.Limits.{Limits}
use Rattle.http1.specs.declared.server.Server.{Server}
use Rattle.http1.specs.Message as Wire
use Rattle.http1.specs.Server.{IsClosed}
use Rattle.rr_connection.specs.declared.answering.AnswerFault.{AnswerFault}
use Rattle.rr_connection.specs.declared.answering.AnswerFault.TheVariants.{NotAsked, Write}
use Rattle.rr_connection.specs.declared.http.HttpConnection.{HttpConnection}
use Rattle.rr_connection.specs.declared.http.Phase.TheVariants.{Receives, Waits, Over}
use Rattle.rr_connection.specs.declared.reply.Reply.{Reply}
use Rattle.rr_connection.specs.Answer.{answered_by, reply_view, response_to}
use Rattle.rr_connection.specs.Stands.{RequestList, HasGiven, asked_by, unsent_of}

-- the response to a request of the grammar
abbrev pub answer_text : Limits → Wire.Request → Reply → List ℕ
answer_text limits m reply = response_to (asked_by limits m) (bytes_eq m.head.method (codes "HEAD")) (reply_view reply)

-- the writer once it is answered: closed if either side asked for that
abbrev pub after_answer : Limits → Wire.Request → Reply → Server
after_answer limits m reply = answered_by (asked_by limits m) (bytes_eq m.head.method (codes "HEAD")) (reply_view reply)

-- the request that is out is answered: its response goes out after all that was still to be sent, and the next may be
-- given unless the connection is to end
pub record Answers (old : HttpConnection) (reply : Reply) (new : HttpConnection) : Type 0 where
  pub asked : old.phase ≡ Waits
  pub text : (limits : Limits) (received : List ℕ) (answered : RequestList) (m : Wire.Request) → HasGiven old limits received answered (Some m) → unsent_of new ≡ unsent_of old ++ answer_text limits m reply
  pub goes_on : (limits : Limits) (received : List ℕ) (answered : RequestList) (m : Wire.Request) → HasGiven old limits received answered (Some m) → ¬ (IsClosed (after_answer limits m reply)) → new.phase ≡ Receives
  pub given : (limits : Limits) (received : List ℕ) (answered : RequestList) (m : Wire.Request) → HasGiven old limits received answered (Some m) → HasGiven new limits received (answered ++ m ∷ []) None

-- nothing of the answer goes out: none was asked for, or the connection ends after what was to be sent
abbrev pub FailsToAnswer : HttpConnection → HttpConnection → AnswerFault → Type 0
FailsToAnswer old new NotAsked = (old.phase ≢ Waits) × (new ≡ old)
FailsToAnswer old new (Write fault) = (unsent_of new ≡ unsent_of old) × (new.phase ≡ Over)
