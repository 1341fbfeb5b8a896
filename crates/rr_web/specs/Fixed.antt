-- The replies for which no reader is needed.
use Rattle.std.specs.Prelude.{◌≡◌, ℕ, List, [], ◌++◌, codes, Option, None, Some}
use Rattle.rr_web.specs.declared.ask.Ask.{Ask}
use Rattle.rr_web.specs.declared.ask.Ask.TheVariants as ask
use Rattle.rr_web.specs.declared.reply.Status.TheVariants as status
use Rattle.rr_web.specs.declared.reply.Kind.TheVariants as kind
use Rattle.rr_web.specs.Json.{quoted}
use Rattle.rr_web.specs.Refusals.{refusal_of}
use Rattle.rr_web.specs.Reply.{IsFound, ReplyView, reply_of}

-- why a node can acknowledge nothing
abbrev pub failing_reply : List ℕ → ReplyView
failing_reply why = reply_of status.Busy kind.Json
    (codes "{\"name\":\"rr\",\"status\":\"fail\",\"message\":" ++ quoted why ++ codes "}\n")

-- whether it can, or why it can't
abbrev pub health_reply : Option (List ℕ) → ReplyView
health_reply None = reply_of status.Ok kind.Json (codes "{\"name\":\"rr\",\"status\":\"pass\"}\n")
health_reply (Some why) = failing_reply why

-- the reply to what is asked
abbrev pub IsFixedReply : List ℕ → Option (List ℕ) → Ask → ReplyView → Type 0
IsFixedReply metrics failure ask.Metrics reply = reply ≡ reply_of status.Ok kind.Metrics metrics
IsFixedReply metrics failure ask.Health reply = reply ≡ health_reply failure
IsFixedReply metrics failure ask.Ping reply = reply ≡ reply_of status.NoContent kind.Plain []
IsFixedReply metrics failure ask.Page reply = IsFound kind.Html reply
IsFixedReply metrics failure ask.Script reply = IsFound kind.Script reply
IsFixedReply metrics failure ask.Style reply = IsFound kind.Style reply
IsFixedReply metrics failure other reply = reply ≡ refusal_of other
