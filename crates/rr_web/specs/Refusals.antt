-- Requests that are refused, whatever a node holds.
use Rattle.std.specs.Prelude.{ℕ, Bool, false, not, List, ◌++◌, codes, Option, None, Some, if◌then◌else◌}
use Rattle.rr_connection.specs.Requests.{RequestView}
use Rattle.rr_line.specs.declared.precision.Precision.{Precision}
use Rattle.rr_line.specs.Precision.{precision_name}
use Rattle.rr_web.specs.declared.ask.Ask.{Ask}
use Rattle.rr_web.specs.declared.ask.Ask.TheVariants as ask
use Rattle.rr_web.specs.declared.reply.Status.{Status}
use Rattle.rr_web.specs.declared.reply.Status.TheVariants as status
use Rattle.rr_web.specs.declared.reply.Kind.TheVariants.{Json}
use Rattle.rr_web.specs.Ask.{ask_of}
use Rattle.rr_web.specs.Precision.{is_precision}
use Rattle.rr_web.specs.Query.{parameter_of}
use Rattle.rr_web.specs.Reply.{ReplyView, reply_of}
use Rattle.rr_web.specs.Target.{target_parts}

-- a refusal, and why
abbrev pub error_reply : Status → List ℕ → ReplyView
error_reply status why = reply_of status Json (codes "{\"error\":\"" ++ why ++ codes "\"}\n")

-- the refusal of what is asked: of another path, or by another method
abbrev pub refusal_of : Ask → ReplyView
refusal_of ask.Nothing = error_reply status.NotFound (codes "there is no such path")
refusal_of ask.Journal = error_reply status.NotFound (codes "there is no such path")
refusal_of ask.Checkpoint = error_reply status.NotFound (codes "there is no such path")
refusal_of ask.OnlyGet = error_reply status.OnlyGet (codes "it is read by GET")
refusal_of ask.Write = error_reply status.OnlyGet (codes "it is read by GET")
refusal_of other = error_reply status.OnlyPost (codes "it is written by POST")

abbrev pub coding_refusal : ReplyView
coding_refusal = error_reply status.UnknownCoding (codes "a body with a content-encoding is not read")

abbrev pub put_off_write : ReplyView
put_off_write = error_reply status.Busy (codes "the origin can't be recorded: nothing is taken")

abbrev pub precision_refusal : Precision → ReplyView
precision_refusal precision =
    error_reply status.BadRequest (codes "the precision of this node is " ++ precision_name precision)

-- whether a precision that a write names isn't that of the node
abbrev pub is_other : Precision → Option (List ℕ) → Bool
is_other precision None = false
is_other precision (Some named) = not (is_precision named precision)

-- the refusal of lines by the coding of their body, then by the precision that they name
abbrev pub refused_lines : Precision → Bool → Option (List ℕ) → Option ReplyView
refused_lines precision is_encoded named =
    if is_encoded then Some coding_refusal
    else (if is_other precision named then Some (precision_refusal precision) else None)

-- the same of a request that asks for this, with this query
abbrev pub refused_ask : Precision → Bool → List ℕ → Ask → Option ReplyView
refused_ask precision is_encoded query ask.Write =
    refused_lines precision is_encoded (parameter_of query (codes "precision"))
refused_ask precision is_encoded query other = Some (refusal_of other)

-- the refusal of a request whose lines are not to be taken
abbrev pub refused_write : Precision → RequestView → Option ReplyView
refused_write precision r =
    refused_ask precision r.is_encoded (target_parts r.target).1 (ask_of r.method (target_parts r.target).0)
