-- How a request is answered.
use Rattle.std.specs.Prelude.{◌≡◌, ℕ, Bool, true, false, ◌==◌, List, [], ◌∷◌, ◌++◌, codes, Option, None, Some, option_map, if◌then◌else◌}
use Rattle.std.specs.Borrow.{Bor}
use Rattle.std.specs.List.{flat_map}
use Rattle.rr_text.specs.declared.bytes.TheConstants.{LINE_FEED}
use Rattle.rr_web.specs.declared.reply.Reply.{Reply}
use Rattle.rr_web.specs.declared.reply.Status.{Status}
use Rattle.rr_web.specs.declared.reply.Status.TheVariants as status
use Rattle.rr_web.specs.declared.reply.Status.TheVariants.{NoContent, BadRequest, Failed}
use Rattle.rr_web.specs.declared.reply.Kind.{Kind}
use Rattle.rr_web.specs.declared.reply.Kind.TheVariants.{Json}

-- a reply, with its text by its bytes
pub record ReplyView : Type 0 where
  pub status : Status
  pub kind : Kind
  pub text : List ℕ

abbrev pub reply_of : Status → Kind → List ℕ → ReplyView
reply_of status kind text = record { status = status; kind = kind; text = text }

abbrev pub reply_view : Reply → ReplyView
reply_view r = reply_of r.status r.kind r.text.items

-- a reply gives what was asked for, a text of this kind
pub record IsFound (kind : Kind) (reply : ReplyView) : Type 0 where
  pub status : reply.status ≡ status.Ok
  pub kind_is : reply.kind ≡ kind

-- a byte of lines inside a text of JSON
abbrev pub inside : ℕ → List ℕ
inside byte = if byte == LINE_FEED then codes "; " else byte ∷ []

-- the refusal of some lines, as InfluxDB words one
abbrev pub partial_text : List ℕ → List ℕ → List ℕ
partial_text refusals report =
    codes "{\"error\":\"partial write: " ++ flat_map inside refusals ++ report ++ codes "\"}\n"

-- a text that is lent, if there is one
abbrev pub lent_text : Option (Bor (List ℕ)) → Option (List ℕ)
lent_text text = option_map (λ t. t.now) text

-- the reply to a write, by whether it was to be saved and isn't, by the refusals of its lines, and by their report,
-- which is absent if memory ran out
abbrev pub write_reply_of : Bool → List ℕ → Option (List ℕ) → ReplyView
write_reply_of is_unsaved refusals None =
    reply_of Failed Json (codes "{\"error\":\"the node ran out of memory\"}\n")
write_reply_of true refusals (Some report) =
    reply_of Failed Json (codes "{\"error\":\"the lines are taken, but not saved\"}\n")
write_reply_of false [] (Some report) = reply_of NoContent Json []
write_reply_of false (byte ∷ refusals) (Some report) =
    reply_of BadRequest Json (partial_text (byte ∷ refusals) report)
