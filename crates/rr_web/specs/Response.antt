-- Replies as HTTP responses (RFC 9110).
use Rattle.std.specs.Prelude.{ℕ, Bool, true, false, List, [], ◌∷◌, ◌++◌, codes, if◌then◌else◌}
use Rattle.rr_connection.specs.Answer.{ReplyView as ResponseView}
use Rattle.rr_web.specs.declared.reply.Status.{Status}
use Rattle.rr_web.specs.declared.reply.Status.TheVariants as status
use Rattle.rr_web.specs.declared.reply.Kind.{Kind}
use Rattle.rr_web.specs.declared.reply.Kind.TheVariants as kind
use Rattle.rr_web.specs.Reply.{ReplyView}

abbrev pub code_of : Status → ℕ
code_of status.Ok = 200
code_of status.NoContent = 204
code_of status.BadRequest = 400
code_of status.NotFound = 404
code_of status.OnlyPost = 405
code_of status.OnlyGet = 405
code_of status.UnknownCoding = 415
code_of status.Failed = 500
code_of status.Busy = 503

-- the media type of a text
abbrev pub media_type : Kind → List ℕ
media_type kind.Csv = codes "text/csv; charset=utf-8"
media_type kind.Json = codes "application/json"
media_type kind.Plain = codes "text/plain; charset=utf-8"
media_type kind.Metrics = codes "text/plain; version=0.0.4; charset=utf-8"
media_type kind.Html = codes "text/html; charset=utf-8"
media_type kind.Script = codes "text/javascript; charset=utf-8"
media_type kind.Style = codes "text/css; charset=utf-8"

-- what a status comes with: the product with 204, the methods with 405, the coding with 415, the seconds with 503
abbrev pub status_fields : List ℕ → Status → List (List ℕ × List ℕ)
status_fields product status.NoContent = (codes "x-influxdb-version", product) ∷ []
status_fields product status.OnlyPost = (codes "allow", codes "POST") ∷ []
status_fields product status.OnlyGet = (codes "allow", codes "GET, HEAD") ∷ []
status_fields product status.UnknownCoding = (codes "accept-encoding", codes "identity") ∷ []
status_fields product status.Busy = (codes "retry-after", codes "1") ∷ []
status_fields product other = []

-- what a page may load: scripts, styles and answers of its own node
abbrev pub policy : List ℕ
policy = codes "default-src 'none'; script-src 'self'; style-src 'self'; connect-src 'self'; base-uri 'none'; form-action 'none'; frame-ancestors 'none'"

abbrev pub policy_fields : Kind → List (List ℕ × List ℕ)
policy_fields kind.Html = (codes "content-security-policy", policy) ∷ []
policy_fields other = []

-- the fields of a text: its kind, which a browser mustn't guess; that the text mustn't be kept; and the policy of a
-- page
abbrev pub text_fields : Kind → List (List ℕ × List ℕ)
text_fields kind =
    (codes "content-type", media_type kind) ∷ (codes "x-content-type-options", codes "nosniff")
    ∷ (codes "cache-control", codes "no-store") ∷ policy_fields kind

abbrev pub has_text : Status → Bool
has_text status.NoContent = false
has_text other = true

abbrev pub fields_of : List ℕ → Status → Kind → List (List ℕ × List ℕ)
fields_of product status kind = status_fields product status ++ (if has_text status then text_fields kind else [])

-- the body: none with 204
abbrev pub body_of : Status → List ℕ → List ℕ
body_of status text = if has_text status then text else []

-- the response of a reply, after which its connection stays open
abbrev pub response_of : List ℕ → ReplyView → ResponseView
response_of product reply = record {
  status = code_of reply.status;
  fields = fields_of product reply.status reply.kind;
  body = body_of reply.status reply.text;
  closes = false;
}
