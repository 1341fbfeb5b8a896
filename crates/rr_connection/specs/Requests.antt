-- Requests as they are given, and where they stand in a stream.
use Rattle.std.specs.Prelude.{ℕ, Bool, not, ◌&&◌, List, [], ◌∷◌, ◌++◌, map, take, codes}
use Rattle.std.specs.List.{list_any}
use Rattle.std.specs.Str.{str_eq_ignore_ascii_case}
use Rattle.httparse.specs.Spans.{span_bytes, header_bytes, name_and_value}
use Rattle.httparse.specs.declared.spans.HeaderSpan.{HeaderSpan}
use Rattle.httparse.specs.declared.spans.RequestSpans.{RequestSpans}
use Rattle.http1.specs.declared.conn.Limits.{Limits}
use Rattle.http1.specs.Fields.{Header}
use Rattle.http1.specs.Message as Wire
use Rattle.http1.specs.Message.{ReadsRequests}
use Rattle.rr_connection.specs.declared.request.Request.{Request}

-- a request as it is given
pub record RequestView : Type 0 where
  pub method : List ℕ
  pub target : List ℕ
  pub is_encoded : Bool
  pub body : List ℕ

abbrev pub request_view : Request → RequestView
request_view r = record { method = r.method.items; target = r.target.items; is_encoded = r.is_encoded; body = r.body.items }

-- a field is a content coding other than `identity`
abbrev pub is_coding : Header → Bool
is_coding h = str_eq_ignore_ascii_case h.0 (codes "content-encoding") && not (str_eq_ignore_ascii_case h.1 (codes "identity"))

-- what is given of a request of the grammar
abbrev pub given_of : Wire.Request → RequestView
given_of m = record {
  method = m.head.method;
  target = m.head.target;
  is_encoded = list_any is_coding (map name_and_value m.head.fields);
  body = m.body.bytes;
}

-- what is given of a request whose head is at these places of the input, with no byte of its body
abbrev pub begun_at : List ℕ → List HeaderSpan → RequestSpans → RequestView
begun_at input spans head = record {
  method = span_bytes input head.method;
  target = span_bytes input head.path;
  is_encoded = list_any is_coding (map (header_bytes input) (take head.headers spans));
  body = [];
}

-- whatever more is received, the stream begins with these requests, and what is unread follows them
abbrev pub ReadsOn : Limits → List ℕ → List Wire.Request → List ℕ → Type 0
ReadsOn limits received requests unread =
    (more : List ℕ) → ReadsRequests limits (received ++ more) requests (unread ++ more)

-- after these requests, the stream has this one, whole
abbrev pub GoesOnWith : Limits → List ℕ → List Wire.Request → Wire.Request → Type 0
GoesOnWith limits stream requests m = (rest : List ℕ) × ReadsRequests limits stream (requests ++ m ∷ []) rest
