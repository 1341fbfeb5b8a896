use Rattle.std.proofs.Common.{◌≡◌, map, take}
use Rattle.http1.specs.Head.{pairs}
use Rattle.rr_connection.specs.Answer.{header_of}
use Rattle.rr_connection.proofs.answering.headers_of.Given as goal

abbrev pub invariant-loop-field : goal.invariant-loop-field
invariant-loop-field l = pairs l.headers.items ≡ map header_of (take l.field-index l.fields)
