use Rattle.std.proofs.Common.{◌≡◌, map, take}
use Rattle.std.specs.List.{list_any}
use Rattle.httparse.specs.Spans.{header_bytes}
use Rattle.rr_connection.specs.Requests.{is_coding}
use Rattle.rr_connection.proofs.coding.has_coding.Given as goal

abbrev pub invariant-loop-header : goal.invariant-loop-header
invariant-loop-header l = l.found ≡ list_any is_coding (map (header_bytes l.input) (take l.header-index l.headers))
