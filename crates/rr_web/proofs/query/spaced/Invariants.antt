use Rattle.std.proofs.Common.{◌≡◌, map, take}
use Rattle.form_urlencoded.specs.Form.{plus_to_space}
use Rattle.rr_web.proofs.query.spaced.Given as goal

abbrev pub invariant-loop-byte : goal.invariant-loop-byte
invariant-loop-byte l = l.spaced.items ≡ map plus_to_space (take l.byte-index l.text)
