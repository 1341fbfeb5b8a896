use Rattle.std.proofs.Common.{◌≡◌, ◌-◌}
use Rattle.rr_codec.specs.Reading.{cells_at, rest_of}
use Rattle.rr_codec.proofs.decoding.skip.Given as goal

abbrev pub invariant-loop : goal.invariant-loop
invariant-loop l =
    rest_of (cells_at l.known (l.count - l.counter) l.rest) ≡ rest_of (cells_at l.initial.known l.count l.bytes)
