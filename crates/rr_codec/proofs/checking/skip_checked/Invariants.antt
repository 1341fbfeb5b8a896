use Rattle.std.proofs.Common.{◌≡◌, ◌-◌, None}
use Rattle.rr_codec.specs.Recent.{nothing_known}
use Rattle.rr_codec.specs.Reading.{cells_checked, rest_of}
use Rattle.rr_codec.proofs.checking.skip_checked.Given as goal

abbrev pub invariant-loop : goal.invariant-loop
invariant-loop l =
    rest_of (cells_checked l.schema l.archive l.before l.known (l.count - l.counter) l.rest)
    ≡ rest_of (cells_checked l.schema l.archive None (nothing_known l.span) l.count l.bytes)
