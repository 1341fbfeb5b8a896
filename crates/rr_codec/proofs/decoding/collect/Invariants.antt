use Rattle.std.proofs.Common.{◌≡◌, ◌-◌}
use Rattle.rr_codec.specs.Reading.{cells_at}
use Rattle.rr_codec.proofs.LoopLemmas.{with_prefix}
use Rattle.rr_codec.proofs.decoding.collect.Given as goal

abbrev pub invariant-loop : goal.invariant-loop
invariant-loop l =
    with_prefix l.cells.items (cells_at l.known (l.count - l.counter) l.rest) ≡ cells_at l.initial.known l.count l.bytes
