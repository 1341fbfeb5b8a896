use Rattle.std.proofs.Common.{◌≡◌, ◌-◌, map}
use Rattle.rr_delta.specs.Names.{owned_name}
use Rattle.rr_gossip.specs.SummaryReading.{entries_at}
use Rattle.rr_gossip.proofs.summary.push_entries.Given as goal

abbrev pub invariant-loop : goal.invariant-loop
invariant-loop l = entries_at l.schema (map owned_name l.names.items) (l.count - l.counter) l.rest
    ≡ entries_at l.schema (map owned_name l.initial.names.items) l.count l.bytes
