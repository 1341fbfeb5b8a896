use Rattle.std.proofs.Common.{◌≡◌, ◌++◌, map}
use Rattle.rr_batch.specs.Refusals.{count_view, named_count}
use Rattle.rr_batch.proofs.refusals.RefusalCounts.to_lines.Given as goal

-- the lines of the names so far, and those of the names that are left
abbrev pub invariant-loop-name : goal.invariant-loop-name
invariant-loop-name l =
    map count_view l.counts.items ++ map named_count l.name-iterator ≡ map named_count l.self.named.entries
