use Rattle.std.proofs.Common.{◌≤◌, length}
use Rattle.std.specs.List.{AllByRecursion}
use Rattle.rr_journal.specs.declared.raw.TheConstants.{MAX_BODY_LEN}
use Rattle.rr_server.proofs.node.loading.push_records.Given as goal

-- the records so far can be written
abbrev pub invariant-loop : goal.invariant-loop
invariant-loop g l = AllByRecursion (λ raw. length raw.body.items ≤ MAX_BODY_LEN) l.records.items
