use Rattle.std.proofs.Common.{◌≡◌, ◌+◌, ◌≤◌, map, drop}
use Rattle.rr_journal.specs.declared.witness.TheConstants.{WITNESS_LEN}
use Rattle.rr_journal.specs.declared.step.TheConstants.{MAX_UNSYNCED}
use Rattle.rr_journal.specs.Text.{raw_of, records_len}
use Rattle.rr_journal.proofs.committing.batch_len.Given as goal

-- so many bytes have a witness and those before, and those that are left have the others
abbrev pub invariant-loop-raw : goal.invariant-loop-raw
invariant-loop-raw l = record {
  so_far : l.len + records_len (map raw_of (drop l.raw-index l.records)) ≡ WITNESS_LEN + records_len (map raw_of l.records);
  few : l.len ≤ MAX_UNSYNCED;
}
