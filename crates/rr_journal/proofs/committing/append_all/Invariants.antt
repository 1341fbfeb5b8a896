use Rattle.std.proofs.Common.{◌≡◌, map, drop}
use Rattle.std.specs.Io.KnownBytes.{append_known}
use Rattle.rr_journal.specs.Text.{raw_of, records_text, chain}
use Rattle.rr_journal.proofs.KeepingLemmas.{GoesOn}
use Rattle.rr_journal.proofs.committing.append_all.Given as goal

-- the records that are left go on
abbrev pub invariant-loop-raw : goal.invariant-loop-raw
invariant-loop-raw g l = record {
  goes_on : GoesOn (g.J.Journal.text l.journal) l.digest (map raw_of (drop l.raw-index l.records))
      (append_known (g.J.Journal.text l.initial.journal) (records_text l.initial.digest (map raw_of l.records)))
      (chain l.initial.digest (map raw_of l.records));
  synced : g.J.Journal.synced l.journal ≡ g.J.Journal.synced l.initial.journal;
}
