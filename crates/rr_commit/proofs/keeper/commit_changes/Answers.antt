use Rattle.std.proofs.Common.{rules, subst, [], map, List}
use Rattle.rr_changes.specs.declared.changed_series.ChangedSeries.{ChangedSeries}
use Rattle.rr_changes.specs.Listing.{changes_of}
use Rattle.rr_desk.specs.KeeperState.{cells_of}
use Rattle.rr_journal.specs.declared.raw.RawRecord.{RawRecord}
use Rattle.rr_journal.specs.Text.{raw_of}
use Rattle.rr_commit.specs.Committing.{IsCommitted}
use Rattle.rr_commit.specs.Packing.{ArePacked}
use Rattle.rr_commit.proofs.CommittingLemmas.{changes_committed, if_refused, nothing_committed}
use Rattle.rr_commit.proofs.keeper.commit_changes.Goals as goal

pub returns-in_err-series-clause-refused : goal.returns-in_err-series-clause-refused
returns-in_err-series-clause-refused g c =
    if_refused c.from_residual.result (λ fault other. (
      [],
      nothing_committed (g.J.Journal.synced c.args.journal.now)
          (g.J.Journal.text c.args.journal.now) c.args.cursor.now (search rules) c.requires,
    ))

pub returns-in_err-records-clause-refused : goal.returns-in_err-records-clause-refused
returns-in_err-records-clause-refused g c =
    if_refused c.from_residual-in_err-records.result (λ fault other. (
      [],
      nothing_committed
          (g.J.Journal.synced c.args.journal.now) (g.J.Journal.text c.args.journal.now) c.args.cursor.now (search rules)
          c.requires,
    ))

pub returns-clause-committed : goal.returns-clause-committed
returns-clause-committed g c =
    let k = c.args.keeper.now in
    changes_committed k c.in_ok-series.series.items c.in_ok-records.records.items
    (g.J.Journal.synced c.args.journal.now) (g.J.Journal.synced c.commit_all.new.journal)
    (g.J.Journal.text c.commit_all.new.journal) c.args.cursor.now c.commit_all.new.cursor
    c.in_ok-series.ensures
    (subst (λ (series : List ChangedSeries). ArePacked (map (changes_of k.schema (cells_of k)) series)
    c.in_ok-records.records.items) c.deref.ensures.value c.in_ok-records.ensures)
    (subst (λ (records : List RawRecord). IsCommitted (map raw_of records) (g.J.Journal.synced c.args.journal.now)
    (g.J.Journal.synced c.commit_all.new.journal) (g.J.Journal.text c.commit_all.new.journal) c.args.cursor.now
    c.commit_all.new.cursor) c.deref-2.ensures.value c.in_ok-commit_all.ensures)
