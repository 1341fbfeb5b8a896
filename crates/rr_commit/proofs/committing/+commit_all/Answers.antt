use Rattle.std.proofs.Common.{rules, ◌≡◌, ◌++◌, ◌∙◌, map, sym, ap, subst, take-append-drop, List}
use Rattle.std.proofs.lemmas.List.{map-append}
use Rattle.rr_journal.specs.Text.{Raw, raw_of}
use Rattle.rr_commit.specs.Committing.{CommitsAll}
use Rattle.rr_commit.proofs.CommittingLemmas.{few_of_one, nothing_to_commit, one_batch, then_others}
use Rattle.rr_commit.proofs.committing.+commit_all.Goals.{then-records-lt2-via-then-records-lt2, then-records-lt2-via-else-records-lt2+then-fits_between_syncs}
use Rattle.rr_commit.proofs.committing.+commit_all.Goals as goal

pub commit-requires-clause-few : goal.commit-requires-clause-few
commit-requires-clause-few g t c = elim c.then-records-lt2.branch [
  | then-records-lt2-via-then-records-lt2 w ↦ few_of_one c.args.records.now (search rules) c.requires.fit
  | then-records-lt2-via-else-records-lt2+then-fits_between_syncs w ↦ search rules
]

pub returns-then-is_empty : goal.returns-then-is_empty
returns-then-is_empty g t c =
    nothing_to_commit c.args.records.now (g.J.Journal.synced c.args.journal.now) (g.J.Journal.text c.args.journal.now)
    c.args.cursor.now (search rules) (search rules) c.requires.synced

pub returns-then-records-lt2 : goal.returns-then-records-lt2
returns-then-records-lt2 g t c =
    one_batch (g.J.Journal.key c.args.journal.now) (map raw_of c.args.records.now) (g.J.Journal.synced c.args.journal.now)
    (g.J.Journal.synced c.commit.new.journal) (g.J.Journal.text c.commit.new.journal) c.args.cursor.now
    c.commit.new.cursor c.commit.result (search rules) c.commit.ensures

pub returns : goal.returns
returns g t c =
    let first = c.split_at.result.0.now in
    let others = c.split_at.result.1.now in
    let whole : first ++ others ≡ c.args.records.now =
    (λ i. c.split_at.ensures.front i ++ c.split_at.ensures.back i) ∙ take-append-drop _ c.args.records.now in
    let raws : map raw_of first ++ map raw_of others ≡ map raw_of c.args.records.now =
    sym (map-append raw_of first others) ∙ ap (map raw_of) whole in
    subst (λ (rs : List Raw). CommitsAll rs (g.J.Journal.synced c.args.journal.now)
    (g.J.Journal.synced c.commit_all-2.new.journal) (g.J.Journal.text c.commit_all-2.new.journal) c.args.cursor.now
    c.commit_all-2.new.cursor c.commit_all-2.result) raws
    (then_others (map raw_of first) (map raw_of others) (g.J.Journal.synced c.args.journal.now)
    (g.J.Journal.synced c.commit_all.new.journal) (g.J.Journal.synced c.commit_all-2.new.journal)
    (g.J.Journal.text c.commit_all.new.journal) (g.J.Journal.text c.commit_all-2.new.journal) c.args.cursor.now
    c.commit_all.new.cursor c.commit_all-2.new.cursor c.commit_all-2.result c.in_ok-commit_all.ensures
    c.commit_all-2.ensures)
