use Rattle.rr_journal.proofs.KeepingLemmas.{three}
use Rattle.rr_journal.proofs.committing.append_record.Goals as goal

pub returns-clause-text : goal.returns-clause-text
returns-clause-text g c =
    three (g.J.Journal.text c.args.journal.now) (g.J.Journal.text c.append.new.self)
    (g.J.Journal.text c.append-2.new.self) (g.J.Journal.text c.append-3.new.self) c.args.digest.now c.head.result
    c.args.body.now c.link-own.result c.args.kind c.head.ensures c.link-own.ensures c.in_ok-append.ensures.text
    c.in_ok-append-2.ensures.text c.in_ok-append-3.ensures.text
