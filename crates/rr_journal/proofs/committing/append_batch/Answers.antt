use Rattle.std.proofs.Common.{◌≡◌, ◌∙◌, List, ℕ, map, ap, subst}
use Rattle.std.specs.Io.KnownBytes.{append_known}
use Rattle.rr_journal.specs.Digest.{link}
use Rattle.rr_journal.specs.Witness.{witness_of, witness_record}
use Rattle.rr_journal.specs.Text.{raw_of, record_text}
use Rattle.rr_journal.proofs.KeepingLemmas.{map_ok, batch_text}
use Rattle.rr_journal.proofs.committing.append_batch.Goals as goal

pub returns-clause-text : goal.returns-clause-text
returns-clause-text g c =
    let k = g.J.Journal.text c.args.journal.now in
    let one = g.J.Journal.text c.append_record.new.journal in
    let digest = c.args.digest.now in
    let own : c.witness_of-witness.result ≡ witness_of (g.J.Journal.key c.args.journal.now) c.args.offset =
    c.witness_of-witness.ensures ∙ ap (λ b. witness_of b c.args.offset) c.key.ensures in
    map_ok c.append_all.result c.append_all.ensures.text
    (batch_text k one (g.J.Journal.text c.append_all.new.journal) digest c.append_record.new.digest
    (witness_record (g.J.Journal.key c.args.journal.now) c.args.offset) (map raw_of c.args.records.now)
    (c.in_ok-append_record.ensures.digest ∙ ap (link digest 133) own)
    (subst (λ (l : List ℕ). one ≡ append_known k (record_text digest (record { kind = 133; body = l }))) own
    c.in_ok-append_record.ensures.text))
