use Rattle.std.proofs.Common.{rules, ◌≡◌, ℕ, zero, suc, ◌+◌, ◌<◌, ◌≤◌, List, [], ◌∷◌, ◌++◌, length, get_or, map, sym, ap, ◌∙◌, arith}
use Rattle.rr_journal.specs.declared.raw.RawRecord.{RawRecord}
use Rattle.std.specs.Int.{w64, to_be_bytes}
use Rattle.rr_journal.specs.Cursor.{moved_by}
use Rattle.rr_journal.specs.Witness.{batch_of}
use Rattle.rr_journal.specs.Text.{Raw, raw_of, records_len, chain}
use Rattle.rr_journal.proofs.RecordLemmas.{cut_len}
use Rattle.rr_journal.proofs.committing.commit.Goals as goal

-- each record is one of few bytes
each_fits : (rs : List RawRecord) (i : ℕ) (d : RawRecord) → i < length rs
    → length (get_or rs i d).body.items + 13 ≤ records_len (map raw_of rs)
each_fits [] i d lt = absurd (omega (arith, lt))
each_fits (r ∷ rs) zero d lt = omega arith
each_fits (r ∷ rs) (suc i) d lt = omega (arith, each_fits rs i d (omega (arith, lt)))

pub append_batch-requires : goal.append_batch-requires
append_batch-requires g c = λ i d lt. omega (arith, c.requires.few, each_fits c.args.records.now i d lt)

-- how many bytes a batch has
batch_len : (key : List ℕ) (offset : ℕ) (rs : List Raw) → records_len (batch_of key offset rs) ≡ 21 + records_len rs
batch_len key offset rs = omega (arith, cut_len (key ++ to_be_bytes w64 offset))

pub returns : goal.returns
returns g c =
    let key = g.J.Journal.key c.args.journal.now in
    let before = c.args.cursor.now in
    let rs = map raw_of c.args.records.now in
    let batch = batch_of key before.offset rs in
    let len : c.unwrap_or-len.result ≡ 21 + records_len rs = search rules in
    let offset : c.saturating_add-cursor.result ≡ moved_by (records_len batch) before.offset =
    c.saturating_add-cursor.ensures ∙ ap (λ (n : ℕ). moved_by n before.offset)
    (len ∙ sym (batch_len key before.offset rs)) in
    let digest : c.append_batch.new.digest ≡ chain before.digest batch = search rules in
    record {
      synced = search rules;
      nothing_more = search rules;
      moved = λ i. record { id = before.id; offset = offset i; digest = digest i };
    }
