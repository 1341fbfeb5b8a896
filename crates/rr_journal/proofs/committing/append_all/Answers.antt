use Rattle.std.proofs.Common.{rules, Option, ◌≡◌, ◌+◌, ◌<◌, ◌≤◌, ℕ, List, [], ◌∷◌, map, drop, length, get_or, ap, subst, sym, refl, ◌∙◌}
use Rattle.std.proofs.lemmas.List.{drop_more, drop_all}
use Rattle.std.specs.Io.KnownBytes.{append_known}
use Rattle.rr_journal.specs.declared.raw.RawRecord.{RawRecord}
use Rattle.rr_journal.specs.Digest.{link}
use Rattle.rr_journal.specs.Text.{Raw, raw_of, record_text, records_text, chain}
use Rattle.rr_journal.proofs.KeepingLemmas.{GoesOn, one_more, none_left}
use Rattle.rr_journal.proofs.committing.append_all.Goals as goal

-- the record in turn is the first of those that are left
in_turn : (rs : List RawRecord) (i : ℕ) (r : RawRecord) → i < length rs → get_or rs i r ≡ r
    → map raw_of (drop i rs) ≡ raw_of r ∷ map raw_of (drop (i + 1) rs)
in_turn rs i r lt is = ap (map raw_of) (drop_more rs i r lt ∙ ap (λ (x : RawRecord). x ∷ drop (i + 1) rs) is)

nothing_left : (rs : List RawRecord) (i : ℕ) → length rs ≤ i → map raw_of (drop i rs) ≡ []
nothing_left rs i le = ap (map raw_of) (drop_all i rs le)

pub loop-raw-init : goal.loop-raw-init
loop-raw-init g c = record { goes_on = record { text_is = refl; end_is = refl }; synced = search rules }

pub append_record-requires : goal.append_record-requires
append_record-requires g c =
    let rs = c.args.records.now in
    let i = c.loop-raw.raw-index in
    let r = c.raw-item.result in
    let item : get_or rs i r ≡ r = search rules in
    let fits : length r.body.items ≤ 1048542 = subst (λ (x : RawRecord). length x.body.items ≤ 1048542) item
    (c.requires i r c.loop-raw-test.true) in
    subst (λ (l : List ℕ). length l ≤ 1048542) (sym c.as_slice.ensures.value) fits

pub loop-raw-preserved : goal.loop-raw-preserved
loop-raw-preserved g c =
    let rs = c.args.records.now in
    let i = c.loop-raw.raw-index in
    let r = c.raw-item.result in
    let item : get_or rs i r ≡ r = search rules in
    let now = g.J.Journal.text c.loop-raw.journal in
    let new = g.J.Journal.text c.append_record.new.journal in
    let text = append_known (g.J.Journal.text c.args.journal.now) (records_text c.args.digest.now (map raw_of rs)) in
    let end = chain c.args.digest.now (map raw_of rs) in
    let before = subst (λ (left : List Raw). GoesOn now c.loop-raw.digest left text end)
    (in_turn rs i r c.loop-raw-test.true item) c.loop-raw.invariant.goes_on in
    record {
      goes_on = one_more now new c.loop-raw.digest c.append_record.new.digest (raw_of r) (map raw_of (drop (i + 1) rs))
          text end before
          (subst (λ (l : List ℕ). new ≡ append_known now (record_text c.loop-raw.digest
          (record { kind = r.kind; body = l }))) c.as_slice.ensures.value c.in_ok-append_record.ensures.text)
          (c.in_ok-append_record.ensures.digest ∙ ap (link c.loop-raw.digest r.kind) c.as_slice.ensures.value);
      synced = c.in_ok-append_record.ensures.synced ∙ c.loop-raw.invariant.synced;
    }

at_end : (rs : List RawRecord) (i : ℕ) (now text : Option (List ℕ)) (digest end : List ℕ) → length rs ≤ i
    → GoesOn now digest (map raw_of (drop i rs)) text end → GoesOn now digest [] text end
at_end rs i now text digest end le g = subst (λ (left : List Raw). GoesOn now digest left text end) (nothing_left rs i le) g

pub returns-clause-text : goal.returns-clause-text
returns-clause-text g c =
    let rs = c.args.records.now in
    let now = g.J.Journal.text c.loop-raw.journal in
    let text = append_known (g.J.Journal.text c.args.journal.now) (records_text c.args.digest.now (map raw_of rs)) in
    let end = chain c.args.digest.now (map raw_of rs) in
    none_left now c.loop-raw.digest text end (at_end rs c.loop-raw.raw-index now text c.loop-raw.digest end
    c.loop-raw-test.false c.loop-raw.invariant.goes_on)

pub returns-clause-digest : goal.returns-clause-digest
returns-clause-digest g c =
    let rs = c.args.records.now in
    let now = g.J.Journal.text c.loop-raw.journal in
    let text = append_known (g.J.Journal.text c.args.journal.now) (records_text c.args.digest.now (map raw_of rs)) in
    let end = chain c.args.digest.now (map raw_of rs) in
    (at_end rs c.loop-raw.raw-index now text c.loop-raw.digest end c.loop-raw-test.false
    c.loop-raw.invariant.goes_on).end_is
