-- The laws of the texts of journals.
use Rattle.std.specs.Prelude.{◌≡◌, ◌≢◌, ◌↔◌, ◌⊎◌, ℕ, ◌+◌, ◌<◌, ◌^◌, ◌≤◌, true, List, [], ◌∷◌, ◌++◌, length, take, None, MatchOption, Ok, All}
use Rattle.rr_schema.specs.Schema.{Layout, IsLayout}
use Rattle.rr_journal.specs.declared.cursor.Cursor.{Cursor}
use Rattle.rr_journal.specs.declared.digest.TheConstants.{DIGEST_LEN}
use Rattle.rr_journal.specs.declared.step.TheConstants.{MAX_UNSYNCED}
use Rattle.rr_journal.specs.Body.{Meaning, IsMeaning, raw_text, record_meaning}
use Rattle.rr_journal.specs.Cursor.{IsCursor}
use Rattle.rr_journal.specs.Digest.{cut_digest}
use Rattle.rr_journal.specs.Header.{header_at, header_text}
use Rattle.rr_journal.specs.Witness.{witness_record, was_synced}
use Rattle.rr_journal.specs.Reading.{IsDamage, followed_by, record_at, records_of, stop_before, stop_of}
use Rattle.rr_journal.specs.Text.{Raw, AllFit, after, as_first, chain, record_text, records_text, whole_within}

-- each of these numbers is a byte
abbrev pub AreBytes : List ℕ → Type 0
AreBytes bytes = All (λ b. b < 2 ^ 8) bytes

-- bytes are read as these records and this rest exactly if they are the text of the records, whose bodies fit, and then
-- the rest, which begins with no whole record: so what is read chains, record by record, from the digest before it
abbrev pub RecordsAreTheirText : Type 0
RecordsAreTheirText =
    (before bytes : List ℕ) (rs : List Raw) (rest : List ℕ) → AreBytes bytes
    → (records_of before bytes ≡ (rs, rest)) ↔ (AllFit rs × (bytes ≡ records_text before rs ++ rest)
    × (record_at (chain before rs) rest ≡ None))

-- records are read one by one: the first, and then the others after its digest; if no whole one is there, all bytes are
-- left, and the reading stops for the reason that they give
abbrev pub RecordsAreReadInTurn : Type 0
RecordsAreReadInTurn =
    (before bytes : List ℕ) → MatchOption (record_at before bytes)
    ((records_of before bytes ≡ ([], bytes)) × (stop_of before bytes ≡ stop_before bytes))
    (λ x. records_of before bytes ≡ followed_by (x.0 ∷ []) (records_of (after before x.0) x.1))

-- what follows a text is read after its records: so records appended to what was read continue it
abbrev pub RecordsGoOn : Type 0
RecordsGoOn =
    (before : List ℕ) (rs : List Raw) (more : List ℕ) → AllFit rs
    → records_of before (records_text before rs ++ more) ≡ followed_by rs (records_of (chain before rs) more)

-- the text of records, and then that of others chained to them, is their text together
abbrev pub TextsGoOn : Type 0
TextsGoOn =
    (before : List ℕ) (rs ss : List Raw)
    → records_text before (rs ++ ss) ≡ records_text before rs ++ records_text (chain before rs) ss

-- so a text is read as its records
abbrev pub TextsAreRead : Type 0
TextsAreRead = (before : List ℕ) (rs : List Raw) → AllFit rs → records_of before (records_text before rs) ≡ (rs, [])

-- from a prefix of a text, the records that are whole in it are read, and what is left is never taken for damage
abbrev pub PrefixesAreRead : Type 0
PrefixesAreRead =
    (before : List ℕ) (rs : List Raw) (n : ℕ) → AllFit rs
    → ((records_of before (take n (records_text before rs))).0 ≡ whole_within n rs)
    × ¬ IsDamage (stop_of before (take n (records_text before rs)))

-- records are read whatever follows them, if that is no more than a writer leaves unsynced, and it is never taken for
-- damage
abbrev pub SyncedIsRead : Type 0
SyncedIsRead =
    (before : List ℕ) (rs : List Raw) (tail : List ℕ) → AllFit rs → length tail ≤ MAX_UNSYNCED
    → ((later : List Raw) × ((records_of before (records_text before rs ++ tail)).0 ≡ rs ++ later))
    × ¬ IsDamage (stop_of before (records_text before rs ++ tail))

-- so are the records that were committed behind these, their text appended to theirs
abbrev pub CommittedIsRead : Type 0
CommittedIsRead =
    (before : List ℕ) (rs added : List Raw) (tail : List ℕ) → AllFit rs → AllFit added → length tail ≤ MAX_UNSYNCED
    → ((later : List Raw)
    × ((records_of before ((records_text before rs ++ records_text (chain before rs) added) ++ tail)).0
    ≡ (rs ++ added) ++ later))
    × ¬ IsDamage (stop_of before ((records_text before rs ++ records_text (chain before rs) added) ++ tail))

-- a witness that was written is found among bytes that aren't read, wherever it stands behind the first of them: so whatever
-- became of what was synced before it, that is told from a torn tail
abbrev pub WitnessesAreFound : Type 0
WitnessesAreFound =
    (key : List ℕ) (offset : ℕ) (bad before rest : List ℕ) → 1 ≤ length bad → offset + length bad < 2 ^ 64
    → was_synced key offset (bad ++ (record_text before (witness_record key (offset + length bad)) ++ rest)) ≡ true

-- two texts with the same cut digest
pub record Collision : Type 0 where
  pub one : List ℕ
  pub other : List ℕ
  pub differ : one ≢ other
  pub same : cut_digest one ≡ cut_digest other

-- two histories of as many records end at the same digest only if they are the same and began at the same digest, or
-- two texts have the same cut digest: so a record that is changed, lost, repeated or exchanged shows in each digest
-- behind it
abbrev pub DigestsTellHistories : Type 0
DigestsTellHistories =
    (before other : List ℕ) (rs ss : List Raw) → length before ≡ DIGEST_LEN → length other ≡ DIGEST_LEN
    → length rs ≡ length ss → chain before rs ≡ chain other ss → ((before ≡ other) × (rs ≡ ss)) ⊎ Collision

-- a header that was written is read, whatever follows it
abbrev pub HeadersAreRead : Type 0
HeadersAreRead = (s : Layout) (c : Cursor) (more : List ℕ) → IsLayout s → IsCursor c
    → header_at s (header_text s c ++ more) ≡ Ok (c, more)

-- a record means what was written, even as the first one after a sync
abbrev pub BodiesAreRead : Type 0
BodiesAreRead = (s : Layout) (m : Meaning) → IsMeaning s m
    → (record_meaning s (raw_text m) ≡ Ok m) × (record_meaning s (as_first (raw_text m)) ≡ Ok m)
