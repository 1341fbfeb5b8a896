-- The reading of records, as a total function of the bytes.
use Rattle.std.specs.Prelude.{ℕ, zero, suc, ◌+◌, nat_le, nat_lt, nat_eq, Bool, ◌&&◌, ◌==◌, List, [], ◌∷◌, ◌++◌, length, take, drop, get_or, Option, None, Some, if◌then◌else◌}
use Rattle.std.specs.Cmp.Lexicographic.{pointwise}
use Rattle.std.specs.Int.{w32, from_be_bytes}
use Rattle.rr_journal.specs.declared.digest.TheConstants.{DIGEST_LEN}
use Rattle.rr_journal.specs.declared.raw.TheConstants.{HEAD_LEN, MAX_BODY_LEN}
use Rattle.rr_journal.specs.declared.step.TheConstants.{MAX_UNSYNCED}
use Rattle.rr_journal.specs.declared.step.Stop.{Stop}
use Rattle.rr_journal.specs.declared.step.Stop.TheVariants.{End, Torn, Damaged}
use Rattle.rr_journal.specs.declared.fault.JournalFault.{JournalFault}
use Rattle.rr_journal.specs.declared.fault.JournalFault.TheVariants.{TooLong, BadDigest}
use Rattle.rr_journal.specs.Text.{Raw, after}

-- ---- one record

-- the length that the first bytes of a record state, and the kind
abbrev pub stated_len : List ℕ → ℕ
stated_len head = from_be_bytes w32 (take 4 head)

abbrev pub stated_kind : List ℕ → ℕ
stated_kind head = get_or head 4 0

-- how many bytes follow the head of a record: the body and the digest
abbrev pub tail_len : List ℕ → ℕ
tail_len head = stated_len head + DIGEST_LEN

-- the record that a head and a tail make
abbrev pub made_of : List ℕ → List ℕ → Raw
made_of head tail = record { kind = stated_kind head; body = take (stated_len head) tail }

-- whether a head and a tail are a record after a digest: both are whole, the length is not too great, and the digest is
-- the record's own
unfoldable pub is_whole : List ℕ → List ℕ → List ℕ → Bool
is_whole before head tail =
    (length head == HEAD_LEN)
    && (nat_le (stated_len head) MAX_BODY_LEN
    && ((length tail == tail_len head)
    && pointwise nat_eq (drop (stated_len head) tail) (after before (made_of head tail))))

-- the record after a head, and what follows it
abbrev pub record_after : List ℕ → List ℕ → List ℕ → Option (Raw × List ℕ)
record_after before head rest =
    if is_whole before head (take (tail_len head) rest) then Some
    (made_of head (take (tail_len head) rest), drop (tail_len head) rest)
    else None

-- the record at the beginning of bytes after a digest, if a whole one is there, and what follows it
abbrev pub record_at : List ℕ → List ℕ → Option (Raw × List ℕ)
record_at before bytes = record_after before (take HEAD_LEN bytes) (drop HEAD_LEN bytes)

-- ---- all records

-- a record, if there is one, before those that follow it; if there is none, all bytes are left
abbrev pub with_first : List ℕ → (Raw × List ℕ → List Raw × List ℕ) → Option (Raw × List ℕ) → List Raw × List ℕ
with_first bytes later None = ([], bytes)
with_first bytes later (Some x) = (x.0 ∷ (later x).0, (later x).1)

-- at most `n` records after a digest, and what is left
unfoldable pub first_records : ℕ → List ℕ → List ℕ → List Raw × List ℕ
first_records zero before bytes = ([], bytes)
first_records (suc n) before bytes =
    with_first bytes (λ x. first_records n (after before x.0) x.1) (record_at before bytes)

-- the records from the beginning of the bytes up to where none is whole, and what is left; each has more than one byte
abbrev pub records_of : List ℕ → List ℕ → List Raw × List ℕ
records_of before bytes = first_records (length bytes) before bytes

-- records, and then what is read after them
abbrev pub followed_by : List Raw → List Raw × List ℕ → List Raw × List ℕ
followed_by rs x = (rs ++ x.0, x.1)

-- ---- why the reading stopped

-- if many bytes are left: they state too great a length, or have another digest
abbrev pub fault_at : List ℕ → JournalFault
fault_at bytes = if nat_lt MAX_BODY_LEN (stated_len (take HEAD_LEN bytes)) then TooLong else BadDigest

-- by how many bytes are left: none; no more than a writer leaves unsynced; or more, so that synced ones are damaged
abbrev pub stop_at : JournalFault → ℕ → Stop
stop_at fault left =
    if left == 0 then End else (if nat_le left MAX_UNSYNCED then Torn else Damaged fault)

-- at bytes that begin with no whole record
abbrev pub stop_before : List ℕ → Stop
stop_before bytes = stop_at (fault_at bytes) (length bytes)

abbrev pub stop_of : List ℕ → List ℕ → Stop
stop_of before bytes = stop_before (records_of before bytes).1

-- what was synced is damaged
abbrev pub IsDamage : Stop → Type 0
IsDamage End = ⊥
IsDamage Torn = ⊥
IsDamage (Damaged fault) = Unit {0}
