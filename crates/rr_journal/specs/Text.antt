-- The text of a journal's records.
use Rattle.std.specs.Prelude.{ℕ, ◌+◌, ◌-◌, ◌%◌, ◌≤◌, nat_le, List, [], ◌∷◌, ◌++◌, length, if◌then◌else◌}
use Rattle.std.specs.List.{AllByRecursion}
use Rattle.rr_journal.specs.declared.raw.RawRecord.{RawRecord}
use Rattle.rr_journal.specs.declared.raw.TheConstants.{MAX_BODY_LEN, BESIDES_LEN, FIRST}
use Rattle.rr_journal.specs.Digest.{undigested_text, link}

-- what a record has besides its length and its digest: its kind, whose highest bit says that it is the first one after
-- a sync, and its body
pub record Raw : Type 0 where
  pub kind : ℕ
  pub body : List ℕ

abbrev pub raw_of : RawRecord → Raw
raw_of r = record { kind = r.kind; body = r.body.items }

-- the body is within its limit
abbrev pub Fits : Raw → Type 0
Fits r = length r.body ≤ MAX_BODY_LEN

-- the bodies of all of these are
abbrev pub AllFit : List Raw → Type 0
AllFit rs = AllByRecursion Fits rs

-- the digest after a record
abbrev pub after : List ℕ → Raw → List ℕ
after before r = link before r.kind r.body

-- a record, and its own digest, chained to that of the record before it
unfoldable pub record_text : List ℕ → Raw → List ℕ
record_text before r = undigested_text r.kind r.body ++ after before r

-- the records after a digest, one after the other, each chained to the digest of the one before it
unfoldable pub records_text : List ℕ → List Raw → List ℕ
records_text before [] = []
records_text before (r ∷ rs) = record_text before r ++ records_text (after before r) rs

-- the digest after them
abbrev pub chain : List ℕ → List Raw → List ℕ
chain before [] = before
chain before (r ∷ rs) = chain (after before r) rs

-- how many bytes a record has
abbrev pub record_len : Raw → ℕ
record_len r = BESIDES_LEN + length r.body

-- and how many these have
abbrev pub records_len : List Raw → ℕ
records_len [] = 0
records_len (r ∷ rs) = record_len r + records_len rs

-- those of them that are whole within this many bytes
abbrev pub whole_within : ℕ → List Raw → List Raw
whole_within n [] = []
whole_within n (r ∷ rs) = if nat_le (record_len r) n then r ∷ whole_within (n - record_len r) rs else []

-- ---- between two syncs

-- a record as the first one after a sync
abbrev pub as_first : Raw → Raw
as_first r = record { kind = r.kind % FIRST + FIRST; body = r.body }
