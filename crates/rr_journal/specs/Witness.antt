-- Witnesses, by which damage is told from a torn tail.
use Rattle.std.specs.Prelude.{◌≡◌, ℕ, ◌+◌, nat_eq, Bool, false, ◌&&◌, ◌||◌, List, [], ◌∷◌, ◌++◌, length, drop}
use Rattle.std.specs.Int.{w32, w64, to_be_bytes}
use Rattle.std.specs.List.{starts_with}
use Rattle.rr_journal.specs.declared.digest.TheConstants.{DIGEST_LEN}
use Rattle.rr_journal.specs.declared.kind.TheConstants.{WITNESS}
use Rattle.rr_journal.specs.declared.raw.TheConstants.{FIRST, HEAD_LEN}
use Rattle.rr_journal.specs.Cursor.{moved_by}
use Rattle.rr_journal.specs.Digest.{cut_digest}
use Rattle.rr_journal.specs.Text.{Raw}

-- the witness of an offset under a key: the digest of both
abbrev pub witness_of : List ℕ → ℕ → List ℕ
witness_of key offset = cut_digest (key ++ to_be_bytes w64 offset)

-- its record, which is written only once all before it is synced
abbrev pub witness_record : List ℕ → ℕ → Raw
witness_record key offset = record { kind = WITNESS + FIRST; body = witness_of key offset }

-- the record of a witness, whatever its offset and key
abbrev pub IsWitness : Raw → Type 0
IsWitness r = (r.kind ≡ WITNESS + FIRST) × (length r.body ≡ DIGEST_LEN)

-- the records that are written between two syncs, from an offset on: a witness, and then these
abbrev pub batch_of : List ℕ → ℕ → List Raw → List Raw
batch_of key offset rs = witness_record key offset ∷ rs

-- ---- witnesses among bytes that aren't read as records

-- what the record of a witness begins with: the length of its body in four bytes, and its kind
abbrev pub witness_head : List ℕ
witness_head = to_be_bytes w32 DIGEST_LEN ++ ((WITNESS + FIRST) ∷ [])

-- whether bytes from an offset on begin with the record of its witness
unfoldable pub is_witness_at : List ℕ → ℕ → List ℕ → Bool
is_witness_at key offset bytes =
    starts_with nat_eq bytes witness_head && starts_with nat_eq (drop HEAD_LEN bytes) (witness_of key offset)

-- whether they have a witness somewhere
unfoldable pub has_witness : List ℕ → ℕ → List ℕ → Bool
has_witness key offset [] = false
has_witness key offset (b ∷ bs) = is_witness_at key offset (b ∷ bs) || has_witness key (moved_by 1 offset) bs

-- whether the bytes after the last whole record were synced at least in part, although they aren't read: a witness stands
-- in them, but at their beginning
abbrev pub was_synced : List ℕ → ℕ → List ℕ → Bool
was_synced key offset bytes = has_witness key (moved_by 1 offset) (drop 1 bytes)
