-- Places in a journal.
use Rattle.std.specs.Prelude.{◌≡◌, ℕ, ◌+◌, ◌-◌, ◌^◌, ◌<◌, min, List, ◌++◌, length, replicate}
use Rattle.std.specs.Int.{w64, to_be_bytes}
use Rattle.rr_journal.specs.declared.cursor.Cursor.{Cursor}
use Rattle.rr_journal.specs.declared.cursor.TheConstants.{ID_LEN}
use Rattle.rr_journal.specs.declared.digest.TheConstants.{DIGEST_LEN}
use Rattle.rr_journal.specs.Text.{Raw, record_len, records_len, after, chain}

-- a cursor that has a text
pub record IsCursor (c : Cursor) : Type 0 where
  pub id : length c.id ≡ ID_LEN
  pub offset : c.offset < 2 ^ 64
  pub digest : length c.digest ≡ DIGEST_LEN

-- where a journal begins
abbrev pub start : List ℕ → Cursor
start id = record { id = id; offset = 0; digest = replicate DIGEST_LEN 0 }

-- the id in sixteen bytes, the offset in eight, and the digest in eight
unfoldable pub cursor_text : Cursor → List ℕ
cursor_text c = c.id ++ (to_be_bytes w64 c.offset ++ c.digest)

-- an offset this many bytes on; it stops at the greatest one
abbrev pub moved_by : ℕ → ℕ → ℕ
moved_by len offset = min (offset + len) (2 ^ 64 - 1)

-- the place behind a record
abbrev pub behind : Cursor → Raw → Cursor
behind c r = record { id = c.id; offset = moved_by (record_len r) c.offset; digest = after c.digest r }

-- the place behind records
abbrev pub behind_all : Cursor → List Raw → Cursor
behind_all c rs = record { id = c.id; offset = moved_by (records_len rs) c.offset; digest = chain c.digest rs }
