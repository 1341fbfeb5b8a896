-- Fields at the beginning of bytes, each number big-endian.
use Rattle.std.specs.Prelude.{ℕ, nat_lt, List, length, take, drop, Result, Ok}
use Rattle.std.specs.Int.{Width, byte_len, w64, from_be_bytes}
use Rattle.rr_text.specs.Results.{◌>>=◌, unless}
use Rattle.rr_journal.specs.declared.cursor.Cursor.{Cursor}
use Rattle.rr_journal.specs.declared.cursor.TheConstants.{ID_LEN}
use Rattle.rr_journal.specs.declared.digest.TheConstants.{DIGEST_LEN}
use Rattle.rr_journal.specs.declared.fault.JournalFault.{JournalFault}
use Rattle.rr_journal.specs.declared.fault.JournalFault.TheVariants.{Short}

-- `len` bytes, and what follows them
abbrev pub prefix_at : ℕ → List ℕ → Result (List ℕ × List ℕ) JournalFault
prefix_at len bytes = unless Short (nat_lt (length bytes) len) (Ok (take len bytes, drop len bytes))

-- a number of a width, and what follows it
abbrev pub number_at : Width → List ℕ → Result (ℕ × List ℕ) JournalFault
number_at w bytes = prefix_at (byte_len w) bytes >>= λ field. Ok (from_be_bytes w field.0, field.1)

-- a place in a journal, and what follows it
unfoldable pub cursor_at : List ℕ → Result (Cursor × List ℕ) JournalFault
cursor_at bytes = do
  id ← prefix_at ID_LEN bytes
  offset ← number_at w64 id.1
  digest ← prefix_at DIGEST_LEN offset.1
  Ok (record { id = id.0; offset = offset.0; digest = digest.0 }, digest.1)
