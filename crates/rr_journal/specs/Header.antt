-- What stands before the records in a file of a journal.
use Rattle.std.specs.Prelude.{◌≡◌, ℕ, ◌+◌, not, ◌||◌, nat_eq, ◌==◌, List, ◌∷◌, ◌++◌, length, take, drop, codes, Option, Some, IfSome, Result, Ok, Err, ◌⊎◌}
use Rattle.std.specs.Cmp.Lexicographic.{pointwise}
use Rattle.std.specs.Int.{w8, w16, to_be_bytes}
use Rattle.rr_text.specs.Results.{◌>>=◌, unless}
use Rattle.rr_schema.specs.Schema.{Layout}
use Rattle.rr_schema.specs.SchemaBytes.{schema_bytes}
use Rattle.rr_journal.specs.declared.fault.JournalFault.{JournalFault}
use Rattle.rr_journal.specs.declared.fault.JournalFault.TheVariants.{ReadFailed, Memory, BadMagic, BadVersion, BadDecimals, SchemaDiffers, BadDigest}
use Rattle.rr_journal.specs.declared.cursor.Cursor.{Cursor}
use Rattle.rr_journal.specs.declared.header.TheConstants.{DECIMALS, BESIDES_LEN}
use Rattle.rr_journal.specs.declared.digest.TheConstants.{DIGEST_LEN}
use Rattle.rr_journal.specs.Cursor.{cursor_text}
use Rattle.rr_journal.specs.Digest.{cut_digest}
use Rattle.rr_journal.specs.Fields.{prefix_at, number_at, cursor_at}

-- the bytes that every file of a journal begins with
abbrev pub magic : List ℕ
magic = codes "RRJN"

-- these, the version and the number of decimals in one byte each, the length of the schema in two and the schema, and
-- the place in the journal at which the file begins
unfoldable pub undigested_header : Layout → Cursor → List ℕ
undigested_header s c = magic ++ (2 ∷ (DECIMALS ∷ (to_be_bytes w16 (length (schema_bytes s)) ++ (schema_bytes s ++
    cursor_text c))))

-- and a digest of all of this
unfoldable pub header_text : Layout → Cursor → List ℕ
header_text s c = undigested_header s c ++ cut_digest (undigested_header s c)

-- how many bytes stand before the digest
abbrev pub undigested_len : Layout → ℕ
undigested_len s = BESIDES_LEN + length (schema_bytes s)

-- how many bytes a header has
abbrev pub header_len : Layout → ℕ
header_len s = undigested_len s + DIGEST_LEN

-- ---- its reading, field by field, up to the first fault

-- the magic, and what follows the version, 1 or 2, and the decimals
unfoldable pub start_at : List ℕ → Result (List ℕ) JournalFault
start_at bytes = do
  start ← prefix_at (length magic) bytes
  version ← unless BadMagic (not (pointwise nat_eq start.0 magic)) (number_at w8 start.1)
  decimals ← unless BadVersion (not ((version.0 == 2) || (version.0 == 1))) (number_at w8 version.1)
  unless BadDecimals (not (decimals.0 == DECIMALS)) (Ok decimals.1)

-- what follows a schema and its length
unfoldable pub after_schema : Layout → List ℕ → Result (List ℕ) JournalFault
after_schema s bytes = do
  len ← number_at w16 bytes
  own ← unless SchemaDiffers (not (len.0 == length (schema_bytes s))) (prefix_at (length (schema_bytes s)) len.1)
  unless SchemaDiffers (not (pointwise nat_eq own.0 (schema_bytes s))) (Ok own.1)

-- the place at which the file begins, and what follows the header
unfoldable pub header_at : Layout → List ℕ → Result (Cursor × List ℕ) JournalFault
header_at s bytes = do
  start ← start_at bytes
  place ← after_schema s start
  cursor ← cursor_at place
  check ← prefix_at DIGEST_LEN cursor.1
  unless BadDigest (not (pointwise nat_eq check.0 (cut_digest (take (undigested_len s) bytes)))) (Ok (cursor.0, check.1))

-- the header at the beginning of a stream, if its bytes are known, was read, and what follows it is left; or it is
-- refused, the reader failed, or memory ran out
abbrev pub ReadsHeader : Layout → Option (List ℕ) → Option (List ℕ) → Result Cursor JournalFault → Type 0
ReadsHeader s old new (Ok c) = IfSome old (λ all. (rest : List ℕ) × (new ≡ Some (drop (header_len s) all))
    × (header_at s (take (header_len s) all) ≡ Ok (c, rest)))
ReadsHeader s old new (Err fault) = (fault ≡ ReadFailed) ⊎ (fault ≡ Memory)
    ⊎ IfSome old (λ all. header_at s (take (header_len s) all) ≡ Err fault)
