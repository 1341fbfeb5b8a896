-- What records mean, and the bytes of their bodies.
use Rattle.std.specs.Prelude.{◌≡◌, ℕ, zero, suc, ◌≤◌, ◌<◌, ◌%◌, ◌^◌, ◌⊎◌, ◌||◌, not, ◌==◌, nat_lt, List, [], ◌∷◌, ◌++◌, length, map, Result, Ok, Err, IsOk, if◌then◌else◌}
use Rattle.std.specs.Int.{w8, w16, w32, w64, to_be_bytes}
use Rattle.std.specs.List.{flat_map, AllByRecursion}
use Rattle.rr_text.specs.declared.limits.TheConstants.{MAX_KEY_TEXT}
use Rattle.rr_text.specs.Results.{◌>>=◌, unless}
use Rattle.rr_schema.specs.Origin.{IsOrigin}
use Rattle.rr_schema.specs.Schema.{Layout}
use Rattle.rr_key.specs.Reading.{is_key_text}
use Rattle.rr_key.specs.Series.{IsKeyText}
use Rattle.rr_codec.specs.declared.fault.CodecFault.{CodecFault}
use Rattle.rr_codec.specs.Reading.{checked_count}
use Rattle.rr_journal.specs.declared.fault.JournalFault.{JournalFault}
use Rattle.rr_journal.specs.declared.fault.JournalFault.TheVariants.{BadKey, BadArchive, BadKind, BadOrigin, TrailingBytes, TooLong, Packed, Memory}
use Rattle.rr_journal.specs.declared.cursor.Cursor.{Cursor}
use Rattle.rr_journal.specs.declared.group.Group.{Group}
use Rattle.rr_journal.specs.declared.meaning.Record.{Record}
use Rattle.rr_journal.specs.declared.meaning.Record.TheVariants as code
use Rattle.rr_journal.specs.declared.digest.TheConstants.{DIGEST_LEN}
use Rattle.rr_journal.specs.declared.kind.TheConstants.{CELLS, ORIGIN, CURSOR, END, WITNESS}
use Rattle.rr_journal.specs.declared.raw.TheConstants.{MAX_BODY_LEN, FIRST}
use Rattle.rr_journal.specs.Cursor.{IsCursor, cursor_text}
use Rattle.rr_journal.specs.Fields.{prefix_at, number_at, cursor_at}
use Rattle.rr_journal.specs.Text.{Raw}

-- packed cells of one key and archive
pub record PackedCells : Type 0 where
  pub key : List ℕ
  pub archive : ℕ
  pub bytes : List ℕ

abbrev pub packed_cells : Group → PackedCells
packed_cells g = record { key = g.key; archive = g.archive; bytes = g.packed.items }

-- what a record means: cells; the origin of samples from here on; how far another journal was joined; the end of a
-- checkpoint with this many cells; or a witness
pub data Meaning : Type 0 where
  HasCells : List PackedCells → Meaning
  HasOrigin : ℕ → Meaning
  HasJoined : Cursor → Meaning
  HasEnded : ℕ → Meaning
  HasWitness : List ℕ → Meaning

abbrev pub meaning_of : Record → Meaning
meaning_of (code.Cells groups) = HasCells (map packed_cells groups.items)
meaning_of (code.Origin origin) = HasOrigin origin
meaning_of (code.Cursor cursor) = HasJoined cursor
meaning_of (code.End count) = HasEnded count
meaning_of (code.Witness witness) = HasWitness witness

-- ---- its text

-- the length of the key in two bytes and its text, the archive in one, the length of the packed cells in four, and the
-- cells
unfoldable pub group_text : PackedCells → List ℕ
group_text g = to_be_bytes w16 (length g.key) ++ (g.key ++ (g.archive ∷ (to_be_bytes w32 (length g.bytes) ++ g.bytes)))

abbrev pub kind_of : Meaning → ℕ
kind_of (HasCells groups) = CELLS
kind_of (HasOrigin origin) = ORIGIN
kind_of (HasJoined cursor) = CURSOR
kind_of (HasEnded count) = END
kind_of (HasWitness witness) = WITNESS

unfoldable pub body_text : Meaning → List ℕ
body_text (HasCells groups) = flat_map group_text groups
body_text (HasOrigin origin) = to_be_bytes w16 origin
body_text (HasJoined cursor) = cursor_text cursor
body_text (HasEnded count) = to_be_bytes w64 count
body_text (HasWitness witness) = witness

-- why a record with this body isn't written: memory runs out, or the body is too long
abbrev pub IsEncodeFault : List ℕ → JournalFault → Type 0
IsEncodeFault body fault = (fault ≡ Memory) ⊎ ((fault ≡ TooLong) × (MAX_BODY_LEN < length body))

-- a record as its kind and its body
abbrev pub raw_text : Meaning → Raw
raw_text m = record { kind = kind_of m; body = body_text m }

-- ---- its reading, field by field, up to the first fault

-- a key text after its length, and what follows it
unfoldable pub key_at : List ℕ → Result (List ℕ × List ℕ) JournalFault
key_at bytes = do
  len ← number_at w16 bytes
  text ← unless BadKey ((len.0 == 0) || nat_lt MAX_KEY_TEXT len.0) (prefix_at len.0 len.1)
  unless BadKey (not (is_key_text text.0)) (Ok text)

-- the number of one of the schema's archives, and what follows it
unfoldable pub archive_at : Layout → List ℕ → Result (ℕ × List ℕ) JournalFault
archive_at s bytes = do
  archive ← number_at w8 bytes
  unless BadArchive (not (nat_lt archive.0 (length s.archives))) (Ok archive)

-- a result of packed cells, its fault as a journal's
abbrev pub as_packed : {A : Type 0} → Result A CodecFault → Result A JournalFault
as_packed (Ok x) = Ok x
as_packed (Err fault) = Err (Packed fault)

-- packed cells after their length, which the archive may have, and what follows them
unfoldable pub packed_at : Layout → ℕ → List ℕ → Result (List ℕ × List ℕ) JournalFault
packed_at s archive bytes = do
  len ← number_at w32 bytes
  packed ← prefix_at len.0 len.1
  as_packed (checked_count s archive packed.0) >>= λ count. Ok packed

-- a group, and what follows it
unfoldable pub group_at : Layout → List ℕ → Result (PackedCells × List ℕ) JournalFault
group_at s bytes = do
  key ← key_at bytes
  archive ← archive_at s key.1
  packed ← packed_at s archive.0 archive.1
  Ok (record { key = key.0; archive = archive.0; bytes = packed.0 }, packed.1)

-- at most `n` groups
unfoldable pub groups_within : ℕ → Layout → List ℕ → Result (List PackedCells) JournalFault
groups_within zero s bytes = Ok []
groups_within (suc n) s bytes = do
  first ← group_at s bytes
  others ← (if length first.1 == 0 then Ok [] else groups_within n s first.1)
  Ok (first.0 ∷ others)

-- all of the bytes as one or more groups; each has more than one byte
abbrev pub groups_of : Layout → List ℕ → Result (List PackedCells) JournalFault
groups_of s bytes = groups_within (suc (length bytes)) s bytes

-- nothing follows
abbrev pub alone : {X : Type 0} → X × List ℕ → Result X JournalFault
alone x = unless TrailingBytes (not (length x.1 == 0)) (Ok x.0)

-- an origin
abbrev pub origin_of : List ℕ → Result ℕ JournalFault
origin_of bytes = number_at w16 bytes >>= λ x. unless BadOrigin (x.0 == 0) (alone x)

-- a place in a journal
abbrev pub cursor_of : List ℕ → Result Cursor JournalFault
cursor_of bytes = cursor_at bytes >>= alone

-- a number of eight bytes
abbrev pub count_of : List ℕ → Result ℕ JournalFault
count_of bytes = number_at w64 bytes >>= alone

-- a witness
abbrev pub witness_of : List ℕ → Result (List ℕ) JournalFault
witness_of bytes = prefix_at DIGEST_LEN bytes >>= alone

-- what a kind and a body mean
unfoldable pub meaning_at : Layout → ℕ → List ℕ → Result Meaning JournalFault
meaning_at s kind body =
    if kind == CELLS then (groups_of s body >>= λ groups. Ok (HasCells groups))
    else (if kind == ORIGIN then (origin_of body >>= λ origin. Ok (HasOrigin origin))
    else (if kind == CURSOR then (cursor_of body >>= λ cursor. Ok (HasJoined cursor))
    else (if kind == END then (count_of body >>= λ count. Ok (HasEnded count))
    else (if kind == WITNESS then (witness_of body >>= λ witness. Ok (HasWitness witness))
    else Err BadKind))))

-- what a record means, whether or not it is the first one after a sync
abbrev pub record_meaning : Layout → Raw → Result Meaning JournalFault
record_meaning s r = meaning_at s (r.kind % FIRST) r.body

-- ---- those with a text that is read back

-- a key text, an archive of the schema, and packed cells that it may have
pub record IsGroup (s : Layout) (g : PackedCells) : Type 0 where
  pub key : IsKeyText g.key
  pub archive : g.archive < length s.archives
  pub byte_archive : g.archive < 2 ^ 8
  pub fits : length g.bytes < 2 ^ 32
  pub checked : IsOk (checked_count s g.archive g.bytes)

abbrev pub IsMeaning : Layout → Meaning → Type 0
IsMeaning s (HasCells groups) = (1 ≤ length groups) × AllByRecursion (IsGroup s) groups
IsMeaning s (HasOrigin origin) = IsOrigin origin
IsMeaning s (HasJoined cursor) = IsCursor cursor
IsMeaning s (HasEnded count) = count < 2 ^ 64
IsMeaning s (HasWitness witness) = length witness ≡ DIGEST_LEN
