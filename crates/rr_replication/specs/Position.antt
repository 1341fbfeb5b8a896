-- What a peer is asked for, by where a node is in its store.
use Rattle.std.specs.Prelude.{ℕ, ◌+◌, ◌-◌, ◌^◌, List, ◌++◌, codes, decimal, min}
use Rattle.hex.specs.Hex.{encode_lower}
use Rattle.rr_schema.specs.Schema.{Layout}
use Rattle.rr_schema.specs.SchemaBytes.{schema_bytes}
use Rattle.rr_journal.specs.declared.cursor.Cursor.{Cursor}
use Rattle.rr_journal.specs.declared.header.TheConstants.{DECIMALS}
use Rattle.rr_journal.specs.Header.{header_len}
use Rattle.rr_replication.specs.declared.position.Position.{Position}
use Rattle.rr_replication.specs.declared.position.Position.TheVariants.{Journal, Newest, Checkpoint}

-- where its journal is, if its schema is this one and its values have as many decimals
abbrev pub greeting_target : Layout → List ℕ
greeting_target s =
    codes "/journal?decimals=" ++ decimal DECIMALS ++ codes "&schema=" ++ encode_lower (schema_bytes s)

-- the byte of a checkpoint's file at which its records go on: behind its header and the records already read
abbrev pub byte_of : Layout → Cursor → Cursor → ℕ
byte_of s begins place = min ((place.offset - begins.offset) + header_len s) (2 ^ 64 - 1)

-- what comes next
unfoldable pub target_of : Layout → Position → List ℕ
target_of s (Journal place) =
    codes "/journal?id=" ++ encode_lower place.id ++ codes "&from=" ++ decimal place.offset
target_of s Newest = codes "/checkpoint?from=0"
target_of s (Checkpoint begins place tally) =
    codes "/checkpoint?begins=" ++ decimal begins.offset ++ codes "&from=" ++ decimal (byte_of s begins place)
