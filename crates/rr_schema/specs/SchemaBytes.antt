-- A schema as bytes: each number big-endian, the highest byte first.
use Rattle.std.specs.Prelude.{◌≡◌, ◌≢◌, ℕ, List, ◌∷◌, ◌++◌, length, Option, None, Some}
use Rattle.std.specs.Int.{w16, w32, to_be_bytes}
use Rattle.std.specs.List.{flat_map}
use Rattle.rr_schema.specs.declared.archive.ArchiveSpec.{ArchiveSpec}
use Rattle.rr_schema.specs.Schema.{Layout, IsLayout}

-- steps in one byte, rows in four, and the fraction xff in two and two
unfoldable pub archive_bytes : ArchiveSpec → List ℕ
archive_bytes a = a.steps ∷ to_be_bytes w32 a.rows ++ to_be_bytes w16 a.num ++ to_be_bytes w16 a.den

-- the step in four bytes, the number of archives in one, and the archives
unfoldable pub schema_bytes : Layout → List ℕ
schema_bytes s = to_be_bytes w32 s.step ++ length s.archives ∷ flat_map archive_bytes s.archives

-- what follows a piece at the beginning of bytes, or none if they do not begin with it
abbrev pub IsAfter : List ℕ → List ℕ → Option (List ℕ) → Type 0
IsAfter piece bytes (Some rest) = bytes ≡ piece ++ rest
IsAfter piece bytes None = (rest : List ℕ) → bytes ≢ piece ++ rest

-- schemas within their limits have the same bytes only if they are the same, and no schema's bytes are the beginning of
-- another's
abbrev pub BytesTellTheSchema : Type 0
BytesTellTheSchema =
    (s t : Layout) (x y : List ℕ) → IsLayout s → IsLayout t → schema_bytes s ++ x ≡ schema_bytes t ++ y
    → (s ≡ t) × (x ≡ y)
