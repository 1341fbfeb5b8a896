-- The bytes of a cell: each number big-endian, in two's complement if it is signed.
use Rattle.std.specs.Prelude.{ℕ, ℤ, List, [], ◌∷◌, ◌++◌, length}
use Rattle.std.specs.Int.{Width, w16, w64, w128, cast_unsigned, to_be_bytes}
use Rattle.rr_contrib.specs.declared.contribution.Contribution.{Contribution}
use Rattle.rr_cells.specs.CellNames.{CellName}
use Rattle.rr_cells.specs.CellBounds.{NamedCell}
use Rattle.rr_page.specs.declared.version.Version.{Version}
use Rattle.rr_page.specs.Version.{mask_width}

-- a signed number
abbrev pub signed_bytes : Width → ℤ → List ℕ
signed_bytes w z = to_be_bytes w (cast_unsigned w z)

-- how many samples there are: the greatest number, the count, and the sum in sixteen bytes
unfoldable pub sums_text : Contribution → List ℕ
sums_text c = to_be_bytes w64 c.version ++ to_be_bytes w64 c.count ++ signed_bytes w128 c.sum

-- which values there are, and at which places
unfoldable pub values_text : Version → Contribution → List ℕ
values_text v c =
    signed_bytes w64 c.min
    ++ signed_bytes w64 c.max
    ++ signed_bytes w64 c.last_time
    ++ signed_bytes w64 c.last_value
    ++ to_be_bytes (mask_width v) c.mask

-- the length of the key text in two bytes and the text, the archive in one, the slot in eight and the origin
-- in two
unfoldable pub name_text : CellName → List ℕ
name_text n = to_be_bytes w16 (length n.key) ++ n.key ++ (n.archive ∷ []) ++ signed_bytes w64 n.slot
    ++ to_be_bytes w16 n.origin

-- a name, and the eight fields of its contribution
unfoldable pub cell_text : Version → NamedCell → List ℕ
cell_text v e = name_text e.0 ++ sums_text e.1 ++ values_text v e.1
