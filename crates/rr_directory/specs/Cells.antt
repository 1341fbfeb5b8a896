-- Cells as CSV records.
use Rattle.std.specs.Prelude.{ℕ, ℤ, pos, List, [], ◌∷◌, ◌++◌}
use Rattle.std.specs.Fmt.{signed_decimal}
use Rattle.std.specs.Int.{w128, to_be_bytes}
use Rattle.std.specs.List.{flat_map}
use Rattle.hex.specs.Hex.{encode_lower}
use Rattle.rr_cells.specs.CellBounds.{NamedCell}
use Rattle.rr_cells.specs.FetchText.{comma, field_text, line_feed}

-- the numbers of a cell, except its mask
abbrev pub cell_numbers : NamedCell → List ℤ
cell_numbers e =
    pos e.0.archive ∷ e.0.slot ∷ pos e.0.origin ∷ pos e.1.version ∷ pos e.1.count ∷ e.1.sum ∷ e.1.min ∷ e.1.max ∷
    e.1.last_time ∷ e.1.last_value ∷ []

-- a number and a comma
abbrev pub number_text : ℤ → List ℕ
number_text n = signed_decimal n ++ comma ∷ []

-- a mask in hexadecimal digits, the highest first
abbrev pub mask_text : ℕ → List ℕ
mask_text mask = encode_lower (to_be_bytes w128 mask)

-- the key text, these numbers and the mask, separated by commas, and a line feed
abbrev pub cell_text : NamedCell → List ℕ
cell_text e =
    field_text e.0.key ++ comma ∷ [] ++ flat_map number_text (cell_numbers e) ++ mask_text e.1.mask ++ line_feed ∷ []
