-- The versions of the bytes of cells and pages, which differ in the width of a mask.
use Rattle.std.specs.Prelude.{ℕ, ◌+◌, ◌≤◌, ◌==◌, nat_le, Bool, All, Option, Some, None, if◌then◌else◌}
use Rattle.std.specs.Int.{Width, w64, w128, byte_len}
use Rattle.std.specs.List.{list_all}
use mir.Val.{bits}
use Rattle.rr_schema.specs.Schema.{Layout}
use Rattle.rr_page.specs.declared.version.Version.{Version}
use Rattle.rr_page.specs.declared.version.Version.TheVariants.{One, Two}

-- the byte for a version
abbrev pub version_byte : Version → ℕ
version_byte One = 1
version_byte Two = 2

-- the version that a byte names, if it names one
abbrev pub named_version : ℕ → Option Version
named_version byte = if byte == 1 then Some One else (if byte == 2 then Some Two else None)

-- how wide a mask is
abbrev pub mask_width : Version → Width
mask_width One = w64
mask_width Two = w128

-- the version that is written
abbrev pub latest : Version
latest = Two

-- a mask is wide enough for each archive of a schema
abbrev pub HasMasksFor : Version → Layout → Type 0
HasMasksFor v s = All (λ a. a.steps ≤ bits (mask_width v)) s.archives

-- whether it is
abbrev pub has_masks_for : Version → Layout → Bool
has_masks_for v s = list_all (λ a. nat_le a.steps (bits (mask_width v))) s.archives

-- how many bytes a cell has besides its key text
abbrev pub fields_len : Version → ℕ
fields_len v = 77 + byte_len (mask_width v)
