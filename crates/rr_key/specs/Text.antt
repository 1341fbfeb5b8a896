-- The bytes of a key's text, wherever they are.
use Rattle.std.specs.Prelude.{ℕ, List}
use Rattle.std.specs.Arc.{arc_slice_items}
use Rattle.rr_key.specs.declared.key.Text.{Text}
use Rattle.rr_key.specs.declared.key.Text.TheVariants.{Own, Shared}

abbrev pub bytes_of : Text → List ℕ
bytes_of (Own text) = text.items
bytes_of (Shared text) = arc_slice_items text
