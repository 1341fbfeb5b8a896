-- Names as they are written. A unit is a backslash and the special byte after it, which stands for that byte, or one
-- byte that is not special, which stands for itself: also a backslash, if no special byte follows.
use Rattle.std.specs.Prelude.{ℕ, ◌+◌, ◌&&◌, ◌==◌, List, [], ◌∷◌, if◌then◌else◌}
use Rattle.rr_key.specs.declared.class.Class.{Class}
use Rattle.rr_text.specs.declared.bytes.TheConstants.{BACKSLASH}
use Rattle.rr_key.specs.Class.{is_special}

-- the name as it is written: with a backslash before each special byte
abbrev pub escape : Class → List ℕ → List ℕ
escape class [] = []
escape class (byte ∷ name) =
    if is_special class byte then BACKSLASH ∷ byte ∷ escape class name else byte ∷ escape class name

-- the name that is written: what each unit stands for; a special byte that no backslash took stands for itself
abbrev pub unescape : Class → List ℕ → List ℕ
unescape class [] = []
unescape class (byte ∷ []) = byte ∷ []
unescape class (byte ∷ next ∷ rest) =
    if byte == BACKSLASH && is_special class next then next ∷ unescape class rest else byte ∷ unescape class
    (next ∷ rest)

-- how many bytes the units at the beginning take, up to the first special byte that no backslash took
abbrev pub name_len : Class → List ℕ → ℕ
name_len class [] = 0
name_len class (byte ∷ []) = if is_special class byte then 0 else 1
name_len class (byte ∷ next ∷ rest) =
    if byte == BACKSLASH && is_special class next then name_len class rest + 2
    else (if is_special class byte then 0 else name_len class (next ∷ rest) + 1)
