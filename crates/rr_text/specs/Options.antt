-- Options in definitions: one step after another.
use Rattle.std.specs.Prelude.{Option, option_and_then}

-- the next step, if this one finds something
infixl 10 ◌>>=◌
abbrev pub ◌>>=◌ : {A B : Type 0} → Option A → (A → Option B) → Option B
found >>= next = option_and_then next found
