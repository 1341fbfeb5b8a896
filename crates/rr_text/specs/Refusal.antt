-- Why a line is refused, as text.
use Rattle.std.specs.Prelude.{ℕ, List, [], ◌∷◌, ◌++◌, codes, decimal}
use Rattle.rr_text.specs.declared.bytes.TheConstants.{LINE_FEED}

-- line N: NAME, which says that the line of this number is refused
abbrev pub refusal_text : ℕ → List ℕ → List ℕ
refusal_text number name = codes "line " ++ decimal number ++ codes ": " ++ name ++ LINE_FEED ∷ []
