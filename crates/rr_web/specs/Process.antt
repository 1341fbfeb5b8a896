-- The memory that a process holds.
use Rattle.std.specs.Prelude.{ℕ, ◌*◌, ◌-◌, ◌^◌, List, Option, min, option_map}
use Rattle.rr_text.specs.Options.{◌>>=◌}
use Rattle.rr_text.specs.Text.{cut_at, number_at}
use Rattle.rr_text.specs.declared.bytes.TheConstants.{SPACE}

-- the word between the first two spaces
abbrev pub second_word : List ℕ → Option (List ℕ)
second_word text = cut_at SPACE text >>= (λ parts. option_map (λ word. word.0) (cut_at SPACE parts.1))

-- as many pages as the second word counts, in bytes
abbrev pub resident_bytes : ℕ → List ℕ → Option ℕ
resident_bytes page text = option_map (λ pages. min (pages * page) (2 ^ 64 - 1)) (second_word text >>= number_at)
