-- When a line writes what precedes its fields as key texts do.
use Rattle.std.specs.Prelude.{◌≡◌, ℕ, Bool, true, false, ◌==◌, List, []}
use Rattle.std.specs.List.{list_any}
use Rattle.rr_text.specs.declared.bytes.TheConstants.{BACKSLASH}
use Rattle.rr_key.specs.Reading.{rises}

-- whether a backslash is in a text
abbrev pub has_backslash : List ℕ → Bool
has_backslash text = list_any (λ byte. byte == BACKSLASH) text

-- the text has no backslash, and the keys of the tags rise
pub record IsPlain (text : List ℕ) (tags : List (List ℕ × List ℕ)) : Type 0 where
  pub unescaped : has_backslash text ≡ false
  pub rising : rises [] tags ≡ true
