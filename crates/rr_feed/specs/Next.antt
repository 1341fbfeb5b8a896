-- How the bytes that are left are searched.
use Rattle.std.specs.Prelude.{◌≡◌, ℕ, ◌-◌, ◌≤◌, List, ◌∷◌, ◌++◌, length, take, drop}
use Rattle.rr_text.specs.declared.bytes.TheConstants.{LINE_FEED}
use Rattle.rr_text.specs.Bytes.{HasNoLineFeed}

-- this many of the bytes that are left hold no line feed
pub record IsSearched (left : List ℕ) (searched : ℕ) : Type 0 where
  pub within : searched ≤ length left
  pub none : HasNoLineFeed (take searched left)

-- the bytes before the first line feed, and those after it
pub record IsCut (left line rest : List ℕ) : Type 0 where
  pub whole : left ≡ line ++ LINE_FEED ∷ rest
  pub none : HasNoLineFeed line

-- the rest is the end of what was left
pub record IsEnd (left rest : List ℕ) : Type 0 where
  pub within : length rest ≤ length left
  pub same : rest ≡ drop (length left - length rest) left
