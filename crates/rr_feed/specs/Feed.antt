-- What a feed holds, and what it hands out.
use Rattle.std.specs.Prelude.{◌≡◌, ℕ, ◌+◌, ◌≤◌, Bool, true, false, List, [], ◌∷◌, ◌++◌, length, drop, Option, None, Some, IfSome, if◌then◌else◌}
use Rattle.rr_text.specs.declared.limits.TheConstants.{MAX_LINE}
use Rattle.rr_feed.specs.Items.{Item, pieces, items_of, IsLine}

-- the bytes that are left, whether they begin within a line that was reported as too long, and
-- whether the stream is at its end
pub record FeedState : Type 0 where
  pub left : List ℕ
  pub skipping : Bool
  pub ended : Bool

abbrev pub state : List ℕ → Bool → Bool → FeedState
state left skipping ended = record { left = left; skipping = skipping; ended = ended }

-- nothing has been pushed yet
abbrev pub empty_feed : FeedState
empty_feed = state [] false false

-- the items of what is left; the rest of a line that is skipped is none
abbrev pub items_left : FeedState → List Item
items_left s = items_of s.ended (if s.skipping then drop 1 (pieces s.left) else pieces s.left)

-- the same feed after more bytes, which may end the stream
abbrev pub with_more : FeedState → List ℕ → Bool → FeedState
with_more s more ended = state (s.left ++ more) s.skipping ended

-- after the end nothing comes
abbrev pub MayCome : FeedState → List ℕ → Bool → Type 0
MayCome s more ended = s.ended ≡ true → (more ≡ []) × (ended ≡ true)

-- an item, if there is one, as a list
abbrev pub item_list : Option Item → List Item
item_list None = []
item_list (Some item) = item ∷ []

-- What is handed out is the first of the items, whatever comes, and the others are left. Nothing is handed out only if
-- there is no item yet, and then no more is held than a line may have.
pub record HandsOut (old : FeedState) (item : Option Item) (new : FeedState) : Type 0 where
  pub first : (more : List ℕ) (ended : Bool) → MayCome old more ended
      → items_left (with_more old more ended) ≡ item_list item ++ items_left (with_more new more ended)
  pub none : item ≡ None → items_left old ≡ []
  pub line : IfSome item IsLine
  pub ended : new.ended ≡ old.ended
  pub fewer : length new.left + length (item_list item) ≤ length old.left
  pub few : item ≡ None → length new.left ≤ MAX_LINE
