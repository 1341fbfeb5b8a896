-- What a feed handed out, against all bytes that were pushed.
use Rattle.std.specs.Prelude.{◌≡◌, ℕ, Bool, true, false, List, [], ◌++◌, Option}
use Rattle.rr_feed.specs.Items.{Item, items}
use Rattle.rr_feed.specs.Feed.{FeedState, empty_feed, items_left, with_more, MayCome, item_list, HandsOut}

-- what was handed out, and then the items of what is left, are the items of all that was pushed,
-- whatever comes
abbrev pub IsFed : List ℕ → List Item → FeedState → Type 0
IsFed pushed handed s =
    (more : List ℕ) (ended : Bool) → MayCome s more ended
    → items ended (pushed ++ more) ≡ handed ++ items_left (with_more s more ended)

abbrev pub NewIsFed : Type 0
NewIsFed = IsFed [] [] empty_feed

abbrev pub PushKeepsFed : Type 0
PushKeepsFed =
    (pushed piece : List ℕ) (handed : List Item) (s : FeedState) → s.ended ≡ false
    → IsFed pushed handed s → IsFed (pushed ++ piece) handed (record s { left = s.left ++ piece })

abbrev pub HandingOutKeepsFed : Type 0
HandingOutKeepsFed =
    (pushed : List ℕ) (handed : List Item) (item : Option Item) (old new : FeedState)
    → HandsOut old item new → IsFed pushed handed old → IsFed pushed (handed ++ item_list item) new

abbrev pub EndKeepsFed : Type 0
EndKeepsFed =
    (pushed : List ℕ) (handed : List Item) (s : FeedState)
    → IsFed pushed handed s → IsFed pushed handed (record s { ended = true })

-- once nothing is left to hand out, the items of all that was pushed were handed out
abbrev pub FedHandsOutAll : Type 0
FedHandsOutAll =
    (pushed : List ℕ) (handed : List Item) (s : FeedState)
    → items_left s ≡ [] → IsFed pushed handed s → handed ≡ items s.ended pushed
