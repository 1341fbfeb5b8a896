-- What the code hands out in one step.
use Rattle.std.specs.Prelude.{ℕ, Bool, List, option_map}
use Rattle.rr_feed.specs.declared.next.Next.{Next}
use Rattle.rr_feed.specs.Items.{item_view}
use Rattle.rr_feed.specs.Feed.{HandsOut, state}
use Rattle.rr_feed.specs.Next.{IsEnd}

-- the next item of these bytes is handed out, and the rest is their end
pub record GivesNext (left : List ℕ) (skipping ended : Bool) (next : Next) : Type 0 where
  pub item : HandsOut (state left skipping ended) (option_map item_view next.item)
      (state next.rest.bytes.now next.skipping ended)
  pub rest : IsEnd left next.rest.bytes.now
