-- How far the items of a feed are answered.
use Rattle.std.specs.Prelude.{◌≡◌, ℕ, List, ◌++◌, Option, None, Some, Result, Ok, Err}
use Rattle.std.specs.Io.KnownBytes.{Appends}
use Rattle.rr_io.specs.Stream.{AppendsPrefix}
use Rattle.rr_feed.specs.Feed.{FeedState}
use Rattle.rr_feed.specs.Items.{Item}
use Rattle.rr_feed.specs.Laws.{IsFed}
use Rattle.rr_desk.specs.ReaderState.{ReaderState, HasSeenMore}
use Rattle.rr_node.specs.Fetches.{ReaderAndGate, IsAnswered, AreAnswered}

-- these items were handed out
pub record HasHanded (old : FeedState) (handed : List Item) (new : FeedState) : Type 0 where
  pub fed : (pushed : List ℕ) (before : List Item) → IsFed pushed before old → IsFed pushed (before ++ handed) new
  pub ended : new.ended ≡ old.ended

-- an item was handed out and answered; or none was there; or its answer was not made
abbrev pub Next : {X E : Type 0} → (X → List ℕ) → Option Item → ReaderAndGate → ReaderAndGate → Result (Option X) E
    → Type 0
Next view None old new (Ok None) = new ≡ old
Next view None old new (Ok (Some text)) = ⊥
Next view None old new (Err fault) = ⊥
Next view (Some item) old new (Ok None) = ⊥
Next view (Some item) old new (Ok (Some text)) = IsAnswered item old new (view text)
Next view (Some item) old new (Err fault) = HasSeenMore old.reader new.reader

-- items were handed out and answered, and the answers written
pub record HasWritten (feed fed : FeedState) (old new : ReaderAndGate) (before after : Option (List ℕ)) : Type 0 where
  pub items : List Item
  pub text : List ℕ
  pub handed : HasHanded feed items fed
  pub answered : AreAnswered items old new text
  pub written : Appends before after text

-- items were handed out, the first of them answered, and a prefix of the answers written
pub record HasWrittenSome (feed fed : FeedState) (old : ReaderAndGate) (new : ReaderState)
    (before after : Option (List ℕ)) : Type 0 where
  pub first : List Item
  pub later : List Item
  pub last : ReaderAndGate
  pub seen : HasSeenMore last.reader new
  pub text : List ℕ
  pub handed : HasHanded feed (first ++ later) fed
  pub answered : AreAnswered first old last text
  pub written : AppendsPrefix before after text
