-- The lines of a stream, as they are taken piece by piece.
use Rattle.std.specs.Prelude.{◌≡◌, ℕ, ℤ, true, false, List, [], ◌++◌, length, count_by, fold}
use Rattle.rr_feed.specs.Feed.{items_left}
use Rattle.rr_feed.specs.Items.{Item, items}
use Rattle.rr_feed.specs.Laws.{IsFed}
use Rattle.rr_desk.specs.KeeperState.{KeeperState}
use Rattle.rr_node.specs.declared.line_stream.LineStream.{LineStream}
use Rattle.rr_node.specs.declared.report.Report.{Report}
use Rattle.rr_node.specs.declared.rules.Rules.{Rules}
use Rattle.rr_node.specs.Connection.{HasServed, EndsWithin, served_so_far}
use Rattle.rr_node.specs.Lines.{Served, after, asks_clock, with_item}

-- how its lines are taken
abbrev pub rules_by : LineStream → Rules
rules_by s = s.connection.rules

-- what became of the lines that were taken
abbrev pub report_of : LineStream → Report
report_of s = s.connection.report

-- the whole lines of these bytes were taken, starting with a keeper, with these moments, these answers and the keeper
-- as it is now; the stream goes on
pub record HasTaken (s : LineStream) (start : KeeperState) (bytes : List ℕ) (moments : List ℤ) (now : KeeperState)
    (answers : List ℕ) : Type 0 where
  pub served : HasServed s.connection start bytes moments now answers
  pub whole : items_left s.connection.feed ≡ []
  pub going : s.connection.feed.ended ≡ false

-- a stream has also taken these bytes, whatever it had taken before
pub record Takes (old new : LineStream) (before now : KeeperState) (bytes : List ℕ) (moments : List ℤ)
    (answers : List ℕ) : Type 0 where
  pub taken : (start : KeeperState) (came : List ℕ) (given : List ℤ) (answered : List ℕ)
      → HasTaken old start came given before answered
      → HasTaken new start (came ++ bytes) (given ++ moments) now (answered ++ answers)
  pub rules : rules_by new ≡ rules_by old

-- the inputs that begin so
abbrev pub BeginsWith : List ℕ → List ℕ → Type 0
BeginsWith first bytes = (more : List ℕ) × (bytes ≡ first ++ more)

-- lines were taken up to some point within these bytes, whatever was taken before
abbrev pub Stops : LineStream → KeeperState → KeeperState → List ℕ → List ℤ → Type 0
Stops old before now bytes moments =
    (start : KeeperState) (came : List ℕ) (given : List ℤ) (answered : List ℕ)
    → HasTaken old start came given before answered
    → EndsWithin (rules_by old) start now (BeginsWith (came ++ bytes)) (given ++ moments)

-- all lines of an input were taken, with these moments
pub record AreTaken (rules : Rules) (start now : KeeperState) (bytes : List ℕ) (moments : List ℤ) (answers : List ℕ)
    (counted : Report) : Type 0 where
  pub asked : length moments ≡ count_by (asks_clock rules) (items true bytes)
  pub keeper : now ≡ (after rules start moments (items true bytes)).keeper
  pub answered : answers ≡ (after rules start moments (items true bytes)).answers
  pub report : counted ≡ (after rules start moments (items true bytes)).report

-- a stream ended: all lines of the bytes that came were taken
abbrev pub Ends : LineStream → KeeperState → KeeperState → List ℤ → List ℕ → Report → Type 0
Ends old before now moments answers counted =
    (start : KeeperState) (came : List ℕ) (given : List ℤ) (answered : List ℕ)
    → HasTaken old start came given before answered
    → AreTaken (rules_by old) start now came (given ++ moments) (answered ++ answers) counted

-- ---- among the writes of others

-- a stream with a keeper, these answers added and these moments to come
abbrev pub stands : LineStream → KeeperState → List ℕ → List ℤ → Served
stands s keeper answers moments = served_so_far s.connection keeper answers moments

-- these lines were handed out of the bytes that came, and are all that are whole; more may come
pub record HasHanded (s : LineStream) (came : List ℕ) (handed : List Item) : Type 0 where
  pub fed : IsFed came handed s.connection.feed
  pub whole : items_left s.connection.feed ≡ []
  pub going : s.connection.feed.ended ≡ false

-- a stream of which nothing has come
pub record IsFresh (s : LineStream) : Type 0 where
  pub handed : HasHanded s [] []
  pub lines : s.connection.lines ≡ 0
  pub report : report_of s ≡ record { points = 0; samples = 0; refused = 0 }

-- a stream has also taken these bytes: it handed out these lines, which were served, starting with a keeper, under the
-- numbers that follow those of its earlier lines; whatever others wrote since those
pub record TakesAmong (old new : LineStream) (before now : KeeperState) (bytes : List ℕ) (handed : List Item)
    (moments : List ℤ) (answers : List ℕ) : Type 0 where
  pub fed : (came : List ℕ) (earlier : List Item) → HasHanded old came earlier
      → HasHanded new (came ++ bytes) (earlier ++ handed)
  pub asked : length moments ≡ count_by (asks_clock (rules_by new)) handed
  pub served : (later : List ℤ) → fold (with_item (rules_by new)) (stands old before [] (moments ++ later)) handed
      ≡ stands new now answers later
  pub rules : rules_by new ≡ rules_by old

-- a stream ended: with these lines, which were served, starting with a keeper, it has handed out all lines of the bytes
-- that came; whatever others wrote before
pub record EndsAmong (old : LineStream) (before now : KeeperState) (handed : List Item) (moments : List ℤ)
    (answers : List ℕ) (counted : Report) : Type 0 where
  pub lines : ℕ
  pub fed : (came : List ℕ) (earlier : List Item) → HasHanded old came earlier → earlier ++ handed ≡ items true came
  pub asked : length moments ≡ count_by (asks_clock (rules_by old)) handed
  pub served : (later : List ℤ) → fold (with_item (rules_by old)) (stands old before [] (moments ++ later)) handed
      ≡ record { keeper = now; moments = later; lines = lines; answers = answers; report = counted }
