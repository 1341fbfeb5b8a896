-- The items of a byte stream: it is cut after each line feed.
use Rattle.std.specs.Prelude.{ℕ, ◌≤◌, Bool, not, ◌&&◌, ◌==◌, nat_lt, nat_le, List, [], ◌∷◌, length, if◌then◌else◌}
use Rattle.std.specs.List.{slice_split}
use Rattle.rr_text.specs.Bytes.{HasNoLineFeed}
use Rattle.rr_text.specs.declared.limits.TheConstants.{MAX_LINE}
use Rattle.rr_feed.specs.declared.line.FeedLine.{FeedLine}
use Rattle.rr_feed.specs.declared.line.FeedLine.TheVariants as line
use Rattle.rr_text.specs.declared.bytes.TheConstants.{LINE_FEED}

-- a line without its line feed, or a line that is too long
pub data Item : Type 0 where
  Line : List ℕ → Item
  TooLong : Item

-- what is handed out, without where it lies in memory
abbrev pub item_view : FeedLine → Item
item_view (line.Line bytes) = Line bytes.now
item_view line.TooLong = TooLong

-- the pieces of a byte stream, separated by line feeds
abbrev pub pieces : List ℕ → List (List ℕ)
pieces bytes = slice_split (λ byte. byte == LINE_FEED) bytes

-- a piece before a line feed is a line, unless it has too many bytes
abbrev pub item_of : List ℕ → Item
item_of piece = if nat_le (length piece) MAX_LINE then Line piece else TooLong

-- the last piece, which no line feed ends: too long as soon as it has too many bytes, or else a line at the end of the
-- stream, unless it is empty
abbrev pub last_items : Bool → List ℕ → List Item
last_items ended piece =
    if nat_lt MAX_LINE (length piece) then TooLong ∷ []
    else (if ended && not (length piece == 0) then Line piece ∷ [] else [])

-- the items of pieces, the last of which no line feed ends
abbrev pub items_of : Bool → List (List ℕ) → List Item
items_of ended [] = []
items_of ended (last ∷ []) = last_items ended last
items_of ended (piece ∷ next ∷ more) = item_of piece ∷ items_of ended (next ∷ more)

-- the items of the bytes that have come so far, which may be the whole stream
abbrev pub items : Bool → List ℕ → List Item
items ended bytes = items_of ended (pieces bytes)

-- a line has no line feed, and not too many bytes
abbrev pub IsLine : Item → Type 0
IsLine (Line bytes) = HasNoLineFeed bytes × (length bytes ≤ MAX_LINE)
IsLine TooLong = Unit {0}
