-- The replies to requests that read.
use Rattle.std.specs.Prelude.{◌≡◌, ℕ, ℤ, List, Option}
use Rattle.rr_connection.specs.Requests.{RequestView}
use Rattle.rr_desk.specs.ReaderState.{ReaderState, cells_seen}
use Rattle.rr_web.specs.declared.ask.Ask.{Ask}
use Rattle.rr_web.specs.declared.ask.Ask.TheVariants as ask
use Rattle.rr_web.specs.Ask.{ask_of}
use Rattle.rr_web.specs.Fetches.{asked_in, reply_by}
use Rattle.rr_web.specs.Fixed.{IsFixedReply}
use Rattle.rr_web.specs.Listing.{IsSeriesReply}
use Rattle.rr_web.specs.Reply.{ReplyView}
use Rattle.rr_web.specs.Target.{target_parts}

-- the reply to what is asked by a query, by what a reader had seen before and has seen now
abbrev pub IsReplyTo : ReaderState → ReaderState → ℤ → List ℕ → Option (List ℕ) → List ℕ → Ask → ReplyView → Type 0
IsReplyTo old new now metrics failure query ask.Fetch reply =
    reply ≡ reply_by new.schema (cells_seen new) (asked_in old.schema query now)
IsReplyTo old new now metrics failure query ask.Series reply = IsSeriesReply query old new reply
IsReplyTo old new now metrics failure query other reply = IsFixedReply metrics failure other reply

-- the reply to a request
abbrev pub IsReadReply : ReaderState → ReaderState → ℤ → List ℕ → Option (List ℕ) → RequestView → ReplyView → Type 0
IsReadReply old new now metrics failure r reply =
    IsReplyTo old new now metrics failure (target_parts r.target).1 (ask_of r.method (target_parts r.target).0) reply
