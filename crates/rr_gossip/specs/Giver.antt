-- What the side that gives does with a frame, and which frame it sends next.
use Rattle.std.specs.Prelude.{ℕ, ◌+◌, nat_le, nat_eq, ◌==◌, Bool, true, false, not, ◌&&◌, IsTrue, List, [], length, is_some, Option, None, Some, Result, Ok, Err}
use Rattle.std.specs.Cmp.Lexicographic.{pointwise}
use Rattle.std.specs.FinMap.{entries}
use Rattle.rr_text.specs.Results.{◌>>=◌, unless}
use Rattle.rr_schema.specs.Schema.{Layout}
use Rattle.rr_schema.specs.SchemaBytes.{schema_bytes}
use Rattle.rr_delta.specs.Difference.{newer_cells}
use Rattle.rr_delta.specs.Names.{NamedVersion}
use Rattle.rr_cells.specs.Cells.{Cells}
use Rattle.rr_gossip.specs.declared.fault.GossipFault.{GossipFault}
use Rattle.rr_gossip.specs.declared.fault.GossipFault.TheVariants as why
use Rattle.rr_gossip.specs.declared.frame.Kind.{Kind}
use Rattle.rr_gossip.specs.declared.frame.Kind.TheVariants as kind
use Rattle.rr_gossip.specs.declared.giver.Giver.{Giver}
use Rattle.rr_gossip.specs.declared.giver.Stage.{Stage}
use Rattle.rr_gossip.specs.declared.giver.Stage.TheVariants.{Opening, Listing, Giving, Done, Failed}
use Rattle.rr_gossip.specs.Fault.{as_body}
use Rattle.rr_gossip.specs.Frame.{content_at, frame_text}
use Rattle.rr_gossip.specs.Pages.{AreLeft, CellsLeft, next_page, after_page}
use Rattle.rr_gossip.specs.SummaryReading.{summary_at}

-- ---- which frames are due

abbrev pub is_opening : Stage → Bool
is_opening Opening = true
is_opening (Listing vs) = false
is_opening (Giving left) = false
is_opening Done = false
is_opening Failed = false

abbrev pub is_listing : Stage → Bool
is_listing Opening = false
is_listing (Listing vs) = true
is_listing (Giving left) = false
is_listing Done = false
is_listing Failed = false

-- a Hello first, then Summary frames and their end
abbrev pub is_due : Stage → Kind → Bool
is_due stage kind.Hello = is_opening stage
is_due stage kind.Summary = is_listing stage
is_due stage kind.SummaryEnd = is_listing stage
is_due stage kind.Page = false
is_due stage kind.PageEnd = false

-- ---- what a frame does

-- the names that were taken
abbrev pub names_in : Stage → List NamedVersion
names_in Opening = []
names_in (Listing vs) = vs
names_in (Giving left) = []
names_in Done = []
names_in Failed = []

-- a Hello has the schema's own bytes
unfoldable pub hello_taken : Layout → List ℕ → Result Stage GossipFault
hello_taken s body = unless why.SchemaDiffers (not (pointwise nat_eq body (schema_bytes s))) (Ok (Listing []))

-- a Summary frame adds its names
unfoldable pub summary_taken : Layout → List NamedVersion → List ℕ → Result Stage GossipFault
summary_taken s vs body = as_body (summary_at s vs body) >>= λ names. Ok (Listing names)

-- their end makes the difference, of the cells m against all names
unfoldable pub end_taken : Cells → Layout → List NamedVersion → List ℕ → Result Stage GossipFault
end_taken m s vs body = unless why.BadFrame (not (length body == 0)) (Ok (Giving (s, newer_cells vs (entries m))))

-- the next stage, and whether this was the other side's last frame
abbrev pub last : Bool → Result Stage GossipFault → Result (Stage × Bool) GossipFault
last is_last taken = taken >>= λ stage. Ok (stage, is_last)

abbrev pub body_taken : Cells → Layout → Stage → Kind → List ℕ → Result (Stage × Bool) GossipFault
body_taken m s stage kind.Hello body = last false (hello_taken s body)
body_taken m s stage kind.Summary body = last false (summary_taken s (names_in stage) body)
body_taken m s stage kind.SummaryEnd body = last true (end_taken m s (names_in stage) body)
body_taken m s stage kind.Page body = Err why.UnexpectedFrame
body_taken m s stage kind.PageEnd body = Err why.UnexpectedFrame

abbrev pub has_failed : Stage → Bool
has_failed Opening = false
has_failed (Listing vs) = false
has_failed (Giving left) = false
has_failed Done = false
has_failed Failed = true

-- the end of the names has no body
abbrev pub is_bad_end : Kind → List ℕ → Bool
is_bad_end kind.Hello body = false
is_bad_end kind.Summary body = false
is_bad_end kind.SummaryEnd body = not (length body == 0)
is_bad_end kind.Page body = false
is_bad_end kind.PageEnd body = false

-- a frame that may need memory: of a kind that is due, not one too many, and no bad end
unfoldable pub frame_due : Giver → List ℕ → Result (Kind × List ℕ) GossipFault
frame_due g content = do
  frame ← unless why.Failed (has_failed g.stage) (content_at content)
  unless why.UnexpectedFrame (not (is_due g.stage frame.0))
      (unless why.TooManyFrames (nat_le g.limit g.taken)
      (unless why.BadFrame (is_bad_end frame.0 frame.1) (Ok frame)))

-- what a giver of the cells m does with what follows the length of a frame
unfoldable pub giver_takes : Cells → Layout → Giver → List ℕ → Result (Giver × Bool) GossipFault
giver_takes m s g content = do
  frame ← unless why.Failed (has_failed g.stage) (content_at content)
  next ← unless why.UnexpectedFrame (not (is_due g.stage frame.0))
      (unless why.TooManyFrames (nat_le g.limit g.taken) (body_taken m s g.stage frame.0 frame.1))
  Ok (record { stage = next.0; sent = g.sent; taken = g.taken + 1; limit = g.limit }, next.1)

-- ---- the next frame

-- a page, or the end of the pages if there is none; and the stage after it
abbrev pub page_sent : CellsLeft → Option (List ℕ) → Stage × List ℕ
page_sent left None = (Done, frame_text kind.PageEnd [])
page_sent left (Some page) = (Giving (after_page left), frame_text kind.Page page)

abbrev pub some_sent : Stage × List ℕ → Result (Stage × Option (List ℕ)) GossipFault
some_sent next = Ok (next.0, Some next.1)

abbrev pub stage_sends : Stage → Result (Stage × Option (List ℕ)) GossipFault
stage_sends Opening = Ok (Opening, None)
stage_sends (Listing vs) = Ok (Listing vs, None)
stage_sends (Giving left) = some_sent (page_sent left (next_page left))
stage_sends Done = Ok (Done, None)
stage_sends Failed = Err why.Failed

-- one more, if a frame is sent
abbrev pub count_with : ℕ → Option (List ℕ) → ℕ
count_with n None = n
count_with n (Some frame) = n + 1

-- the frame that a giver sends next, if one is due
unfoldable pub giver_sends : Giver → Result (Giver × Option (List ℕ)) GossipFault
giver_sends g = do
  next ← stage_sends g.stage
  unless why.TooManyFrames (is_some next.1 && nat_le g.limit g.sent)
      (Ok (record { stage = next.0; sent = count_with g.sent next.1; taken = g.taken; limit = g.limit }, next.1))

-- cells that are still to be sent are those of their schema, ascending by their names
abbrev pub AreFit : Stage → Type 0
AreFit Opening = Unit {0}
AreFit (Listing vs) = Unit {0}
AreFit (Giving left) = AreLeft left
AreFit Done = Unit {0}
AreFit Failed = Unit {0}

-- the session has failed
abbrev pub GiverFailed : Giver → Type 0
GiverFailed g = IsTrue (has_failed g.stage)

-- before the first frame
abbrev pub first_giver : ℕ → Giver
first_giver limit = record { stage = Opening; sent = 0; taken = 0; limit = limit }
