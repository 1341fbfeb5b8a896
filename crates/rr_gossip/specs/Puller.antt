-- Which frame the side that pulls sends next, and what it does with a frame.
use Rattle.std.specs.Prelude.{◌≡◌, ℕ, ◌+◌, ◌⊎◌, nat_le, ◌==◌, Bool, true, false, not, ◌&&◌, IsTrue, List, [], ◌∷◌, ◌++◌, length, map, take, is_some, Option, None, Some, Result, Ok, Err}
use Rattle.std.specs.FinMap.{entries}
use Rattle.std.specs.List.{last_or}
use Rattle.std.specs.Option.{option_map}
use Rattle.rr_text.specs.Results.{◌>>=◌, unless}
use Rattle.rr_schema.specs.Schema.{Layout}
use Rattle.rr_schema.specs.SchemaBytes.{schema_bytes}
use Rattle.rr_delta.specs.declared.name.Name.{Name}
use Rattle.rr_delta.specs.Names.{NamedVersion, named_version, owned_name}
use Rattle.rr_delta.specs.Summaries.{cells_after}
use Rattle.rr_page.specs.PageReading.{page_at}
use Rattle.rr_cells.specs.CellBounds.{NamedCell}
use Rattle.rr_cells.specs.Cells.{Cells}
use Rattle.rr_gossip.specs.declared.fault.GossipFault.{GossipFault}
use Rattle.rr_gossip.specs.declared.fault.GossipFault.TheVariants as why
use Rattle.rr_gossip.specs.declared.frame.Kind.{Kind}
use Rattle.rr_gossip.specs.declared.frame.Kind.TheVariants as kind
use Rattle.rr_gossip.specs.declared.puller.Puller.{Puller}
use Rattle.rr_gossip.specs.declared.puller.Stage.{Stage}
use Rattle.rr_gossip.specs.declared.puller.Stage.TheVariants.{Opening, Listing, Waiting, Done, Failed}
use Rattle.rr_gossip.specs.declared.summary.TheConstants.{MAX_ENTRIES}
use Rattle.rr_gossip.specs.Fault.{as_body}
use Rattle.rr_gossip.specs.Frame.{content_at, frame_text}
use Rattle.rr_gossip.specs.Giver.{count_with}
use Rattle.rr_gossip.specs.Summary.{summary_text}

-- ---- the next frame

-- a name and a version, as a `Name`
abbrev pub as_name : NamedVersion → Name
as_name v = record { key = v.0.key; archive = v.0.archive; slot = v.0.slot; origin = v.0.origin; version = v.1 }

-- the last of these, if there is one
abbrev pub last_listed : List NamedVersion → Option Name
last_listed vs = option_map as_name (last_or None vs)

-- the names and versions of the next cells after the last name, at most 256
abbrev pub next_names : Cells → Option Name → List NamedVersion
next_names m after = take MAX_ENTRIES (map named_version
    (cells_after (option_map (λ n. (owned_name n).0) after) (entries m)))

-- a Summary frame, or the end if no name is left; and the stage after it
abbrev pub names_sent : List NamedVersion → Stage × List ℕ
names_sent [] = (Waiting, frame_text kind.SummaryEnd [])
names_sent (v ∷ vs) = (Listing (last_listed (v ∷ vs)), frame_text kind.Summary (summary_text (v ∷ vs)))

abbrev pub some_sent : Stage × List ℕ → Result (Stage × Option (List ℕ)) GossipFault
some_sent next = Ok (next.0, Some next.1)

-- first the schema, then the names of the cells m, then nothing more
abbrev pub stage_sends : Cells → Layout → Stage → Result (Stage × Option (List ℕ)) GossipFault
stage_sends m s Opening = some_sent (Listing None, frame_text kind.Hello (schema_bytes s))
stage_sends m s (Listing after) = some_sent (names_sent (next_names m after))
stage_sends m s Waiting = Ok (Waiting, None)
stage_sends m s Done = Ok (Done, None)
stage_sends m s Failed = Err why.Failed

-- the frame that a puller with the cells m sends next, if one is due
unfoldable pub puller_sends : Cells → Layout → Puller → Result (Puller × Option (List ℕ)) GossipFault
puller_sends m s p = do
  next ← stage_sends m s p.stage
  unless why.TooManyFrames (is_some next.1 && nat_le p.limit p.sent)
      (Ok (record { stage = next.0; sent = count_with p.sent next.1; taken = p.taken; limit = p.limit }, next.1))

-- ---- what a frame does

abbrev pub is_waiting : Stage → Bool
is_waiting Opening = false
is_waiting (Listing after) = false
is_waiting Waiting = true
is_waiting Done = false
is_waiting Failed = false

abbrev pub has_failed : Stage → Bool
has_failed Opening = false
has_failed (Listing after) = false
has_failed Waiting = false
has_failed Done = false
has_failed Failed = true

-- pages, and their end
abbrev pub awaits : Stage → Kind → Bool
awaits stage kind.Hello = false
awaits stage kind.Summary = false
awaits stage kind.SummaryEnd = false
awaits stage kind.Page = is_waiting stage
awaits stage kind.PageEnd = is_waiting stage

-- the next stage, the cells that are joined, and whether this was the other side's last frame
abbrev pub Taken : Type 0
Taken = (Stage × List NamedCell) × Bool

unfoldable pub page_taken : Layout → List ℕ → Result Taken GossipFault
page_taken s body = as_body (page_at s body) >>= λ es. Ok ((Waiting, es), false)

unfoldable pub end_taken : List ℕ → Result Taken GossipFault
end_taken body = unless why.BadFrame (not (length body == 0)) (Ok ((Done, []), true))

abbrev pub body_taken : Layout → Kind → List ℕ → Result Taken GossipFault
body_taken s kind.Hello body = Err why.UnexpectedFrame
body_taken s kind.Summary body = Err why.UnexpectedFrame
body_taken s kind.SummaryEnd body = Err why.UnexpectedFrame
body_taken s kind.Page body = page_taken s body
body_taken s kind.PageEnd body = end_taken body

-- whether frames are still to be sent
abbrev pub is_sending : Stage → Bool
is_sending Opening = true
is_sending (Listing after) = true
is_sending Waiting = false
is_sending Done = false
is_sending Failed = false

-- what a puller does with what follows the length of a frame, and which cells it joins
unfoldable pub puller_takes : Layout → Puller → List ℕ → Result ((Puller × List NamedCell) × Bool) GossipFault
puller_takes s p content = do
  frame ← unless why.Failed (has_failed p.stage) (content_at content)
  next ← unless why.UnexpectedFrame (not (awaits p.stage frame.0))
      (unless why.TooManyFrames (nat_le p.limit p.taken) (body_taken s frame.0 frame.1))
  Ok ((record { stage = next.0.0; sent = p.sent; taken = p.taken + 1; limit = p.limit }, next.0.1), next.1)

-- ---- what is joined

-- the first cells of a frame that is read, perhaps all, perhaps none
pub record ArePrefix {X : Type 0} (es : List NamedCell) (read : Result ((X × List NamedCell) × Bool) GossipFault)
    : Type 0 where
  pub found : (X × List NamedCell) × Bool
  pub is_read : read ≡ Ok found
  pub others : List NamedCell
  pub parts : found.0.1 ≡ es ++ others

-- a frame was taken: its cells are joined, one by one and in order; or it is refused and no cell is joined; or memory
-- ran out, and then its first cells may be joined. `joined` says which cells a target has joined
abbrev pub Takes : {X : Type 0} → (List NamedCell → Type 0) → X → Result Bool GossipFault
    → Result ((X × List NamedCell) × Bool) GossipFault → Type 0
Takes joined x (Ok last) read = (es : List NamedCell) × (read ≡ Ok ((x, es), last)) × joined es
Takes joined x (Err fault) read =
    ((fault ≡ why.Memory) × (joined [] ⊎ ((es : List NamedCell) × ArePrefix es read × joined es)))
    ⊎ ((read ≡ Err fault) × joined [])

-- the session has failed
abbrev pub PullerFailed : Puller → Type 0
PullerFailed p = IsTrue (has_failed p.stage)

-- before the first frame
abbrev pub first_puller : ℕ → Puller
first_puller limit = record { stage = Opening; sent = 0; taken = 0; limit = limit }
