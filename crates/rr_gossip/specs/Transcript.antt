-- The frames of a whole session, one way and the other.
use Rattle.std.specs.Prelude.{◌≡◌, ℕ, zero, suc, ◌+◌, ◌≤◌, List, [], ◌∷◌, ◌++◌, length, map, take, drop, Option, None, Some, Result, Ok, All}
use Rattle.rr_text.specs.declared.limits.TheConstants.{MAX_PAGE_CELLS}
use Rattle.rr_text.specs.Results.{◌>>=◌}
use Rattle.rr_schema.specs.Schema.{Layout, IsLayout}
use Rattle.std.specs.FinMap.{entries}
use Rattle.rr_delta.specs.Difference.{IsSummary, newer_cells}
use Rattle.rr_delta.specs.Laws.{AgreeAtVersions}
use Rattle.rr_gossip.specs.Pages.{AreLeft}
use Rattle.rr_cells.specs.Joins.{join, join_cells}
use Rattle.rr_schema.specs.SchemaBytes.{schema_bytes}
use Rattle.rr_delta.specs.Names.{NamedVersion, IsNameOf, versions_of}
use Rattle.rr_page.specs.Page.{page_text}
use Rattle.rr_page.specs.Version.{latest}
use Rattle.rr_cells.specs.CellBounds.{NamedCell, IsCellOf}
use Rattle.rr_cells.specs.Cells.{Cells, IsTrimmed}
use Rattle.rr_gossip.specs.declared.fault.GossipFault.{GossipFault}
use Rattle.rr_gossip.specs.declared.frame.Kind.TheVariants as kind
use Rattle.rr_gossip.specs.declared.giver.Giver.{Giver}
use Rattle.rr_gossip.specs.declared.giver.Stage.TheVariants as giver
use Rattle.rr_gossip.specs.declared.puller.Puller.{Puller}
use Rattle.rr_gossip.specs.declared.puller.Stage.TheVariants as puller
use Rattle.rr_gossip.specs.declared.summary.TheConstants.{MAX_ENTRIES}
use Rattle.rr_gossip.specs.Frame.{frame_text}
use Rattle.rr_gossip.specs.Giver.{first_giver, giver_sends, giver_takes}
use Rattle.rr_gossip.specs.Puller.{first_puller, puller_sends, puller_takes}
use Rattle.rr_gossip.specs.Summary.{summary_text}

-- ---- what is to be sent

-- a list cut into pieces of n, the last of them with what is left, in at most this many pieces
unfoldable pub pieces : {X : Type 0} → ℕ → ℕ → List X → List (List X)
pieces zero n xs = []
pieces (suc most) n [] = []
pieces (suc most) n (x ∷ xs) = take n (x ∷ xs) ∷ pieces most n (drop n (x ∷ xs))

-- all of a list in pieces
abbrev pub cut : {X : Type 0} → ℕ → List X → List (List X)
cut n xs = pieces (length xs) n xs

-- the schema, then names and versions, 256 in a frame, and the end
abbrev pub frames_of_names : Layout → List NamedVersion → List (List ℕ)
frames_of_names s vs = frame_text kind.Hello (schema_bytes s) ∷
    (map (λ piece. frame_text kind.Summary (summary_text piece)) (cut MAX_ENTRIES vs)
    ++ frame_text kind.SummaryEnd [] ∷ [])

-- pages of cells, 256 in each, and the end
abbrev pub reply : Layout → List NamedCell → List (List ℕ)
reply s es = map (λ piece. frame_text kind.Page (page_text latest s piece)) (cut MAX_PAGE_CELLS es)
    ++ frame_text kind.PageEnd [] ∷ []

-- ---- what is sent

-- a frame and those after it, or none if there is no frame
abbrev pub and_frames : Option (List ℕ) → Result (List (List ℕ)) GossipFault → Result (List (List ℕ)) GossipFault
and_frames None later = Ok []
and_frames (Some frame) later = later >>= λ frames. Ok (frame ∷ frames)

-- the frames that a giver sends in a row, at most this many
unfoldable pub giver_frames : ℕ → Giver → Result (List (List ℕ)) GossipFault
giver_frames zero g = Ok []
giver_frames (suc most) g = giver_sends g >>= λ next. and_frames next.1 (giver_frames most next.0)

-- the same, with the puller after them
abbrev pub and_later : Puller → Option (List ℕ) → Result (Puller × List (List ℕ)) GossipFault
    → Result (Puller × List (List ℕ)) GossipFault
and_later p None later = Ok (p, [])
and_later p (Some frame) later = later >>= λ x. Ok (x.0, frame ∷ x.1)

-- a puller whose cells stay m, after the frames that it sends in a row, at most this many, and these frames
unfoldable pub puller_frames : ℕ → Cells → Layout → Puller → Result (Puller × List (List ℕ)) GossipFault
puller_frames zero m s p = Ok (p, [])
puller_frames (suc most) m s p = puller_sends m s p >>= λ next. and_later next.0 next.1 (puller_frames most m s next.0)

-- a puller that has sent this many frames, including the last, and taken that many
abbrev pub waiting : ℕ → ℕ → ℕ → Puller
waiting sent taken limit = record { stage = puller.Waiting; sent = sent; taken = taken; limit = limit }

-- ---- laws

-- a giver that has made a difference sends its pages and the end, if it may send that many frames
abbrev pub GiversReply : Type 0
GiversReply =
    (s : Layout) (es : List NamedCell) (before taken limit most : ℕ) → before + length (reply s es) ≤ limit
    → length (reply s es) ≤ most
    → giver_frames most (record { stage = giver.Giving (s, es); sent = before; taken = taken; limit = limit })
    ≡ Ok (reply s es)

-- a puller sends its schema, the names and versions of all cells, and the end, if it may send that many frames
abbrev pub PullersSend : Type 0
PullersSend =
    (s : Layout) (m : Cells) (limit most : ℕ) → length (frames_of_names s (versions_of m)) ≤ limit
    → length (frames_of_names s (versions_of m)) ≤ most
    → puller_frames most m s (first_puller limit) ≡ Ok
    (waiting (length (frames_of_names s (versions_of m))) 0 limit, frames_of_names s (versions_of m))

-- ---- what is taken

-- what follows the length of each frame
abbrev pub contents : List (List ℕ) → List (List ℕ)
contents frames = map (λ frame. drop 4 frame) frames

-- a giver after frames, whose source has the cells m
unfoldable pub giver_after : Cells → Layout → Giver → List (List ℕ) → Result Giver GossipFault
giver_after m s g [] = Ok g
giver_after m s g (c ∷ cs) = giver_takes m s g c >>= λ next. giver_after m s next.0 cs

-- a puller after frames, and the cells to join: those that it had before them, and then those of each frame, in order
unfoldable pub puller_after : Layout → Puller → List NamedCell → List (List ℕ)
    → Result (Puller × List NamedCell) GossipFault
puller_after s p had [] = Ok (p, had)
puller_after s p had (c ∷ cs) = puller_takes s p c >>= λ next. puller_after s next.0.0 (had ++ next.0.1) cs

-- a giver that has taken what a puller sends has the difference against it to send
abbrev pub GiversTake : Type 0
GiversTake =
    (s : Layout) (m : Cells) (vs : List NamedVersion) (limit : ℕ) → IsLayout s → All (IsNameOf s) vs → IsSummary vs
    → length (frames_of_names s vs) ≤ limit
    → giver_after m s (first_giver limit) (contents (frames_of_names s vs))
    ≡ Ok (record {
      stage = giver.Giving (s, newer_cells vs (entries m));
      sent = 0;
      taken =
          length (frames_of_names s vs);
      limit = limit;
    })

-- a puller that takes what a giver replies has all of it to join, in order, and is done
abbrev pub PullersTake : Type 0
PullersTake =
    (s : Layout) (had es : List NamedCell) (sent taken limit : ℕ) → IsLayout s → AreLeft (s, es)
    → taken + length (reply s es) ≤ limit
    → puller_after s (waiting sent taken limit) had (contents (reply s es))
    ≡ Ok (record { stage = puller.Done; sent = sent; taken = taken + length (reply s es); limit = limit }, had ++ es)

-- a whole session of at most `limit` frames each way: a puller with the cells m sends its frames, a giver with the
-- cells `given` takes them and replies, and the puller takes the reply, which has these cells
pub record IsSession (s : Layout) (m given : Cells) (limit : ℕ) (cells : List NamedCell) : Type 0 where
  pub puller : Puller
  pub frames : List (List ℕ)
  pub is_sent : puller_frames limit m s (first_puller limit) ≡ Ok (puller, frames)
  pub giver : Giver
  pub is_heard : giver_after given s (first_giver limit) (contents frames) ≡ Ok giver
  pub pages : List (List ℕ)
  pub is_replied : giver_frames limit giver ≡ Ok pages
  pub last : Puller
  pub is_taken : puller_after s puller [] (contents pages) ≡ Ok (last, cells)

-- it brings what the puller lacks, in order, and so the join of both sides' cells, if equal versions of one cell mean
-- equal contents
abbrev pub SessionsBringTheJoin : Type 0
SessionsBringTheJoin =
    (s : Layout) (m given : Cells) (limit : ℕ) → IsLayout s → IsTrimmed s m → All (IsCellOf s) (entries m)
    → All (IsCellOf s) (entries given) → AgreeAtVersions given m
    → length (frames_of_names s (versions_of m)) ≤ limit
    → length (reply s (newer_cells (versions_of m) (entries given))) ≤ limit
    → IsSession s m given limit (newer_cells (versions_of m) (entries given))
    × (join_cells s m (newer_cells (versions_of m) (entries given)) ≡ join s m given)
