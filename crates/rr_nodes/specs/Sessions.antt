-- Sessions, by their bytes: the keeper of one node pulls from a reader of another.
use Rattle.std.specs.Prelude.{◌≡◌, ◌≢◌, ℕ, List, [], ◌++◌, map, fold, length, Option, Some, All}
use Rattle.std.specs.Option.{option_map}
use Rattle.std.specs.FinMap.{get, entries}
use Rattle.std.specs.List.{concat}
use mathlib.Core.List.{IsPrefix}
use Rattle.rr_schema.specs.Schema.{Layout, IsLayout}
use Rattle.rr_cells.specs.CellNames.{CellName}
use Rattle.rr_cells.specs.Knowledge.{Knowledge, union, live}
use Rattle.rr_cells.specs.declared.op.Op.{Op}
use Rattle.rr_cells.specs.CellBounds.{NamedCell, IsCellOf}
use Rattle.rr_cells.specs.Cells.{Cells}
use Rattle.rr_cells.specs.ReplicaState.{IsReplicaState}
use Rattle.rr_cells.specs.Joins.{join_cells}
use Rattle.rr_cells.specs.Operations.{outcome_of, to_cell}
use Rattle.rr_desk.specs.KeeperState.{KeeperState, cells_of, own_replica}
use Rattle.rr_delta.specs.Difference.{newer_cells}
use Rattle.rr_delta.specs.Names.{versions_of}
use Rattle.rr_desk.specs.ReaderState.{HasJoined}
use Rattle.rr_gossip.specs.declared.fault.GossipFault.{GossipFault}
use Rattle.rr_gossip.specs.declared.giver.Giver.{Giver}
use Rattle.rr_gossip.specs.Giver.{first_giver}
use Rattle.rr_gossip.specs.Session.{HasGiven, HasHeard, HasPulled, HasStoppedPulling, replied_by, sent_by}
use Rattle.rr_gossip.specs.Transcript.{waiting}
use Rattle.rr_nodes.specs.Nodes.{Node, Moment, Deed, held_at, after_all, taken}
use Rattle.rr_nodes.specs.Models.{cell_model, sample_model}
use Rattle.rr_nodes.specs.Laws.{IsWithinLimits}
use Rattle.rr_nodes.specs.Keepers.{IsNode}
use Rattle.rr_nodes.specs.Calls.{Desk, Desks, HasBegun, Leave, joins_of_page}
use Rattle.rr_nodes.specs.Pulls.{takes}

-- the cells of one side that another lacks or has with a smaller version, in order
abbrev pub lacking : Cells → Cells → List NamedCell
lacking given had = newer_cells (versions_of had) (entries given)

abbrev pub names_lacking : Cells → Cells → List CellName
names_lacking given had = map (λ e. e.0) (lacking given had)

-- a whole session of two sides: the one that gives heard what the other sends, whose first bytes it may have read
-- before, and the one that pulls read what that one wrote, whose cells are these; more may follow in either direction
pub record IsSession (s : Layout) (had given : Cells) (cells : List NamedCell) : Type 0 where
  pub before : List ℕ
  pub heard : List ℕ
  pub more_heard : List ℕ
  pub is_sent : before ++ heard ≡ concat (sent_by s had) ++ more_heard
  pub answer : List ℕ
  pub limit_given : ℕ
  pub left_given : Option (List ℕ)
  pub gave : HasGiven limit_given s given before (Some heard) left_given (Some []) (Some answer)
  pub more : List ℕ
  pub limit : ℕ
  pub left : Option (List ℕ)
  pub pulled : HasPulled s (waiting (length (sent_by s had)) 0 limit) (Some (answer ++ more)) left cells

-- these are exactly what the side that pulls lacked, in order
abbrev pub SessionsBringWhatIsLacking : Type 0
SessionsBringWhatIsLacking =
    (s : Layout) (had given : Cells) (cells : List NamedCell) → IsLayout s → All (IsCellOf s) (entries had)
    → IsSession s had given cells
    → cells ≡ lacking given had

-- and two sides that have cells of the schema can have a session that brings them
abbrev pub SidesHaveASession : Type 0
SidesHaveASession =
    (s : Layout) (had given : Cells) → IsLayout s → All (IsCellOf s) (entries had) → All (IsCellOf s) (entries given)
    → IsSession s had given (lacking given had)

-- a session that is cut: the side that gives heard the same; of its answer, which it may not have written whole, the
-- side that pulls could read a beginning, and stopped; these are the cells that it had by then
pub record IsCutSession (s : Layout) (had given : Cells) (cells : List NamedCell) : Type 0 where
  pub before : List ℕ
  pub heard : List ℕ
  pub more_heard : List ℕ
  pub is_sent : before ++ heard ≡ concat (sent_by s had) ++ more_heard
  pub limit_given : ℕ
  pub left_given : Option (List ℕ)
  pub last : Giver
  pub hears : HasHeard s given (first_giver limit_given) last before (Some heard) left_given
  pub came : List ℕ
  pub lost : List ℕ
  pub more : List ℕ
  pub is_answer : came ++ lost ≡ concat (replied_by s hears.names given) ++ more
  pub limit : ℕ
  pub left : Option (List ℕ)
  pub fault : GossipFault
  pub stopped : HasStoppedPulling s (waiting (length (sent_by s had)) 0 limit) (Some came) left fault cells

-- these are the first of what the side that pulls lacked, in order
abbrev pub CutSessionsBringAPrefix : Type 0
CutSessionsBringAPrefix =
    (s : Layout) (had given : Cells) (cells : List NamedCell) → IsLayout s → All (IsCellOf s) (entries had)
    → IsCutSession s had given cells
    → IsPrefix cells (lacking given had)

-- and such sides can have a session that is cut before anything came
abbrev pub SidesHaveACutSession : Type 0
SidesHaveACutSession =
    (s : Layout) (had given : Cells) → IsLayout s → All (IsCellOf s) (entries had) → All (IsCellOf s) (entries given)
    → IsCutSession s had given []

-- none if nothing came, as from a side that stopped before it heard all that was sent
abbrev pub SilentSessionsBringNothing : Type 0
SilentSessionsBringNothing =
    (s : Layout) (sent limit : ℕ) (left : Option (List ℕ)) (fault : GossipFault) (cells : List NamedCell) → IsLayout s
    → HasStoppedPulling s (waiting sent 0 limit) (Some []) left fault cells
    → cells ≡ []

-- what an origin's node holds
abbrev pub now_at : ℕ → Moment
now_at origin = record { origin = origin; ago = 0 }

-- once a node has taken the cells with these names, it holds these cells, and has the live marks of what both sides
-- knew
pub record HasTakenAll (s : Layout) (deeds : List Deed) (origin : ℕ) (there : Moment) (names : List CellName)
    (after : Cells) : Type 0 where
  pub cells : held_at (after_all cell_model s (deeds ++ takes origin there names)) (now_at origin) ≡ Some after
  pub known : Knowledge
  pub is_known : held_at (after_all sample_model s deeds) (now_at origin) ≡ Some known
  pub given : Knowledge
  pub is_given : held_at (after_all sample_model s deeds) there ≡ Some given
  pub marks : option_map (live s) (held_at (after_all sample_model s (deeds ++ takes origin there names))
      (now_at origin)) ≡ Some (live s (union known given))

-- so a session with what another node held at some moment, whatever was done before, is deeds that take all that was
-- lacking
abbrev pub SessionsAreDeeds : Type 0
SessionsAreDeeds =
    (s : Layout) (deeds : List Deed) (origin : ℕ) (there : Moment) (had given : Cells) (cells : List NamedCell)
    → IsLayout s → All IsWithinLimits deeds → there.origin ≢ origin
    → held_at (after_all cell_model s deeds) (now_at origin) ≡ Some had
    → held_at (after_all cell_model s deeds) there ≡ Some given → IsSession s had given cells
    → HasTakenAll s deeds origin there (names_lacking given had) (join_cells s had cells)

-- and these deeds are what a keeper that pulled so did, as the contracts of its `pull` and its `schema` say
abbrev pub PullIsDeeds : Type 0
PullIsDeeds =
    (opening : List Op) (old new : KeeperState) (n : Node Cells) (given : Cells) (cells : List NamedCell)
    → IsReplicaState (own_replica old) → IsNode opening old n
    → IsSession old.schema (cells_of old) given cells → HasJoined old new cells
    → IsNode opening new (fold (λ o name. taken cell_model old.schema old.origin o given name) n
    (names_lacking given (cells_of old)))

-- so among several desks such a pull, of what a reader of another has seen, is a join for each cell that was lacking
abbrev pub PullsAreJoins : Type 0
PullsAreJoins =
    (s : Layout) (ds : Desks) (origin there : ℕ) (d : Desk) (new : KeeperState) (list : List Op)
    (cells : List NamedCell) → get ds origin ≡ Some d → there ≢ origin → HasBegun ds there list
    → IsReplicaState (own_replica d.keeper) → d.keeper.schema ≡ s
    → IsSession s (cells_of d.keeper) (outcome_of s list) cells → HasJoined d.keeper new cells
    → Leave s ds origin d (joins_of_page origin there list (map to_cell cells)) new

-- ---- a pull that is cut

-- what it joined are deeds
abbrev pub CutPullIsDeeds : Type 0
CutPullIsDeeds =
    (opening : List Op) (old new : KeeperState) (n : Node Cells) (given : Cells) (cells : List NamedCell)
    → IsReplicaState (own_replica old) → IsNode opening old n
    → IsCutSession old.schema (cells_of old) given cells → HasJoined old new cells
    → IsNode opening new (fold (λ o name. taken cell_model old.schema old.origin o given name) n (map (λ e. e.0) cells))

-- and joins
abbrev pub CutPullsAreJoins : Type 0
CutPullsAreJoins =
    (s : Layout) (ds : Desks) (origin there : ℕ) (d : Desk) (new : KeeperState) (list : List Op)
    (cells : List NamedCell) → get ds origin ≡ Some d → there ≢ origin → HasBegun ds there list
    → IsReplicaState (own_replica d.keeper) → d.keeper.schema ≡ s
    → IsCutSession s (cells_of d.keeper) (outcome_of s list) cells → HasJoined d.keeper new cells
    → Leave s ds origin d (joins_of_page origin there list (map to_cell cells)) new
