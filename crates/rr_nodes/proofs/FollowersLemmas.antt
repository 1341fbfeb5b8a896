-- Followers of a journal hold what they have read of it.
use Rattle.std.proofs.Common.{arith, ◌≡◌, ℕ, ◌+◌, ◌-◌, ◌^◌, ◌<◌, ◌≤◌, List, [], ◌∷◌, ◌++◌, map, fold, drop, take, append_assoc, append-nil, refl, sym, ap, ◌∙◌, subst, Result, Ok, None, ◌⊎◌, inl, inr, ⊎_elim}
use Rattle.std.specs.Prelude.{All, Contains}
use Rattle.std.specs.FinMap.{empty}
use Rattle.std.specs.List.{AllByRecursion}
use Rattle.std.proofs.lemmas.Grind.{flat_map-append}
use Rattle.std.proofs.lemmas.List.{map-append, take-append-drop}
use Rattle.std.proofs.lemmas.List.Elements.{All-contains, All-contains_itself, All-drop, All-from_recursion, All-take, All-weaker, Contains-append_cases, Contains-append_left, Contains-append_right, recursion_from_All}
use Rattle.rr_text.specs.Results.{◌>>=◌}
use Rattle.rr_schema.specs.Schema.{Layout, IsLayout}
use Rattle.rr_cells.specs.CellBounds.{IsCellOf, NamedCell}
use Rattle.rr_cells.specs.declared.cell.Cell.{Cell}
use Rattle.rr_cells.specs.Cells.{Cells}
use Rattle.rr_cells.specs.Joins.{join_cells}
use Rattle.rr_cells.specs.Listing.{owned_cell}
use Rattle.rr_cells.specs.Operations.{outcome_of, step, to_cell}
use Rattle.rr_cells.proofs.CellByCell.{join_nothing, trimmed_none}
use Rattle.rr_cells.proofs.JoinLaws.{join_itself}
use Rattle.rr_cells.proofs.OperationsLemmas.{outcome_of-append, steps-cells}
use Rattle.rr_changes.specs.Updates.{Holds, last_cells, written_cells}
use Rattle.rr_changes.specs.Checkpoints.{walked}
use Rattle.rr_changes.proofs.AddingLemmas.{operations_only_add}
use Rattle.rr_changes.proofs.CheckpointLemmas.{walks_bring_all}
use Rattle.rr_changes.proofs.HoldingLemmas.{nowhere, one, brought, each_held, holds_further, holds_trimmed, made_held, still_held}
use Rattle.rr_desk.specs.Joining.{map_joined}
use Rattle.rr_desk.specs.KeeperState.{KeeperState, cells_of, own_replica}
use Rattle.rr_desk.specs.ReaderState.{with_joined}
use Rattle.rr_journal.specs.declared.cursor.Cursor.{Cursor}
use Rattle.rr_journal.specs.declared.fault.JournalFault.{JournalFault}
use Rattle.rr_journal.specs.Body.{Meaning}
use Rattle.rr_journal.specs.Cursor.{behind_all, moved_by}
use Rattle.rr_journal.specs.Text.{AllFit, Raw, chain, record_len, records_len, records_text}
use Rattle.rr_journal.proofs.TextLemmas.{texts_go_on}
use Rattle.rr_recovery.specs.Joining.{cells_of_record}
use Rattle.rr_recovery.specs.Laws.{cells_of_all, meanings_of}
use Rattle.rr_recovery.proofs.ReplayLemmas.{behind_none}
use Rattle.rr_replication.specs.declared.fault.PartFault.{PartFault}
use Rattle.rr_replication.specs.Laws.{HasReadSome}
use Rattle.rr_replication.specs.Reading.{PeerState, after_part, peer_state}
use Rattle.rr_replication.proofs.TextLemmas.{behind_append, dropped, later_fit, len_append, length_of_text, meanings_append, parts_bring_the_records}
use Rattle.rr_batch.proofs.PeerLemmas.{cells_of_the_schema_are_joined}
use Rattle.rr_nodes.specs.Followers.{Follower, HasReadOn, HasJoinedFirst, HasGoneOn, KeepersGoOn, AreFollowers, HasFollowed, IsStart, CanStand, IsBehind, FollowersHoldAll, CheckpointedHoldAll, from_checkpoint}
use Rattle.rr_nodes.specs.Replays.{HaveAll}
use Rattle.rr_nodes.proofs.ReplaysLemmas.{first_and_others}

-- ---- a keeper

as_cells : (cells : List Cell) → map to_cell (map owned_cell cells) ≡ cells
as_cells [] = refl
as_cells (c ∷ cells) = ap (λ (l : List Cell). c ∷ l) (as_cells cells)

-- what a keeper has that joined cells
joined_by : (f g : KeeperState) (cells : List Cell) → g ≡ with_joined f cells
    → (g.schema ≡ f.schema) × (cells_of g ≡ join_cells f.schema (cells_of f) (map owned_cell cells))
joined_by f g cells is =
    map_joined f g (map owned_cell cells) (is ∙ ap (with_joined f) (sym (as_cells cells)))

pub keepers_go_on : KeepersGoOn
keepers_go_on f g ops goes taken schema all waiting place =
    let k = f.keeper in
    let s = k.schema in
    let h = own_replica k in
    let then : cells_of g.keeper ≡ (fold step h ops).cells =
    ap (λ (l : Layout). outcome_of l (g.keeper.published ++ g.keeper.pending)) schema
    ∙ ap (outcome_of s) all ∙ outcome_of-append s (k.published ++ k.pending) ops ∙ sym (steps-cells ops h taken) in
    record {
      schema = schema;
      held = subst (λ (c : Cells). Holds s c (cells_of k)) (sym then) (operations_only_add h ops goes);
      waiting = waiting;
      place = place;
    }

-- ---- records

-- what is left of a text behind its first records
text_behind : (begin : Cursor) (first later : List Raw) → begin.offset + records_len (first ++ later) < 2 ^ 64
    → drop ((behind_all begin first).offset - begin.offset) (records_text begin.digest (first ++ later))
    ≡ records_text (chain begin.digest first) later
text_behind begin first later short =
    let before = records_text begin.digest first in
    let others = records_text (chain begin.digest first) later in
    let far = moved_by (records_len first) begin.offset - begin.offset in
    ap (drop far) (texts_go_on begin.digest first later)
    ∙ dropped before others far (omega (arith, length_of_text begin.digest first, len_append first later, short))

-- of two beginnings of records the longer one begins with the other
begins_with : (rs later first rest : List Raw) → rs ++ later ≡ first ++ rest → records_len rs ≤ records_len first
    → (more : List Raw) × (first ≡ rs ++ more)
begins_with [] later first rest e le = (first, refl)
begins_with (r ∷ rs) later [] rest e le = absurd (omega (arith, le))
begins_with (r ∷ rs) later (q ∷ first) rest e le =
    let same : r ≡ q = cc (e) in
    let others : rs ++ later ≡ first ++ rest = cc (e) in
    let len : record_len r ≡ record_len q = ap record_len same in
    let more = begins_with rs later first rest others (omega (arith, le, len)) in
    (more.0, cc (same, more.1))

-- what the first of some records mean is first in what all mean
meanings_apart : (s : Layout) (rs more : List Raw) (ms : List Meaning) → meanings_of s (rs ++ more) ≡ Ok ms
    → (first : List Meaning) × (later : List Meaning) × (meanings_of s rs ≡ Ok first) × (ms ≡ first ++ later)
meanings_apart s [] more ms e = ([], ms, refl, refl)
meanings_apart s (r ∷ rs) more ms e =
    let a = first_and_others s r (rs ++ more) ms e in
    let rest = meanings_apart s rs more a.1 a.2 in (
      a.0 ∷ rest.0,
      rest.1,
      ap (λ (m : Result Meaning JournalFault). m >>= λ n. meanings_of s rs >>= λ ns. Ok (n ∷ ns)) a.4
          ∙ ap (λ (m : Result (List Meaning) JournalFault). m >>= λ ns. Ok (a.0 ∷ ns)) rest.2,
      a.3 ∙ ap (λ (l : List Meaning). a.0 ∷ l) rest.3,
    )

-- ---- what a follower has joined

-- a cell is held, or waits
abbrev HeldOrWaits : Layout → Follower → NamedCell → Type 0
HeldOrWaits s f e = Holds s (cells_of f.keeper) (one e) ⊎ Contains (map owned_cell f.waiting) e

-- the cells of the first records, up to its place, but for those that wait, and all that it held at the start
record HasJoinedSome (s : Layout) (begin : Cursor) (rs : List Raw) (start f : Follower) : Type 0 where
  schema : f.keeper.schema ≡ s
  first : List Raw
  later : List Raw
  parts : rs ≡ first ++ later
  meanings : List Meaning
  read : meanings_of s first ≡ Ok meanings
  place : f.place ≡ behind_all begin first
  of_schema : All (λ c. IsCellOf s (owned_cell c)) f.waiting
  since : Holds s (cells_of f.keeper) (cells_of start.keeper)
  held : (e : NamedCell) → Contains (cells_of_all meanings) e → HeldOrWaits s f e

module _ (s : Layout) (is : IsLayout s) (begin : Cursor) (rs : List Raw) (can : CanStand begin rs)
    (start : Follower) (starts : IsStart s begin start) where
  abbrev text : List ℕ
  text = records_text begin.digest rs

  abbrev IsOf : Cell → Type 0
  IsOf c = IsCellOf s (owned_cell c)

  abbrev Joined : Follower → Type 0
  Joined f = HasJoinedSome s begin rs start f

  at_start : Joined start
  at_start = record {
    schema = starts.schema;
    first = [];
    later = rs;
    parts = refl;
    meanings = [];
    read = refl;
    place = starts.place ∙ behind_none begin (let short = can.short in omega (arith, short));
    of_schema = subst (λ (l : List Cell). All IsOf l) (sym starts.waiting) (All-from_recursion IsOf [] tt);
    since = join_itself s (cells_of start.keeper) is starts.live;
    held = λ e has. absurd (nowhere e has);
  }

  gone_on : (f g : Follower) → Joined f → HasGoneOn s f g → Joined g
  gone_on f g has h = record {
    schema = h.schema ∙ has.schema;
    first = has.first;
    later = has.later;
    parts = has.parts;
    meanings = has.meanings;
    read = has.read;
    place = h.place ∙ has.place;
    of_schema = subst (λ (l : List Cell). All IsOf l) (sym h.waiting) has.of_schema;
    since = holds_further s is (cells_of g.keeper) (cells_of f.keeper) (cells_of start.keeper) h.held has.since;
    held = λ e among. ⊎_elim
        (λ before. inl (holds_further s is (cells_of g.keeper) (cells_of f.keeper) (one e) h.held before))
        (λ waits. inr (subst (λ (l : List Cell). Contains (map owned_cell l) e) (sym h.waiting) waits))
        (has.held e among);
  }

  -- what is read next is of the records that are left
  reads_some : (f g : Follower) (has : Joined f) (h : HasReadOn s begin.offset text f g)
      → HasReadSome s (peer_state f.place f.waiting) (peer_state g.place g.waiting) has.later
  reads_some f g has h =
      let y = peer_state f.place f.waiting in
      let z = peer_state g.place g.waiting in
      let short : begin.offset + records_len (has.first ++ has.later) < 2 ^ 64 =
      subst (λ (l : List Raw). begin.offset + records_len l < 2 ^ 64) has.parts can.short in
      let offset : f.place.offset ≡ moved_by (records_len has.first) begin.offset =
      ap (λ (c : Cursor). c.offset) has.place in
      let left : drop (f.place.offset - begin.offset) text ≡ records_text f.place.digest has.later =
      ap (λ (l : List Raw). drop (f.place.offset - begin.offset) (records_text begin.digest l)) has.parts
      ∙ ap (λ (c : Cursor). drop (c.offset - begin.offset) (records_text begin.digest (has.first ++ has.later)))
      has.place
      ∙ text_behind begin has.first has.later short
      ∙ ap (λ (c : Cursor). records_text c.digest has.later) (sym has.place) in
      let others = records_text f.place.digest has.later in
      let none : f.place.offset - f.place.offset ≡ 0 = omega arith in
      let part : after_part s y (take h.len (drop (f.place.offset - f.place.offset) others)) ≡ Ok z =
      ap (λ (n : ℕ). after_part s y (take h.len (drop n others))) none
      ∙ sym (ap (λ (l : List ℕ). after_part s y (take h.len l)) left) ∙ h.read in
      parts_bring_the_records s y z has.later (h.len ∷ [])
      (later_fit has.first has.later (subst AllFit has.parts can.fit))
      (omega (arith, short, offset, len_append has.first has.later))
      (ap (λ (r : Result PeerState PartFault). r >>= λ x. Ok x) part)

  read_on : (f g : Follower) → Joined f → HasReadOn s begin.offset text f g → Joined g
  read_on f g has h =
      let next = reads_some f g has h in
      let more = next.read in
      let first = map owned_cell f.waiting in
      let es = cells_of_all more.meanings in
      let waiting : map owned_cell g.waiting ≡ first ++ es = ap (λ (y : PeerState). y.cells) more.state in
      let keeper : cells_of g.keeper ≡ cells_of f.keeper = ap (λ (k : KeeperState). cells_of k) h.keeper in
      record {
        schema = ap (λ (k : KeeperState). k.schema) h.keeper ∙ has.schema;
        first = has.first ++ next.first;
        later = next.later;
        parts = has.parts ∙ ap (λ (l : List Raw). has.first ++ l) next.parts
            ∙ sym (append_assoc has.first next.first next.later);
        meanings = has.meanings ++ more.meanings;
        read = meanings_append s has.first next.first has.meanings more.meanings has.read more.read;
        place = ap (λ (y : PeerState). y.place) more.state
            ∙ ap (λ (c : Cursor). behind_all c next.first) has.place ∙ behind_append begin has.first next.first;
        of_schema = h.of_schema has.of_schema;
        since = subst (λ (c : Cells). Holds s c (cells_of start.keeper)) (sym keeper) has.since;
        held = λ e among. subst (λ (c : Cells). Holds s c (one e) ⊎ Contains (map owned_cell g.waiting) e) (sym keeper)
            (subst (λ (l : List NamedCell). Holds s (cells_of f.keeper) (one e) ⊎ Contains l e) (sym waiting) (⊎_elim
            (λ before. ⊎_elim (λ held. inl held) (λ waits. inr (Contains-append_left first es e waits))
            (has.held e before))
            (λ new. inr (Contains-append_right first es e new))
            (Contains-append_cases (cells_of_all has.meanings) es e
            (subst (λ (l : List NamedCell). Contains l e)
            (flat_map-append cells_of_record has.meanings more.meanings) among))));
      }

  joined_first : (f g : Follower) → Joined f → HasJoinedFirst f g → Joined g
  joined_first f g has h =
      let x = cells_of f.keeper in
      let now = take h.count f.waiting in
      let rest = drop h.count f.waiting in
      let es = map owned_cell now in
      let are : AllByRecursion (λ c. IsCellOf f.keeper.schema (owned_cell c)) now =
      subst (λ (l : Layout). AllByRecursion (λ c. IsCellOf l (owned_cell c)) now) (sym has.schema)
      (recursion_from_All IsOf now (All-take IsOf h.count f.waiting has.of_schema)) in
      let after = joined_by f.keeper g.keeper now
      (h.joined ∙ cells_of_the_schema_are_joined f.keeper now are) in
      let made : cells_of g.keeper ≡ join_cells s x es =
      after.1 ∙ ap (λ (l : Layout). join_cells l x es) has.schema in
      let trim = holds_trimmed s is x (cells_of start.keeper) has.since in
      let all : map owned_cell f.waiting ≡ es ++ map owned_cell rest =
      ap (map owned_cell) (sym (take-append-drop h.count f.waiting)) ∙ map-append owned_cell now rest in
      record {
        schema = after.0 ∙ has.schema;
        first = has.first;
        later = has.later;
        parts = has.parts;
        meanings = has.meanings;
        read = has.read;
        place = h.place ∙ has.place;
        of_schema = subst (λ (l : List Cell). All IsOf l) (sym h.waiting)
            (All-drop IsOf h.count f.waiting has.of_schema);
        since = subst (λ (c : Cells). Holds s c (cells_of start.keeper)) (sym made)
            (still_held s is es x (cells_of start.keeper) has.since);
        held = λ e among. subst (λ (c : Cells). Holds s c (one e) ⊎ Contains (map owned_cell g.waiting) e) (sym made)
            (subst (λ (l : List Cell). Holds s (join_cells s x es) (one e) ⊎ Contains (map owned_cell l) e)
            (sym h.waiting) (⊎_elim
            (λ before. inl (still_held s is es x (one e) before))
            (λ waits. ⊎_elim (λ new. inl (each_held s is es x e trim new)) (λ still. inr still)
            (Contains-append_cases es (map owned_cell rest) e
            (subst (λ (l : List NamedCell). Contains l e) all waits)))
            (has.held e among)));
      }

  all_joined : (followers : List Follower) → AreFollowers s begin.offset text start followers
      → AllByRecursion Joined (followers ++ start ∷ [])
  all_joined [] are = (at_start, tt)
  all_joined (g ∷ before) are =
      let others = all_joined before are.1 in
      let f = are.0.0 in
      let has = All-contains Joined (before ++ start ∷ []) f
      (All-from_recursion Joined (before ++ start ∷ []) others) are.0.1 in (
        ⊎_elim (λ read. read_on f g has read)
            (λ other. ⊎_elim (λ joined. joined_first f g has joined) (λ on. gone_on f g has on) other) are.0.2,
        others,
      )

  has_joined : (f : Follower) → HasFollowed s begin rs start f → Joined f
  has_joined f h = All-contains Joined (h.followers ++ start ∷ []) f
      (All-from_recursion Joined (h.followers ++ start ∷ []) (all_joined h.followers h.steps)) h.among

-- each cell of records that it is behind is held
each_is_held : (s : Layout) (begin : Cursor) (text rs later : List Raw) (cells : List NamedCell) (start f : Follower)
    → text ≡ rs ++ later → CanStand begin text → HasJoinedSome s begin text start f → IsBehind begin rs f
    → HaveAll s cells rs → (e : NamedCell) → Contains cells e → Holds s (cells_of f.keeper) (one e)
each_is_held s begin text rs later cells start f parts can has far all e among =
    let short = can.short in
    let offset : f.place.offset ≡ moved_by (records_len has.first) begin.offset =
    ap (λ (c : Cursor). c.offset) has.place in
    let more = begins_with rs later has.first has.later (sym parts ∙ has.parts)
    (let behind = far.offset in omega (arith, behind, offset, short)) in
    let read : meanings_of s (rs ++ more.0) ≡ Ok has.meanings =
    sym (ap (meanings_of s) more.1) ∙ has.read in
    let a = meanings_apart s rs more.0 has.meanings read in
    let same : all.meanings ≡ a.0 = cc (sym all.read ∙ a.2) in
    let first : Contains (cells_of_all a.0) e =
    subst (λ (l : List Meaning). Contains (cells_of_all l) e) same
    (All-contains (Contains (cells_of_all all.meanings)) cells e all.whole among) in
    ⊎_elim (λ held. held)
    (λ waits. absurd (nowhere e (subst (λ (l : List Cell). Contains (map owned_cell l) e) far.waiting waits)))
    (has.held e (subst (λ (l : List NamedCell). Contains l e)
    (sym (ap cells_of_all a.3 ∙ flat_map-append cells_of_record a.0 a.1))
    (Contains-append_left (cells_of_all a.0) (cells_of_all a.1) e first)))

all_of : (P : NamedCell → Type 0) (es : List NamedCell) → ((e : NamedCell) → Contains es e → P e) → AllByRecursion P es
all_of P es each = recursion_from_All P es (All-weaker (Contains es) P each es (All-contains_itself es))

pub followers_hold_all : FollowersHoldAll
followers_hold_all s begin writes rs later start f is are all can starts followed far =
    let x = cells_of f.keeper in
    let has = has_joined s is begin (rs ++ later) can start starts f followed in
    let trim = holds_trimmed s is x (cells_of start.keeper) has.since in
    brought s is writes empty x are (sym (join_nothing s x trim))
    (all_of (λ e. Holds s x (one e)) (written_cells writes)
    (each_is_held s begin (rs ++ later) rs later (written_cells writes) start f refl can has far all))

pub checkpointed_hold_all : CheckpointedHoldAll
checkpointed_hold_all s begins m batches last writes checkpoint rs later start f g is kept goes whole can starts
    followed far are all can_later followed_later far_later =
    let before = has_joined s is begins checkpoint can start starts f followed in
    let at = from_checkpoint begins f in
    let starts_later : IsStart s begins at = record {
      place = refl;
      waiting = refl;
      schema = before.schema;
      live = holds_trimmed s is (cells_of f.keeper) (cells_of start.keeper) before.since;
    } in
    let after = has_joined s is begins (rs ++ later) can_later at starts_later g followed_later in
    let x = cells_of g.keeper in
    let trim = holds_trimmed s is x (cells_of f.keeper) after.since in
    let first = walked None batches last in
    let second = written_cells writes in
    let es = first ++ second in
    let each : (e : NamedCell) → Contains es e → Holds s x (one e) =
    λ e among. ⊎_elim
    (λ here. holds_further s is x (cells_of f.keeper) (one e) after.since
    (each_is_held s begins checkpoint checkpoint [] first start f (sym (append-nil checkpoint)) can before far whole e
    here))
    (λ written. each_is_held s begins (rs ++ later) rs later second at g refl can_later after far_later all e written)
    (Contains-append_cases first second e among) in
    holds_further s is x (join_cells s empty es) (last_cells m writes)
    (made_held s is es x empty (sym (join_nothing s x trim)) (all_of (λ e. Holds s x (one e)) es each))
    (walks_bring_all s m empty writes batches last es is kept are goes (trimmed_none s) (All-contains_itself es))
