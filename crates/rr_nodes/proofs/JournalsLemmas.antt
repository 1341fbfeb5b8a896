-- Journals of nodes: their cells were held, to read them is to take cells, and who took all holds all.
use Rattle.std.proofs.Common.{arith, ◌≡◌, ◌≢◌, ℕ, zero, suc, ◌+◌, ℤ, Bool, true, false, cond, ◌||◌, List, [], ◌∷◌, ◌++◌, map, fold, length, slice_get, append_assoc, refl, sym, ap, ◌∙◌, subst, true≢false, Option, Some, None, is_some}
use Rattle.std.specs.Prelude.{nat_le, if◌then◌else◌, All, Contains}
use Rattle.std.specs.List.{AllByRecursion, filter}
use Rattle.std.specs.Ordering.{nat_cmp, eq_by_cmp}
use Rattle.std.specs.Cmp.{nat_cmp_total}
use Rattle.std.specs.FinMap.{empty, get, insert, keys, contains_key, get-empty, get-insert, nat_cmp-IsAntisymmetric}
use Rattle.std.proofs.lemmas.Bool.Decides.{nat_tests}
use Rattle.std.proofs.lemmas.List.Elements.{All-contains, All-contains_itself, All-head, All-tail, All-weaker, recursion_from_All}
use Rattle.std.proofs.lemmas.List.Sums.{fold-append}
use Rattle.rr_text.specs.declared.limits.TheConstants.{MAX_NUMBER}
use Rattle.rr_text.specs.Options.{◌>>=◌}
use Rattle.rr_schema.specs.Schema.{Layout, IsLayout}
use Rattle.rr_join.proofs.Members.{same_from_tie}
use Rattle.rr_join.proofs.ValuesLemmas.{get-insert_itself, insert_cases}
use Rattle.rr_contrib.specs.declared.contribution.Contribution.{Contribution}
use Rattle.rr_cells.specs.CellNames.{CellName}
use Rattle.rr_cells.specs.CellBounds.{NamedCell}
use Rattle.rr_cells.specs.Cells.{Cells, IsTrimmed}
use Rattle.rr_cells.specs.declared.cell.Cell.{Cell}
use Rattle.rr_cells.specs.declared.op.Op.TheVariants.{Join}
use Rattle.rr_cells.specs.Joins.{join, join_cell, join_cells}
use Rattle.rr_cells.specs.Knowledge.{Knowledge, knows, live, union, with_marks, cells_named, difference}
use Rattle.rr_cells.specs.Versions.{is_newer, newer_names}
use Rattle.rr_cells.proofs.Deliveries.{difference_brings_all}
use Rattle.rr_cells.proofs.Differing.{difference_is_by_versions}
use Rattle.rr_cells.proofs.Writes.{union_is_closed}
use Rattle.rr_cells.specs.Listing.{owned_cell}
use Rattle.rr_cells.specs.Samples.{Mark, marks_of}
use Rattle.rr_cells.specs.State.{cells_of_knowledge}
use Rattle.rr_cells.proofs.CellByCell.{join_nothing, trimmed_none}
use Rattle.rr_cells.proofs.Knowing.{knows-union, same_knowledge}
use Rattle.rr_cells.proofs.Uniting.{join_states}
use Rattle.rr_changes.specs.Updates.{Holds, last_cells, written_cells}
use Rattle.rr_changes.specs.Checkpoints.{walked}
use Rattle.rr_changes.proofs.CheckpointLemmas.{checkpoints_bring_all, walks_bring_all, walked_was_held, written_was_held}
use Rattle.rr_changes.proofs.HoldingLemmas.{one, holds_further, holds_joined, holds_trimmed, made_held, updates_make_the_last}
use Rattle.rr_desk.specs.KeeperState.{with_pending}
use Rattle.rr_desk.specs.ReaderState.{with_joined}
use Rattle.rr_nodes.specs.Nodes.{Node, Nodes, Model, Moment, Deed, opened, wrote, took, loaded, all_held, held_at, holding, where_some, with_new, written, taken, after, after_all}
use Rattle.rr_nodes.specs.Models.{cell_model, sample_model}
use Rattle.rr_nodes.specs.Calls.{Call, Desk, Desks, Leave, joins, kept_by}
use Rattle.rr_nodes.specs.Sessions.{now_at}
use Rattle.rr_nodes.specs.Journals.{AreMomentsElsewhere, WasElsewhere, WrittenWereHeld, CheckpointsWereHeld, WalksWereHeld, takes_of, ReadCellsAreDeeds, ReadCellsAreAKeepers, WasAtADesk, ReadCellsAreJoins, NodesOnlyAdd, HasTaken, HoldersKnowAll, TakenAreHeld, JournalsBringAll, CheckpointedBringAll, WalkedBringAll}
use Rattle.rr_nodes.proofs.CallsLemmas as calls
use Rattle.rr_nodes.proofs.DeedsLemmas.{from_cells, held_then, premises_are_kept}
use Rattle.rr_nodes.proofs.KeepersLemmas.{join_is_a_deed}
use Rattle.rr_nodes.proofs.NodesLemmas.{held_is_closed}
use Rattle.rr_nodes.proofs.PullsLemmas.{held_elsewhere, none_more}

-- ---- what stands in a journal

-- a cell of one of these moments was held elsewhere
was_elsewhere : (ns : Nodes Cells) (origin : ℕ) (moments : List Cells) (held : Cells) (e : NamedCell)
    → AreMomentsElsewhere ns origin moments → Contains moments held → get held e.0 ≡ Some e.1
    → WasElsewhere ns origin e
was_elsewhere ns origin moments held e are among cell =
    let at = All-contains (λ held. (there : Moment) × (there.origin ≢ origin) × (held_at ns there ≡ Some held)) moments
    held are among in
    record { there = at.0; other = at.1; held = held; was = at.2; cell = cell }

pub written_were_held : WrittenWereHeld
written_were_held s ns origin m writes are moments =
    All-weaker (Contains (written_cells writes)) (WasElsewhere ns origin) (λ e has.
    let held = written_was_held s writes m are e has in
    was_elsewhere ns origin (map (λ w. w.cells) writes) held.0 e moments held.1 held.2)
    (written_cells writes) (All-contains_itself (written_cells writes))

pub checkpoints_were_held : CheckpointsWereHeld
checkpoints_were_held ns origin moments cells of are =
    All-weaker (Contains cells) (WasElsewhere ns origin) (λ e has.
    let moment = of e.0.key in
    was_elsewhere ns origin moments moment.0 e are moment.1 ((moment.2 e.0 e.1 refl).0 has))
    cells (All-contains_itself cells)

pub walks_were_held : WalksWereHeld
walks_were_held ns origin batches last are =
    let cells = walked None batches last in
    All-weaker (Contains cells) (WasElsewhere ns origin) (λ e has.
    let held = walked_was_held batches None last [] e has in
    was_elsewhere ns origin (map (λ b. b.held) batches ++ last ∷ []) held.0 e are held.1 held.2)
    cells (All-contains_itself cells)

-- ---- what is read

-- a node that holds something is there
node_of : {K : Type 0} (ns : Nodes K) (origin : ℕ) (k : K) → held_at ns (now_at origin) ≡ Some k
    → (n : Node K) × (get ns origin ≡ Some n) × (n.now ≡ k)
node_of {K} ns origin k = by (get ns origin) refl
  where
    by : (o : Option (Node K)) → get ns origin ≡ o → (o >>= λ n. slice_get (all_held n) 0) ≡ Some k
        → (n : Node K) × (get ns origin ≡ Some n) × (n.now ≡ k)
    by None e h = absurd cc
    by (Some n) e h = (n, e, cc)

module _ (s : Layout) where
  -- a cell that is taken is joined
  take_one : (ns : Nodes Cells) (origin : ℕ) (there : Moment) (n : Node Cells) (held : Cells) (name : CellName)
      → get ns origin ≡ Some n → held_at ns there ≡ Some held
      → after cell_model s ns (took origin there name) ≡ insert ns origin (taken cell_model s origin n held name)
  take_one ns origin there n held name here was =
      ap (λ (o : Option (Node Cells)). where_some o ns (λ x. where_some (held_at ns there) ns
      (λ l. insert ns origin (taken cell_model s origin x l name)))) here
      ∙ ap (λ (o : Option Cells). where_some o ns (λ l. insert ns origin (taken cell_model s origin n l name))) was

  taken_now : (origin : ℕ) (n : Node Cells) (held : Cells) (e : NamedCell) → get held e.0 ≡ Some e.1
      → (taken cell_model s origin n held e.0).now ≡ join_cell s n.now e.0 e.1
  taken_now origin n held e cell =
      ap (λ (o : Option Contribution). where_some o n.now (λ c. join_cell s n.now e.0 c)) cell

  each_elsewhere : (ns : Nodes Cells) (origin : ℕ) (n : Node Cells) (es : List NamedCell)
      → AllByRecursion (WasElsewhere ns origin) es → AllByRecursion (WasElsewhere (insert ns origin n) origin) es
  each_elsewhere ns origin n [] all = tt
  each_elsewhere ns origin n (e ∷ es) all = (
    record {
      there = all.0.there;
      other = all.0.other;
      held = all.0.held;
      was = held_elsewhere ns origin n all.0.there all.0.other ∙ all.0.was;
      cell = all.0.cell;
    },
    each_elsewhere ns origin n es all.1,
  )

  read_on : (ns : Nodes Cells) (origin : ℕ) (n : Node Cells) (es : List NamedCell) → get ns origin ≡ Some n
      → AllByRecursion (WasElsewhere ns origin) es
      → (cells : List (Moment × CellName)) × (map (λ c. c.1) cells ≡ map (λ e. e.0) es)
      × (held_at (fold (after cell_model s) ns (takes_of origin cells)) (now_at origin) ≡ Some (join_cells s n.now es))
  read_on ns origin n [] here all = (
    [],
    refl,
    ap (λ (o : Option (Node Cells)). o >>= λ x. slice_get (all_held x) 0) here,
  )
  read_on ns origin n (e ∷ es) here all =
      let w = all.0 in
      let next = taken cell_model s origin n w.held e.0 in
      let rest = read_on (insert ns origin next) origin next es
      (get-insert_itself nat_cmp_total nat_cmp-IsAntisymmetric ns origin next)
      (each_elsewhere ns origin next es all.1) in (
        (w.there, e.0) ∷ rest.0,
        ap (λ (l : List CellName). e.0 ∷ l) rest.1,
        ap (λ (m : Nodes Cells). held_at (fold (after cell_model s) m (takes_of origin rest.0)) (now_at origin))
            (take_one ns origin w.there n w.held e.0 here w.was)
            ∙ rest.2 ∙ ap (λ (m : Cells). Some (join_cells s m es)) (taken_now origin n w.held e w.cell),
      )

pub read_cells_are_deeds : ReadCellsAreDeeds
read_cells_are_deeds s deeds origin had es now all =
    let ns = after_all cell_model s deeds in
    let n = node_of ns origin had now in
    let read = read_on s ns origin n.0 es n.1 (recursion_from_All (WasElsewhere ns origin) es all) in record {
      cells = read.0;
      names = read.1;
      then = ap (λ (m : Nodes Cells). held_at m (now_at origin))
          (fold-append (after cell_model s) empty deeds (takes_of origin read.0))
          ∙ read.2 ∙ ap (λ (m : Cells). Some (join_cells s m es)) n.2;
    }

pub read_cells_are_a_keepers : ReadCellsAreAKeepers
read_cells_are_a_keepers opening k n [] all is = is
read_cells_are_a_keepers opening k n (c ∷ cells) all is =
    let stands : Cell × Cells → Type 0 = λ c. get c.1 (owned_cell c.0).0 ≡ Some c.0.contribution in
    read_cells_are_a_keepers opening (with_pending k (Join c.0))
    (taken cell_model k.schema k.origin n c.1 (owned_cell c.0).0) cells (All-tail stands c cells all)
    (join_is_a_deed opening k n c.1 c.0 (All-head stands c cells all) is)

-- ---- among desks

module _ (s : Layout) (origin : ℕ) where
  desks_elsewhere : (ds : Desks) (d : Desk) (cells : List Cell) → AllByRecursion (WasAtADesk s ds origin) cells
      → AllByRecursion (WasAtADesk s (insert ds origin d) origin) cells
  desks_elsewhere ds d [] all = tt
  desks_elsewhere ds d (c ∷ cells) all = let at = all.0 in (
    record {
      there = at.there;
      other = at.other;
      list = at.list;
      begun = record {
        desk = at.begun.desk;
        is_there = calls.elsewhere ds origin d at.there at.other ∙ at.begun.is_there;
        opened = at.begun.opened;
        begins = at.begun.begins;
      };
      cell = at.cell;
    },
    desks_elsewhere ds d cells all.1,
  )

  join_each : (ds : Desks) (d : Desk) (cells : List Cell) → get ds origin ≡ Some d
      → AllByRecursion (WasAtADesk s ds origin) cells
      → (list : List Call) × Leave s ds origin d list (with_joined d.keeper cells)
  join_each ds d [] here all = ([], calls.stays s origin ds d here)
  join_each ds d (c ∷ cells) here all =
      let at = all.0 in
      let k = with_pending d.keeper (Join c) in
      let next = insert ds origin (kept_by d k) in
      let rest = join_each next (kept_by d k) cells
      (get-insert_itself nat_cmp_total nat_cmp-IsAntisymmetric ds origin (kept_by d k))
      (desks_elsewhere ds (kept_by d k) cells all.1) in (
        joins origin at.there at.list c ∷ rest.0,
        calls.and_then s origin ds d (joins origin at.there at.list c) k (with_joined k cells) rest.0
            ((d, here), at.begun, at.cell) (calls.changed s origin ds d (λ j. with_pending j (Join c)) here) rest.1,
      )

pub read_cells_are_joins : ReadCellsAreJoins
read_cells_are_joins s ds origin d cells here all =
    join_each s origin ds d cells here (recursion_from_All (WasAtADesk s ds origin) cells all)

-- ---- nodes go on

-- what a node held before stands behind what came since
record GoesOn {K : Type 0} (n m : Node K) : Type 0 where
  newer : List K
  all : all_held m ≡ newer ++ all_held n

-- the node of an origin is there still, and went on
abbrev IsThereStill : {K : Type 0} → Nodes K → ℕ → Node K → Type 0
IsThereStill {K} ns origin n = (m : Node K) × (get ns origin ≡ Some m) × GoesOn n m

module _ {K : Type 0} where
  stays_so : (n : Node K) → GoesOn n n
  stays_so n = record { newer = []; all = refl }

  holds_next : (n : Node K) (next : ℕ) (k : K) → GoesOn n (holding n next k)
  holds_next n next k = record { newer = k ∷ []; all = refl }

  goes_further : (n m l : Node K) → GoesOn n m → GoesOn m l → GoesOn n l
  goes_further n m l a b = record {
    newer = b.newer ++ a.newer;
    all = b.all ∙ ap (λ (l : List K). b.newer ++ l) a.all ∙ sym (append_assoc b.newer a.newer (all_held n));
  }

  module _ (origin : ℕ) (n : Node K) (ns : Nodes K) (here : get ns origin ≡ Some n) where
    unchanged : IsThereStill ns origin n
    unchanged = (n, here, stays_so n)

    where_still : {X : Type 0} (o : Option X) (f : X → Nodes K)
        → ((x : X) → o ≡ Some x → IsThereStill (f x) origin n) → IsThereStill (where_some o ns f) origin n
    where_still None f each = unchanged
    where_still (Some x) f each = each x refl

    put_still : (q : ℕ) (old new : Node K) → get ns q ≡ Some old → GoesOn old new
        → IsThereStill (insert ns q new) origin n
    put_still q old new there on = by (eq_by_cmp nat_cmp origin q) refl (get-insert nat_cmp_total ns q new origin)
      where
        by : (b : Bool) → eq_by_cmp nat_cmp origin q ≡ b
            → get (insert ns q new) origin ≡ cond b (Some new) (get ns origin) → IsThereStill (insert ns q new) origin n
        by true t e =
            let same : Some old ≡ Some n = sym there
            ∙ ap (get ns) (sym (same_from_tie nat_cmp_total nat_cmp-IsAntisymmetric origin q t)) ∙ here in
            let node : old ≡ n = cc (same) in
            (new, e, subst (λ (m : Node K). GoesOn m new) node on)
        by false t e = (n, e ∙ here, stays_so n)

    new_still : (q : ℕ) (k : K) → IsThereStill (with_new ns q k) origin n
    new_still q k = by (contains_key ns q) refl
      where
        new : Node K
        new = record { next = 1; now = k; before = [] }

        put : contains_key ns q ≡ false → (b : Bool) → eq_by_cmp nat_cmp origin q ≡ b
            → get (insert ns q new) origin ≡ cond b (Some new) (get ns origin) → IsThereStill (insert ns q new) origin n
        put none true t e = absurd (true≢false (sym (ap is_some here)
            ∙ ap (λ (o : ℕ). is_some (get ns o)) (same_from_tie nat_cmp_total nat_cmp-IsAntisymmetric origin q t)
            ∙ none))
        put none false t e = (n, e ∙ here, stays_so n)

        by : (b : Bool) → contains_key ns q ≡ b
            → IsThereStill (if b then ns else insert ns q new) origin n
        by true t = unchanged
        by false t = put t (eq_by_cmp nat_cmp origin q) refl (get-insert nat_cmp_total ns q new origin)

  module _ (model : Model K) (s : Layout) where
    written_on : (origin : ℕ) (n : Node K) (key : List ℕ) (time value : ℤ)
        → GoesOn n (written model s origin n key time value)
    written_on origin n key time value = elim (nat_le n.next MAX_NUMBER) as (λ b. GoesOn n
        (if b then holding n (n.next + 1) (model.with_one s n.now
        (record { time = time; origin = origin; number = n.next; key = key; value = value })) else n)) [
          | true ↦ holds_next n (n.next + 1) _
          | false ↦ stays_so n
        ]

    deed_still : (origin : ℕ) (n : Node K) (ns : Nodes K) → get ns origin ≡ Some n → (d : Deed)
        → IsThereStill (after model s ns d) origin n
    deed_still origin n ns here (opened q) = new_still origin n ns here q model.nothing
    deed_still origin n ns here (wrote q key time value) =
        where_still origin n ns here (get ns q) _ (λ old there.
        put_still origin n ns here q old (written model s q old key time value) there
        (written_on q old key time value))
    deed_still origin n ns here (took q there name) =
        where_still origin n ns here (get ns q) _ (λ old at. where_still origin n ns here (held_at ns there) _ (λ k was.
        put_still origin n ns here q old (taken model s q old k name) at (holds_next old _ _)))
    deed_still origin n ns here (loaded q there) =
        where_still origin n ns here (held_at ns there) _ (λ k was. new_still origin n ns here q (model.kept s k))

    deeds_still : (deeds : List Deed) (origin : ℕ) (n : Node K) (ns : Nodes K) → get ns origin ≡ Some n
        → IsThereStill (fold (after model s) ns deeds) origin n
    deeds_still [] origin n ns here = (n, here, stays_so n)
    deeds_still (d ∷ deeds) origin n ns here =
        let one = deed_still origin n ns here d in
        let all = deeds_still deeds origin one.0 (after model s ns d) one.1 in
        (all.0, all.1, goes_further n one.0 all.0 one.2 all.2)

-- ---- and hold what they held

abbrev Knows : Knowledge → Knowledge → Type 0
Knows l k = (m : Mark) → knows k m ≡ true → knows l m ≡ true

-- a node knows all that it ever knew
abbrev Gathers : Node Knowledge → Type 0
Gathers n = AllByRecursion (Knows n.now) n.before

abbrev AllGather : Nodes Knowledge → Type 0
AllGather ns = (origin : ℕ) (n : Node Knowledge) → get ns origin ≡ Some n → Gathers n

further : (k l : Knowledge) (ks : List Knowledge) → Knows l k → AllByRecursion (Knows k) ks
    → AllByRecursion (Knows l) ks
further k l [] more all = tt
further k l (x ∷ xs) more all = ((λ m h. more m (all.0 m h)), further k l xs more all.1)

knows_union : (k l : Knowledge) → Knows (union k l) k
knows_union k l m h = knows-union k l m ∙ ap (λ (b : Bool). b || knows l m) h

holding_gathers : (n : Node Knowledge) (next : ℕ) (l : Knowledge) → Gathers n → Gathers
    (holding n next (union n.now l))
holding_gathers n next l all =
    (knows_union n.now l, further n.now (union n.now l) n.before (knows_union n.now l) all)

module _ (s : Layout) (ns : Nodes Knowledge) (all : AllGather ns) where
  where_gather : {X : Type 0} (o : Option X) (f : X → Nodes Knowledge) → ((x : X) → o ≡ Some x → AllGather (f x))
      → AllGather (where_some o ns f)
  where_gather None f each = all
  where_gather (Some x) f each = each x refl

  put_gathers : (q : ℕ) (n : Node Knowledge) → Gathers n → AllGather (insert ns q n)
  put_gathers q n gathers origin m e = insert_cases nat_cmp_total nat_cmp-IsAntisymmetric ns q n origin m e
      (λ at same. subst Gathers same gathers) (λ other here. all origin m here)

  new_gathers : (q : ℕ) (k : Knowledge) → AllGather (with_new ns q k)
  new_gathers q k = elim (contains_key ns q) as (λ b. AllGather
      (if b then ns else insert ns q (record { next = 1; now = k; before = [] }))) [
        | true ↦ all
        | false ↦ put_gathers q (record { next = 1; now = k; before = [] }) tt
      ]

  written_gathers : (q : ℕ) (n : Node Knowledge) (key : List ℕ) (time value : ℤ) → Gathers n
      → Gathers (written sample_model s q n key time value)
  written_gathers q n key time value gathers = elim (nat_le n.next MAX_NUMBER) as (λ b. Gathers
      (if b then holding n (n.next + 1) (with_marks n.now (marks_of s
      (record { time = time; origin = q; number = n.next; key = key; value = value }))) else n)) [
        | true ↦ holding_gathers n (n.next + 1) _ gathers
        | false ↦ gathers
      ]

  deed_gathers : (d : Deed) → AllGather (after sample_model s ns d)
  deed_gathers (opened q) = new_gathers q empty
  deed_gathers (wrote q key time value) = where_gather (get ns q) _ (λ n here.
      put_gathers q (written sample_model s q n key time value) (written_gathers q n key time value (all q n here)))
  deed_gathers (took q there name) = where_gather (get ns q) _ (λ n here. where_gather (held_at ns there) _ (λ k was.
      put_gathers q (taken sample_model s q n k name) (holding_gathers n n.next _ (all q n here))))
  deed_gathers (loaded q there) = where_gather (held_at ns there) _ (λ k was. new_gathers q (sample_model.kept s k))

deeds_gather : (s : Layout) (deeds : List Deed) (ns : Nodes Knowledge) → AllGather ns
    → AllGather (fold (after sample_model s) ns deeds)
deeds_gather s [] ns all = all
deeds_gather s (d ∷ deeds) ns all = deeds_gather s deeds (after sample_model s ns d) (deed_gathers s ns all d)

no_node : (origin : ℕ) (n : Node Knowledge) → get {R = nat_cmp} empty origin ≡ Some n → Gathers n
no_node origin n e = absurd (true≢false (sym (ap is_some e) ∙ ap is_some (get-empty nat_cmp origin)))

-- what was known at some moment is known now
known_still : (ns : Nodes Knowledge) (origin ago : ℕ) (k l : Knowledge) → AllGather ns
    → held_at ns (record { origin = origin; ago = ago }) ≡ Some k → held_at ns (now_at origin) ≡ Some l → Knows l k
known_still ns origin ago k l all was now =
    let n = node_of ns origin l now in
    subst (λ (x : Knowledge). Knows x k) n.2 (by n.0 (all origin n.0 n.1) ago
    (sym (ap (λ (o : Option (Node Knowledge)). o >>= λ n. slice_get (all_held n) ago) n.1) ∙ was))
  where
    among : (n : Node Knowledge) (ks : List Knowledge) (i : ℕ) → AllByRecursion (Knows n.now) ks
        → slice_get ks i ≡ Some k → Knows n.now k
    among n [] i all e = absurd cc
    among n (x ∷ xs) zero all e = let same : x ≡ k = cc in subst (Knows n.now) same all.0
    among n (x ∷ xs) (suc i) all e = among n xs i all.1 e

    by : (n : Node Knowledge) → Gathers n → (i : ℕ) → slice_get (all_held n) i ≡ Some k → Knows n.now k
    by n gathers i e = among n (all_held n) i ((λ m h. h), gathers) e

pub nodes_only_add : NodesOnlyAdd
nodes_only_add s deeds origin ago m x is was now =
    let ns = after_all sample_model s deeds in
    let kept = premises_are_kept s deeds is in
    let at : Moment = record { origin = origin; ago = ago } in
    let old = from_cells s (held_at ns at) m (sym (held_then s deeds at is) ∙ was) in
    let new = from_cells s (held_at ns (now_at origin)) x (sym (held_then s deeds (now_at origin) is) ∙ now) in
    let k = old.0 in
    let l = new.0 in
    let still = known_still ns origin ago k l (deeds_gather s deeds empty no_node) old.1 new.1 in
    let same : union l k ≡ l = same_knowledge (union l k) l (λ q. knows-union l k q
    ∙ either (knows l q) (knows k q) (still q)) in
    subst (λ (c : Cells). Holds s c m) new.2 (subst (λ (c : Cells). Holds s (cells_of_knowledge s l) c) old.2
    (join_states s is kept.0 l k (held_is_closed s kept.0 ns kept.1 (now_at origin) l new.1)
    (held_is_closed s kept.0 ns kept.1 at k old.1) ∙ ap (cells_of_knowledge s) same))
  where
    either : (a b : Bool) → (b ≡ true → a ≡ true) → (a || b) ≡ a
    either true b h = refl
    either false true h = sym (h refl)
    either false false h = refl

-- none of the cells of a map is newer than itself
none_newer : (m : Cells) → newer_names m m ≡ []
unfolding newer_names
none_newer m = by (keys m)
  where
    not_newer : (o : Option Contribution) → is_newer o o ≡ false
    not_newer None = refl
    not_newer (Some c) = grind (arith, nat_tests)

    by : (ns : List CellName) → filter (λ q. is_newer (get m q) (get m q)) ns ≡ []
    by [] = refl
    by (n ∷ ns) = ap (λ b. cond b (n ∷ filter (λ q. is_newer (get m q) (get m q)) ns)
        (filter (λ q. is_newer (get m q) (get m q)) ns)) (not_newer (get m n)) ∙ by ns

pub holders_know_all : HoldersKnowAll
holders_know_all s deeds origin there m x is was now holds =
    let ns = after_all sample_model s deeds in
    let kept = premises_are_kept s deeds is in
    let old = from_cells s (held_at ns there) m (sym (held_then s deeds there is) ∙ was) in
    let new = from_cells s (held_at ns (now_at origin)) x (sym (held_then s deeds (now_at origin) is) ∙ now) in
    let k = new.0 in
    let l = old.0 in
    let ck = held_is_closed s kept.0 ns kept.1 (now_at origin) k new.1 in
    let cl = held_is_closed s kept.0 ns kept.1 there l old.1 in
    let both = union k l in
    let same : cells_of_knowledge s both ≡ cells_of_knowledge s k =
    sym (join_states s is kept.0 k l ck cl)
    ∙ ap (λ (c : Cells). join s c (cells_of_knowledge s l)) new.2 ∙ ap (λ (c : Cells). join s x c) old.2 ∙ holds
    ∙ sym new.2 in
    let none : difference s both k ≡ [] =
    sym (difference_is_by_versions s kept.0 both k is (union_is_closed s kept.0 k l is ck cl) ck)
    ∙ ap (λ (c : Cells). newer_names c (cells_of_knowledge s k)) same ∙ none_newer (cells_of_knowledge s k) in
    record {
      known = k;
      is_known = new.1;
      given = l;
      is_given = old.1;
      marks = ap (live s) (none_more s both k) ∙ ap (λ (names : List CellName). live s (union k (cells_named s both names)))
          (sym none) ∙ difference_brings_all s both k is ∙ ap (live s) (all_of k l);
    }
  where
    all_of : (k l : Knowledge) → union k (union k l) ≡ union k l
    all_of k l = same_knowledge (union k (union k l)) (union k l) (λ m.
        knows-union k (union k l) m ∙ ap (λ b. knows k m || b) (knows-union k l m)
        ∙ twice (knows k m) (knows l m) ∙ sym (knows-union k l m))
      where
        twice : (a b : Bool) → (a || (a || b)) ≡ (a || b)
        twice true b = refl
        twice false b = refl

-- ---- what was taken is held

behind_newer : {K : Type 0} (newer : List K) (k : K) (rest : List K)
    → slice_get (newer ++ k ∷ rest) (length newer) ≡ Some k
behind_newer [] k rest = refl
behind_newer (x ∷ newer) k rest = behind_newer newer k rest

module _ (s : Layout) (is : IsLayout s) (deeds : List Deed) (origin : ℕ) (x : Cells)
    (now : held_at (after_all cell_model s deeds) (now_at origin) ≡ Some x) where
  one_is_held : (e : NamedCell) → HasTaken s deeds origin e → Holds s x (one e)
  one_is_held e t =
      let ns = after_all cell_model s t.before in
      let n = taken cell_model s origin t.node t.held e.0 in
      let still = deeds_still cell_model s t.later origin n (insert ns origin n)
      (get-insert_itself nat_cmp_total nat_cmp-IsAntisymmetric ns origin n) in
      let ago = length still.2.newer in
      let last : after_all cell_model s deeds ≡ fold (after cell_model s) (insert ns origin n) t.later =
      ap (after_all cell_model s) t.among
      ∙ fold-append (after cell_model s) empty t.before (took origin t.there e.0 ∷ t.later)
      ∙ ap (λ (m : Nodes Cells). fold (after cell_model s) m t.later)
      (take_one s ns origin t.there t.node t.held e.0 t.here t.was) in
      let moment : held_at (after_all cell_model s deeds) (record { origin = origin; ago = ago }) ≡ Some n.now =
      ap (λ (m : Nodes Cells). held_at m (record { origin = origin; ago = ago })) last
      ∙ ap (λ (o : Option (Node Cells)). o >>= λ n. slice_get (all_held n) ago) still.1
      ∙ ap (λ (l : List Cells). slice_get l ago) still.2.all
      ∙ behind_newer still.2.newer n.now n.before in
      holds_further s is x n.now (one e) (nodes_only_add s deeds origin ago n.now x is moment now)
      (subst (λ (m : Cells). Holds s m (one e)) (sym (taken_now s origin t.node t.held e t.cell))
      (holds_joined s is t.node.now (one e)))

  is_trimmed : IsTrimmed s x
  is_trimmed = holds_trimmed s is x x (nodes_only_add s deeds origin 0 x x is now now)

  all_are_held : (es : List NamedCell) → All (HasTaken s deeds origin) es → Holds s x (join_cells s empty es)
  all_are_held es all = made_held s is es x empty (sym (join_nothing s x is_trimmed))
      (recursion_from_All (λ e. Holds s x (one e)) es
      (All-weaker (HasTaken s deeds origin) (λ e. Holds s x (one e)) one_is_held es all))

pub taken_are_held : TakenAreHeld
taken_are_held s deeds origin x es is now all = all_are_held s is deeds origin x now es all

pub journals_bring_all : JournalsBringAll
journals_bring_all s deeds origin x writes is now are all =
    let es = written_cells writes in
    subst (λ (m : Cells). Holds s x m)
    (updates_make_the_last s empty writes es is (trimmed_none s) are (All-contains_itself es) (All-contains_itself es))
    (taken_are_held s deeds origin x es is now all)

pub checkpointed_bring_all : CheckpointedBringAll
checkpointed_bring_all s deeds origin m x moments cells writes is now kept are since of all =
    let es = cells ++ written_cells writes in
    holds_further s is x (join_cells s empty es) (last_cells m writes)
    (taken_are_held s deeds origin x es is now all)
    (checkpoints_bring_all s m empty writes moments cells es is kept are since of (trimmed_none s)
    (All-contains_itself es))

pub walked_bring_all : WalkedBringAll
walked_bring_all s deeds origin m x batches last writes is now kept are goes all =
    let es = walked None batches last ++ written_cells writes in
    holds_further s is x (join_cells s empty es) (last_cells m writes)
    (taken_are_held s deeds origin x es is now all)
    (walks_bring_all s m empty writes batches last es is kept are goes (trimmed_none s) (All-contains_itself es))
