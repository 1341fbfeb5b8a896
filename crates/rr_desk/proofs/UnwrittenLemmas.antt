-- What a keeper has not written, as operations are pushed and all is written.
use Rattle.std.proofs.Common.{◌≡◌, ◌≢◌, ℕ, ◌+◌, ◌-◌, ◌<◌, ◌≤◌, Bool, true, false, not, true≢false, List, [], ◌∷◌, ◌++◌, fold, length, take, drop, slice_get, Some, refl, sym, ap, ◌∙◌, subst, arith}
use Rattle.std.proofs.Math.Seq.{drop-length, take-length}
use Rattle.std.proofs.lemmas.List.{drop-append-le, length-append, take-append-le}
use Rattle.std.proofs.lemmas.List.Sums.{fold-append}
use Rattle.std.specs.FinMap.{get}
use mathlib.Core.List.{IsPrefix}
use Rattle.rr_schema.specs.Schema.{Layout}
use Rattle.rr_cells.specs.Cells.{Cells}
use Rattle.rr_cells.specs.declared.op.Op.{Op}
use Rattle.rr_cells.specs.declared.op.Op.TheVariants.{Put, Join}
use Rattle.rr_cells.specs.Listing.{owned_cell}
use Rattle.rr_cells.specs.Operations.{joins_of, op_key, outcome_of, step}
use Rattle.rr_cells.specs.ReplicaState.{IsReplicaState, ReplicaState}
use Rattle.rr_cells.proofs.OperationsLemmas.{outcome_of-joins, step-schema, steps-schema}
use Rattle.rr_changes.specs.declared.changed_series.ChangedSeries.{ChangedSeries}
use Rattle.rr_changes.specs.Changes.{HasArchivesOf}
use Rattle.rr_changes.specs.Tracking.{AreChangedSeries, AreTracked}
use Rattle.rr_changes.specs.Updates.{GoesOn, is_held}
use Rattle.rr_changes.proofs.AddingLemmas.{operations_go_on, operations_only_add, replicas_go_on}
use Rattle.rr_changes.proofs.ListedLemmas.{tracked_changes_make_the_cells}
use Rattle.rr_changes.proofs.CoveredLemmas.{covered_cells_are_an_update}
use Rattle.rr_changes.proofs.HeldLemmas.{held_cells_change_nothing}
use Rattle.rr_changes.proofs.TrackingLemmas.{one_more_is_tracked, still_tracked, tracked_operations_are_covered, unchanging_needs_no_tracking}
use Rattle.rr_replica.specs.ReplicaWithRoom.{ReplicaWithRoom, replica_state}
use Rattle.rr_desk.specs.declared.change.Change.{Change}
use Rattle.rr_desk.specs.declared.rule.View.{View}
use Rattle.rr_desk.specs.declared.unwritten.Unwritten.{Unwritten}
use Rattle.rr_desk.specs.Changes.{AreNamed, names_of, ops_in, prefix_after}
use Rattle.rr_desk.specs.Editions.{BookPrefix}
use Rattle.rr_desk.proofs.KeeperStateLemmas.{keeper-named}
use Rattle.rr_desk.proofs.PrefixLemmas.{prefix_refl}
use Rattle.rr_desk.specs.KeeperState.{IsKeeper, KeeperState, cells_of, own_replica, written_cells}
use Rattle.rr_desk.specs.Unwritten.{IsUnwritten, Tracks, TracksTheSame, may_change}
use Rattle.rr_desk.specs.Written.{CoverChanges, IsUpdateOf}

-- where nothing is counted, all is written
all-written : (own : ReplicaState) (keys : List (List ℕ)) (u : Unwritten) (ops : List Op) → GoesOn own
    → own.cells ≡ outcome_of own.schema ops → u.count ≡ 0 → IsUnwritten own keys u ops
all-written own keys u ops goes e none =
    let n : length ops - u.count ≡ length ops = omega (arith, none) in
    let rest : drop (length ops - u.count) ops ≡ [] = ap (λ k. drop k ops) n ∙ drop-length ops in
    record {
      few = omega (arith, none);
      before = own;
      goes_on = goes;
      cells = e ∙ ap (outcome_of own.schema) (sym (ap (λ k. take k ops) n ∙ take-length ops));
      applied = ap (fold step own) (sym rest);
      tracked = subst (AreTracked keys u.tracker own) (sym rest) tt;
    }

-- a desk that opens has written all
pub unwritten-open : (own : ReplicaState) (keys : List (List ℕ)) (u : Unwritten) (ops : List Op) → IsReplicaState own
    → ops ≡ joins_of own.cells → u.count ≡ 0 → IsUnwritten own keys u ops
unwritten-open own keys u ops holds joins none = all-written own keys u ops (replicas_go_on own holds)
    (sym (outcome_of-joins own.schema own.cells holds.layout holds.live) ∙ ap (outcome_of own.schema) (sym joins)) none

module _ (own : ReplicaState) (keys : List (List ℕ)) (u : Unwritten) (ops : List Op) (is : IsUnwritten own keys u ops) where
  -- it goes on
  unwritten-goes_on : GoesOn own
  unwritten-goes_on = subst GoesOn (sym is.applied)
      (operations_go_on is.before (drop (length ops - u.count) ops) is.goes_on)

  -- more keys, and room
  pub unwritten-same : (more : List (List ℕ)) (v : Unwritten) → IsPrefix keys more → TracksTheSame u v
      → v.count ≡ u.count → IsUnwritten own more v ops
  unwritten-same more v grow same count = record {
    few = subst (λ n. n ≤ length ops) (sym count) is.few;
    before = is.before;
    goes_on = is.goes_on;
    cells = subst (λ n. is.before.cells ≡ outcome_of own.schema (take (length ops - n) ops)) (sym count) is.cells;
    applied = subst (λ n. own ≡ fold step is.before (drop (length ops - n) ops)) (sym count) is.applied;
    tracked = subst (λ n. AreTracked more v.tracker is.before (drop (length ops - n) ops)) (sym count)
        (still_tracked keys more u.tracker v.tracker grow same (drop (length ops - u.count) ops) is.before is.tracked);
  }

  -- all is written
  pub unwritten-none : (v : Unwritten) → own.cells ≡ outcome_of own.schema ops → v.count ≡ 0
      → IsUnwritten own keys v ops
  unwritten-none v e none = all-written own keys v ops unwritten-goes_on e none

  -- one operation more, which is tracked or changes nothing
  pub unwritten-more : (v : Unwritten) (op : Op) (series : ℕ) (changes : Bool) → slice_get keys series ≡ Some (op_key op)
      → v.count ≡ u.count + 1 → (changes ≡ true → Tracks u v series op) → (changes ≡ false → TracksTheSame u v)
      → (changes ≡ false → (step own op).cells ≡ own.cells)
      → IsUnwritten (step own op) keys v (ops ++ op ∷ [])
  unwritten-more v op series changes at count tracks same none =
      let n = length ops - u.count in
      let few = is.few in
      let long = length-append ops (op ∷ []) in
      let left : length (ops ++ op ∷ []) - v.count ≡ n = omega (arith, count, few, long) in
      let first : take (length (ops ++ op ∷ []) - v.count) (ops ++ op ∷ []) ≡ take n ops =
      ap (λ k. take k (ops ++ op ∷ [])) left ∙ take-append-le n ops (op ∷ []) (omega arith) in
      let last : drop (length (ops ++ op ∷ []) - v.count) (ops ++ op ∷ []) ≡ drop n ops ++ op ∷ [] =
      ap (λ k. drop k (ops ++ op ∷ [])) left ∙ drop-append-le n ops (op ∷ []) (omega arith) in
      record {
        few = omega (arith, count, few, long);
        before = is.before;
        goes_on = is.goes_on;
        cells = is.cells ∙ (λ i. outcome_of (sym (step-schema own op) i) (sym first i));
        applied = ap (λ (h : ReplicaState). step h op) is.applied
            ∙ sym (fold-append step is.before (drop n ops) (op ∷ []))
            ∙ ap (fold step is.before) (sym last);
        tracked = subst (AreTracked keys v.tracker is.before) (sym last) (by_case changes refl);
      }
    where
      by_case : (b : Bool) → changes ≡ b
          → AreTracked keys v.tracker is.before (drop (length ops - u.count) ops ++ op ∷ [])
      by_case true t =
          let now = tracks t in
          one_more_is_tracked keys keys u.tracker v.tracker is.before (drop (length ops - u.count) ops) op series
          (prefix_refl keys) at now.here now.others is.tracked
      by_case false t = unchanging_needs_no_tracking keys keys u.tracker v.tracker is.before
          (drop (length ops - u.count) ops) op (prefix_refl keys) (same t)
          (subst (λ (h : ReplicaState). (step h op).cells ≡ h.cells) is.applied (none t)) is.tracked

-- the cells of the series that have changed are an update since what is written
pub unwritten-covered : (k : KeeperState) (own : ReplicaState) (keys : List (List ℕ)) (u : Unwritten) (ops : List Op)
    (series : List ChangedSeries) → IsUnwritten own keys u ops → own ≡ own_replica k → k.published ++ k.pending ≡ ops
    → k.written ≡ length ops - u.count → AreChangedSeries keys u.tracker.times series → IsReplicaState own
    → CoverChanges k series
unwritten-covered k own keys u ops series is same all count changed holds =
    let h = is.before in
    let rest = drop (length ops - u.count) ops in
    let now = fold step h rest in
    let schema : h.schema ≡ k.schema = sym (steps-schema rest h) ∙ ap (λ (x : ReplicaState). x.schema) (sym is.applied)
    ∙ ap (λ (x : ReplicaState). x.schema) same in
    let cells : now.cells ≡ cells_of k = ap (λ (x : ReplicaState). x.cells) (sym is.applied)
    ∙ ap (λ (x : ReplicaState). x.cells) same in
    let written : h.cells ≡ written_cells k = is.cells
    ∙ (λ i. outcome_of ((same i).schema) (take (sym count i) (sym all i))) in
    let layout : own.schema ≡ h.schema = ap (λ (x : ReplicaState). x.schema) is.applied ∙ steps-schema rest h in
    let held : own.cells ≡ now.cells = ap (λ (x : ReplicaState). x.cells) is.applied in
    let has : HasArchivesOf h.schema now.cells = λ n c e. subst (λ (s : Layout). n.archive < length s.archives) layout
    (holds.cells n c (ap (λ (m : Cells). get m n) held ∙ e)).archive in
    let made : IsUpdateOf h.schema h.cells now.cells series = record {
      holds = operations_only_add h rest is.goes_on;
      update = covered_cells_are_an_update h rest series is.goes_on
          (tracked_operations_are_covered keys u.tracker series h rest changed is.tracked);
      makes = tracked_changes_make_the_cells h rest keys u.tracker series is.goes_on is.tracked changed has;
    } in
    subst (λ (z : Layout × Cells × Cells). IsUpdateOf z.0 z.1 z.2 series) (λ i. (schema i, written i, cells i)) made

-- ---- steps of a keeper

-- a keeper whose replica holds the same under more keys, by the same operations
pub unwritten-kept : (own new : ReplicaState) (keys more : List (List ℕ)) (u v : Unwritten) (ops all : List Op)
    → IsUnwritten own keys u ops → new ≡ own → IsPrefix keys more → TracksTheSame u v → v.count ≡ u.count → all ≡ ops
    → IsUnwritten new more v all
unwritten-kept own new keys more u v ops all is state grow same count ops-same =
    subst (λ (z : ReplicaState × List Op). IsUnwritten z.0 more v z.1) (λ i. (sym state i, sym ops-same i))
    (unwritten-same own keys u ops is more v grow same count)

-- under the same keys
pub same_keys : (keys more : List (List ℕ)) → more ≡ keys → IsPrefix keys more
same_keys keys more same = subst (IsPrefix keys) (sym same) (prefix_refl keys)

-- an operation that changes nothing
pub unchanging : (h : ReplicaState) (op : Op) → GoesOn h → may_change h.cells op ≡ false → (step h op).cells ≡ h.cells
unchanging h (Put x) goes e = absurd (true≢false e)
unchanging h (Join c) goes e = held_cells_change_nothing h c goes (held (is_held h.cells (owned_cell c)) e)
  where
    held : (b : Bool) → not b ≡ false → b ≡ true
    held true e = refl
    held false e = absurd (true≢false e)

-- a keeper that has pushed an operation, for which there was room
pub unwritten-push : (own new : ReplicaState) (keys more last : List (List ℕ)) (u v w : Unwritten) (ops all : List Op)
    (op : Op) (series : ℕ) (changes : Bool) → IsUnwritten own keys u ops
    → IsPrefix keys more → TracksTheSame u v → v.count ≡ u.count
    → changes ≡ may_change own.cells op → slice_get more series ≡ Some (op_key op) → w.count ≡ v.count + 1
    → (changes ≡ true → Tracks v w series op) → (changes ≡ false → TracksTheSame v w)
    → new ≡ step own op → last ≡ more → all ≡ ops ++ op ∷ [] → IsUnwritten new last w all
unwritten-push own new keys more last u v w ops all op series changes is grow same count may at counted tracks kept
    now keys-same longer =
    let ready = unwritten-same own keys u ops is more v grow same count in
    let pushed = unwritten-more own more v ops ready w op series changes at counted tracks kept
    (λ e. unchanging own op (unwritten-goes_on own keys u ops is) (sym may ∙ e)) in
    subst (λ (z : ReplicaState × List (List ℕ) × List Op). IsUnwritten z.0 z.1 w z.2)
    (λ i. (sym now i, sym keys-same i, sym longer i)) pushed

-- the number of operations that are written stays
pub written-stays : (ops all : List Op) (op : Op) (count more : ℕ) → all ≡ ops ++ op ∷ [] → more ≡ count + 1
    → length all - more ≡ length ops - count
written-stays ops all op count more longer counted =
    let long = ap length longer ∙ length-append ops (op ∷ []) in omega (arith, long, counted)

-- a keeper that made room: it may know more keys, and name some of them, and is else as before
pub keeper-readied : (z y : View × ReplicaWithRoom × BookPrefix) (own new : ReplicaState) (keys more : List (List ℕ))
    (book : BookPrefix) (cs ds : List Change) (named : ℕ) (ended : Bool) (u v : Unwritten) → y ≡ z → new ≡ own
    → IsKeeper z.0 (replica_state z.1) (names_of z.1) own z.2 book cs ended
    → ops_in (names_of z.1) ds ≡ ops_in (names_of z.1) cs → prefix_after z.2 ds ≡ prefix_after z.2 cs
    → AreNamed (names_of z.1) more ds named → IsUnwritten own keys u (z.0.seen ++ ops_in (names_of z.1) cs)
    → IsPrefix keys more → TracksTheSame u v → v.count ≡ u.count
    → IsKeeper y.0 (replica_state y.1) (names_of y.1) new y.2 book ds ended × AreNamed (names_of y.1) more ds named
    × IsUnwritten new more v (y.0.seen ++ ops_in (names_of y.1) ds)
keeper-readied z y own new keys more book cs ds named ended u v here state keeps pending prefix are is grow same count =
    subst (λ (x : View × ReplicaWithRoom × BookPrefix).
    IsKeeper x.0 (replica_state x.1) (names_of x.1) new x.2 book ds ended × AreNamed (names_of x.1) more ds named
    × IsUnwritten new more v (x.0.seen ++ ops_in (names_of x.1) ds)) (sym here) (
      subst (λ (h : ReplicaState). IsKeeper z.0 (replica_state z.1) (names_of z.1) h z.2 book ds ended) (sym state)
          (keeper-named z.0 (replica_state z.1) (names_of z.1) own z.2 book cs ds ended keeps pending prefix),
      are,
      unwritten-kept own new keys more u v (z.0.seen ++ ops_in (names_of z.1) cs)
          (z.0.seen ++ ops_in (names_of z.1) ds) is state grow same count (ap (λ (l : List Op). z.0.seen ++ l) pending),
    )
